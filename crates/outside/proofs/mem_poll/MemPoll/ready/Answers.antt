use Rattle.std.proofs.lemmas.Result.{IfOk-weaker}
use Rattle.outside.proofs.Sublists.{IsSublist-refl, IsSublist-filter, IsSublist-distinct}
use Rattle.outside.proofs.mem_poll.MemPoll.ready.Goals as goal

pub returns-in-None-clause-part : goal.returns-in-None-clause-part
returns-in-None-clause-part c =
    IfOk-weaker c.from_slice.result _ _ (λ events items. rw items (IsSublist-refl c.args.armed.now)) c.from_slice.ensures.items

pub returns-in-Some-clause-part : goal.returns-in-Some-clause-part
returns-in-Some-clause-part c =
    IfOk-weaker c.ready.result _ _ (λ events items. rw items (IsSublist-filter _ c.args.armed.now)) c.ready.ensures

pub returns-in-None-clause-once : goal.returns-in-None-clause-once
returns-in-None-clause-once c = IfOk-weaker c.from_slice.result _ _ (λ events items. rw items c.requires) c.from_slice.ensures.items

pub returns-in-Some-clause-once : goal.returns-in-Some-clause-once
returns-in-Some-clause-once c =
    IfOk-weaker c.ready.result _ _ (λ events items. rw items (IsSublist-distinct _ _ _ (IsSublist-filter _ c.args.armed.now) c.requires)) c.ready.ensures
