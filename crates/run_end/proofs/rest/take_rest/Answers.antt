use Rattle.std.proofs.Common.{sym, subst}
use Rattle.run_lanes.specs.Ends.{taken_in}
use Rattle.run_end.specs.Rest.{TookMore}
use Rattle.run_end.proofs.Rests.{more_none, more_then}
use Rattle.run_end.proofs.rest.take_rest.Goals as goal

pub mails-init : goal.mails-init
mails-init g c = subst (λ m. TookMore (taken_in c.args.mailbox.now c.args.ends.items) m c.args.mails.now.items c.args.mails.now.items) (sym c.take_all_in.ensures)
    (more_none (taken_in c.args.mailbox.now c.args.ends.items) c.args.mails.now.items)

pub mails-preserved : goal.mails-preserved
mails-preserved g c = more_then _ _ _ _ _ _ c.mails.invariant c.take_one.ensures.more

pub returns-in_err-more-clause-more : goal.returns-in_err-more-clause-more
returns-in_err-more-clause-more g c = more_then _ _ _ _ _ _ c.mails.invariant c.take_one.ensures.more

pub returns-then-not-more-clause-more : goal.returns-then-not-more-clause-more
returns-then-not-more-clause-more g c = more_then _ _ _ _ _ _ c.mails.invariant c.take_one.ensures.more
