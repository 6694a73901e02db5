use Rattle.std.proofs.Common.{sym, subst}
use Rattle.ready_select.specs.Events.{IsAfter}
use Rattle.ready_select.proofs.Selecting.{room_after, after_on, after_off}
use Rattle.ready_select.proofs.selector.Selector.select.Goals as goal

pub insert-requires-then-on : goal.insert-requires-then-on
insert-requires-then-on c = room_after c.self.inside.listed _ _ _ (c.self.invariant.selected c.args.dir) c.insert.ensures.added c.insert.ensures.rising c.insert.ensures.few

pub returns-then-on : goal.returns-then-on
returns-then-on c = λ calls at.
    after_on calls _ _ _ _ _ (subst (λ e. IsAfter calls e) (sym c.self.view_is) at) c.args.dir c.args.on _ _ c.if-on.true (rw (← c.self.view_is) at c.requires.waits) c.insert.ensures.added c.insert-then-on.ensures

pub returns-else-on : goal.returns-else-on
returns-else-on c = λ calls at.
    after_off calls _ _ _ _ _ (subst (λ e. IsAfter calls e) (sym c.self.view_is) at) c.args.dir c.args.on _ _ c.if-on.false (rw (← c.self.view_is) at c.requires.waits) c.insert.ensures.added c.remove.ensures
