use Rattle.std.proofs.Common.{sym, ◌∙◌, subst}
use Rattle.ready_select.specs.Events.{IsAfter}
use Rattle.ready_select.proofs.Selecting.{room, after_arm}
use Rattle.ready_select.proofs.selector.Selector.arm.Goals as goal

pub returns-then-not-contains-clause-answer : goal.returns-then-not-contains-clause-answer
returns-then-not-contains-clause-answer c = λ calls at.
    let h = subst (λ e. IsAfter calls e) (sym c.self.view_is) at in
    sym c.if-not-contains.true ∙ c.contains.ensures ∙ h.selected c.args.event c.args.dir

pub insert-requires : goal.insert-requires
insert-requires c =
    room c.self.inside.listed _ _ c.self.invariant.rising c.self.invariant.few (c.self.invariant.armed c.args.dir)
    ((c.self.invariant.selected c.args.dir).within _ (sym c.contains.ensures ∙ c.if-not-contains.false))

pub returns-clause-made : goal.returns-clause-made
returns-clause-made c = λ calls at. after_arm calls _ _ _ _ _ (subst (λ e. IsAfter calls e) (sym c.self.view_is) at) c.args.dir _ c.insert.ensures

pub returns-clause-answer : goal.returns-clause-answer
returns-clause-answer c = λ calls at.
    let h = subst (λ e. IsAfter calls e) (sym c.self.view_is) at in
    sym c.if-not-contains.false ∙ c.contains.ensures ∙ h.selected c.args.event c.args.dir
