use Rattle.std.proofs.Common.{sym, ◌∙◌, ◌++◌, ◌∷◌, [], subst, cond, ap}
use Rattle.ready_select.specs.declared.selector.Delivered.TheVariants as told
use Rattle.ready_select.specs.Events.{IsAfter, Dropped}
use Rattle.ready_select.proofs.Selecting.{after_stale, after_stopped}
use Rattle.ready_select.proofs.selector.Selector.dropped.Goals as goal

pub returns-then-not-contains-clause-made : goal.returns-then-not-contains-clause-made
returns-then-not-contains-clause-made c = λ calls at.
    subst (λ e. IsAfter (calls ++ Dropped c.args.event told.Stale ∷ []) e) c.self.view_is (after_stale calls _ _ _ _ c.args.event (subst (λ e. IsAfter calls e) (sym c.self.view_is) at))

pub returns-then-not-contains-clause-answer : goal.returns-then-not-contains-clause-answer
returns-then-not-contains-clause-answer c = λ calls at.
    let h = subst (λ e. IsAfter calls e) (sym c.self.view_is) at in
    sym (ap (λ b. cond b told.Stopped told.Stale) (sym (h.waiting c.args.event) ∙ sym c.contains.ensures ∙ c.if-not-contains.true))

pub returns-clause-made : goal.returns-clause-made
returns-clause-made c = λ calls at.
    after_stopped calls _ _ _ _ _ (subst (λ e. IsAfter calls e) (sym c.self.view_is) at) _ _ _ (sym c.contains.ensures ∙ c.if-not-contains.false) c.remove-2.ensures.left c.remove.ensures.left c.remove_both.ensures

pub returns-clause-answer : goal.returns-clause-answer
returns-clause-answer c = λ calls at.
    let h = subst (λ e. IsAfter calls e) (sym c.self.view_is) at in
    sym (ap (λ b. cond b told.Stopped told.Stale) (sym (h.waiting c.args.event) ∙ sym c.contains.ensures ∙ c.if-not-contains.false))
