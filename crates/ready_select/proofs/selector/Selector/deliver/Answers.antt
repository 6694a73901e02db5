use Rattle.std.proofs.Common.{◌≡◌, sym, ◌∙◌, subst, ap, cond, Bool, true, false, ◌&&◌, refl}
use Rattle.ready_select.specs.declared.selector.Delivered.TheVariants as told
use Rattle.ready_select.specs.Events.{IsAfter}
use Rattle.ready_select.proofs.Selecting.{after_deliver, tells_delivered}
use Rattle.ready_select.proofs.selector.Selector.deliver.Goals as goal
use Rattle.ready_select.proofs.selector.Selector.deliver.Goals.{then-is_selected+then-is_armed, else-is_selected, else-is_selected-via-then-is_selected+else-is_armed, else-is_selected-via-else-is_selected}

both : (a b : Bool) → a ≡ true → b ≡ true → (a && b) ≡ true
both a b p q = rw (p, q) refl

second : (a b : Bool) → a ≡ true → b ≡ false → (a && b) ≡ false
second a b p q = rw (p, q) refl

first : (a b : Bool) → a ≡ false → (a && b) ≡ false
first a b p = rw p refl

pub returns-clause-made : goal.returns-clause-made
returns-clause-made c = λ calls at. after_deliver calls _ _ _ _ _ (subst (λ e. IsAfter calls e) (sym c.self.view_is) at) c.args.dir _ _ c.remove.ensures

pub returns-clause-answer : goal.returns-clause-answer
returns-clause-answer c = λ calls at.
    let h = subst (λ e. IsAfter calls e) (sym c.self.view_is) at in
    let t = tells_delivered calls _ _ _ _ c.args.event h c.args.dir c.contains-is_selected.result c.contains-is_armed.result c.contains-is_selected.ensures c.contains-is_armed.ensures in
    elim c.if-is_selected.branch [
      | then-is_selected+then-is_armed w ↦ w.result-is ∙ sym (ap (λ b. cond b told.Call told.Stale) (t ∙ both _ _ w.if-is_selected.true w.if-is_armed.true))
      | else-is_selected w ↦ w.result-is ∙ elim w.else-is_selected.branch [
        | else-is_selected-via-then-is_selected+else-is_armed w' ↦ sym (ap (λ b. cond b told.Call told.Stale) (t ∙ second _ _ w'.if-is_selected.true w'.if-is_armed.false))
        | else-is_selected-via-else-is_selected w' ↦ sym (ap (λ b. cond b told.Call told.Stale) (t ∙ first _ _ w'.if-is_selected.false))
      ]
    ]
