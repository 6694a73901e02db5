use Rattle.std.proofs.Common.{sym, ◌∙◌, subst, cond, ap}
use Rattle.ready_select.specs.declared.selector.Unused.TheVariants.{Now, Later}
use Rattle.ready_select.specs.Events.{IsAfter}
use Rattle.ready_select.proofs.Selecting.{room, listed_if_armed, after_later, after_now, kept_later, stays_listed, leaves_list, tells_unused}
use Rattle.ready_select.proofs.selector.Selector.unuse.Goals as goal

pub insert-requires : goal.insert-requires
insert-requires c =
    room c.self.inside.listed _ _ c.self.invariant.rising c.self.invariant.few c.self.invariant.waiting
    (listed_if_armed _ _ _ _ _ c.self.invariant (sym c.contains_any.ensures ∙ c.if-contains_any.true))

pub invariant_of-self : goal.invariant_of-self
invariant_of-self c =
    kept_later _ _ _ _ _ _ _ c.self.invariant (sym c.contains_any.ensures ∙ c.if-contains_any.true) c.insert.ensures.added c.insert.ensures.rising c.remove_both.ensures

pub returns-then-contains_any-clause-made : goal.returns-then-contains_any-clause-made
returns-then-contains_any-clause-made c = λ calls at.
    after_later calls _ _ _ _ _ (subst (λ e. IsAfter calls e) (sym c.self.view_is) at) _ _
    (listed_if_armed _ _ _ _ _ c.self.invariant (sym c.contains_any.ensures ∙ c.if-contains_any.true)) c.insert.ensures.added c.remove_both.ensures

pub returns-then-contains_any-clause-answer : goal.returns-then-contains_any-clause-answer
returns-then-contains_any-clause-answer c = λ calls at.
    sym (ap (λ b. cond b Later Now) (tells_unused calls _ _ _ _ c.args.event (subst (λ e. IsAfter calls e) (sym c.self.view_is) at) _ (sym c.contains_any.ensures ∙ c.if-contains_any.true)))

pub returns-then-not-contains-clause-made : goal.returns-then-not-contains-clause-made
returns-then-not-contains-clause-made c = λ calls at.
    let h = subst (λ e. IsAfter calls e) (sym c.self.view_is) at in
    after_now calls _ _ _ _ _ h _ _ (leaves_list calls _ _ _ _ _ h _ (sym c.contains.ensures ∙ c.if-not-contains.true) c.remove.ensures.left) c.remove_both.ensures

pub returns-then-not-contains-clause-answer : goal.returns-then-not-contains-clause-answer
returns-then-not-contains-clause-answer c = λ calls at.
    sym (ap (λ b. cond b Later Now) (tells_unused calls _ _ _ _ c.args.event (subst (λ e. IsAfter calls e) (sym c.self.view_is) at) _ (sym c.contains_any.ensures ∙ c.if-contains_any.false)))

pub returns-else-not-contains-clause-made : goal.returns-else-not-contains-clause-made
returns-else-not-contains-clause-made c = λ calls at.
    let h = subst (λ e. IsAfter calls e) (sym c.self.view_is) at in
    after_now calls _ _ _ _ _ h _ _ (stays_listed calls _ _ _ _ _ h (sym c.contains.ensures ∙ c.if-not-contains.false)) c.remove_both.ensures

pub returns-else-not-contains-clause-answer : goal.returns-else-not-contains-clause-answer
returns-else-not-contains-clause-answer c = λ calls at.
    sym (ap (λ b. cond b Later Now) (tells_unused calls _ _ _ _ c.args.event (subst (λ e. IsAfter calls e) (sym c.self.view_is) at) _ (sym c.contains_any.ensures ∙ c.if-contains_any.false)))
