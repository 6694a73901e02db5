use Rattle.std.proofs.Common.{◌≡◌, ◌≤◌, ◌||◌, length, true, false, sym, subst, ◌∙◌}
use Rattle.std.specs.Prelude.{nat_lt}
use Rattle.std.specs.List.Sorted.{IsStrictlyIncreasing}
use Rattle.ready_select.specs.Sets.{has}
use Rattle.port_events.specs.Table.{Agrees}
use Rattle.port_events.proofs.Steps.{made-select}
use Rattle.port_events.proofs.Selected.{room-full, room-yes}
use Rattle.port_events.proofs.used_events.UsedEvents.select.Goals as goal

pub returns-then-not-has_place-clause-none : goal.returns-then-not-has_place-clause-none
returns-then-not-has_place-clause-none c = λ events a.
    room-full c.self.inside.selector c.args.event c.args.dir c.args.on (subst IsStrictlyIncreasing c.held.ensures.value c.held.ensures.rising) events
    (subst (λ s. Agrees s events) (sym c.self.view_is) a)
    (subst (λ xs. length xs ≤ 64) c.held.ensures.value c.held.ensures.few)
    (subst (λ xs. (nat_lt (length xs) 64 || has c.args.event xs) ≡ false) c.held.ensures.value (sym c.has_place.ensures ∙ c.if-not-has_place.true))

pub returns-clause-selected : goal.returns-clause-selected
returns-clause-selected c = λ events a.
    made-select _ _ _ c.self.invariant c.args.dir c.args.on c.select.ensures (sym c.is_waiting.ensures ∙ c.if-is_waiting.false) events
    (subst (λ s. Agrees s events) (sym c.self.view_is) a)

pub returns-clause-room : goal.returns-clause-room
returns-clause-room c = λ events a.
    room-yes c.self.inside.selector c.args.event c.args.dir c.args.on (subst IsStrictlyIncreasing c.held.ensures.value c.held.ensures.rising) events
    (subst (λ s. Agrees s events) (sym c.self.view_is) a) (sym c.is_waiting.ensures ∙ c.if-is_waiting.false)
    (subst (λ xs. length xs ≤ 64) c.held.ensures.value c.held.ensures.few)
    (subst (λ xs. (nat_lt (length xs) 64 || has c.args.event xs) ≡ true) c.held.ensures.value (sym c.has_place.ensures ∙ c.if-not-has_place.false))
