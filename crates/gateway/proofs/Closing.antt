-- A history whose driver is stopped closed its port.
use Rattle.std.proofs.Common.{◌≡◌, ℕ, Bool, true, false, not, ◌||◌, List, [], ◌∷◌, Option, Some, None, is_some, option_map, refl}
use Rattle.std.proofs.lemmas.Bool.{and_parts}
use Rattle.port_model.specs.declared.row.Row.{Row}
use Rattle.port_model.specs.declared.row.Row.TheVariants.{Handled, Late, Listed, Resumed, Mark}
use Rattle.driver_model.specs.Calls.{DriverCall}
use Rattle.port_signal.specs.Reasons.{told_reason}
use Rattle.port_history.specs.Service.{first_reason, must_stop}
use Rattle.port_history.specs.State.{State, state, stops, closing_reason}
use Rattle.port_history.specs.Opening.{Opening, Taken, taken_of}
use Rattle.gateway.specs.Laws.{FinishedHasEnd}

stays-closed : (reason other : Option (List ℕ)) → is_some reason ≡ true → is_some (first_reason reason other) ≡ true
stays-closed None other e = absurd cc
stays-closed (Some r) other e = refl

stop-closes : (port : Opening) (reason : Option (List ℕ)) (calls : List DriverCall) → must_stop port reason calls ≡ true → is_some reason ≡ true
stop-closes port None calls e = absurd cc
stop-closes port (Some r) calls e = refl

either : (a b : Bool) → (a || b) ≡ true → a ≡ false → b ≡ true
either true b e f = absurd cc
either false b e f = e

closes-after : (port : Opening) (s : State) (t : Taken) → (s.stopped ≡ true → is_some s.reason ≡ true) → (s.stopped || stops port s t) ≡ true
    → is_some (first_reason s.reason (closing_reason s t)) ≡ true
closes-after port s t before e = elim s.stopped as (λ b. s.stopped ≡ b → is_some (first_reason s.reason (closing_reason s t)) ≡ true) [
  | true ↦ λ was. stays-closed s.reason (closing_reason s t) (before was)
  | false ↦ λ ran. stop-closes port (first_reason s.reason (closing_reason s t)) _
      (and_parts (not s.stopped) (must_stop port (first_reason s.reason (closing_reason s t)) _) (either s.stopped (stops port s t) e ran)).1
] refl

closes : (port : Opening) (history : List Row) → (state port history).stopped ≡ true → is_some (state port history).reason ≡ true
closes port [] e = absurd cc
closes port (Handled from seq task outside effects ∷ older) e = closes-after port (state port older) (taken_of from seq task outside effects) (closes port older) e
closes port (Late from seq task ∷ older) e = closes port older e
closes port (Listed from seq ∷ older) e = closes port older e
closes port (Resumed from seq word ∷ older) e = closes port older e
closes port (Mark kind ∷ older) e = closes port older e

told : (reason : Option (List ℕ)) → is_some reason ≡ true → is_some (option_map told_reason reason) ≡ true
told None e = absurd cc
told (Some r) e = refl

pub finished-has-end : FinishedHasEnd
finished-has-end port history finished =
    let stopped = (and_parts _ _ (and_parts _ _ (and_parts _ _ finished.end).0).0).0 in
    told (state port history).reason (closes port history stopped)
