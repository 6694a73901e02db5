-- The owner of a port that no handled task hands to another process.
use Rattle.std.proofs.Common.{◌≡◌, ℕ, List, [], ◌∷◌, ◌⊎◌, Bool, true, false, ◌&&◌, ◌||◌, not, eqb, cond, Option, Some, None, refl, sym, ◌∙◌, ap, subst, inl, inr}
use Rattle.std.specs.Prelude.{nat_lt, is_some}
use Rattle.std.proofs.lemmas.Bool.{eqb-true}
use Rattle.driver_model.specs.port_signal.Links.{has, with_process}
use Rattle.driver_model.specs.port_signal.Reasons.{is_normal}
use Rattle.driver_model.specs.port_model.declared.signal.Sender.{Sender}
use Rattle.driver_model.specs.port_model.declared.signal.Sender.TheVariants.{Process}
use Rattle.driver_model.specs.port_model.declared.signal.Signal.{Signal}
use Rattle.driver_model.specs.port_model.declared.signal.Signal.TheVariants.{Connect, OwnerConnect, Gone}
use Rattle.driver_model.specs.port_model.declared.row.Row.{Row}
use Rattle.driver_model.specs.port_model.declared.row.Row.TheVariants.{Handled, Late, Listed, Resumed, Mark}
use Rattle.port_history.specs.Opening.{Opening, Taken, taken_of}
use Rattle.port_history.specs.Ties.{Ties, tied, tied_late, untied, failure, signal_reason}
use Rattle.port_history.specs.Service.{first_reason}
use Rattle.port_history.specs.State.{State, state, is_open, ties_after, closing_reason, is_closed_by}
use Rattle.port_history.specs.Laws.{keeps_lifetime}
use Rattle.port_history.specs.Lawful.{Lawful}
use Rattle.driver_model.specs.port_model.Tasks.{TaskView}
use Rattle.unframed_output.specs.Laws.{is_connect, KeepsOwner}
use Rattle.unframed_output.proofs.Events.{eqb-same}

-- a list with a process has that one and the others alone
has-with : (process other : ℕ) (others : List ℕ) → has process (with_process other others) ≡ true → (other ≡ process) ⊎ (has process others ≡ true)
has-with process other [] is = here (eqb other process) refl is where
  here : (b : Bool) → eqb other process ≡ b → (b || false) ≡ true → (other ≡ process) ⊎ (false ≡ true)
  here true e f = inl (eqb-true other process e)
  here false e f = inr f
has-with process other (first ∷ others) is =
    elim (nat_lt other first) as (λ b. has process (cond b (other ∷ first ∷ others) (cond (eqb first other) (first ∷ others) (first ∷ with_process other others))) ≡ true
    → (other ≡ process) ⊎ (has process (first ∷ others) ≡ true)) [
      | true ↦ λ h. head (eqb other process) refl h
      | false ↦ λ h.
          elim (eqb first other) as (λ b. has process (cond b (first ∷ others) (first ∷ with_process other others)) ≡ true → (other ≡ process) ⊎ (has process (first ∷ others) ≡ true)) [
            | true ↦ λ h. inr h
            | false ↦ λ h. later (eqb first process) (has-with process other others) h
          ] h
    ] is
  where
    head : (b : Bool) → eqb other process ≡ b → (b || has process (first ∷ others)) ≡ true → (other ≡ process) ⊎ (has process (first ∷ others) ≡ true)
    head true e f = inl (eqb-true other process e)
    head false e f = inr f

    later : (b : Bool) → (has process (with_process other others) ≡ true → (other ≡ process) ⊎ (has process others ≡ true)) → (b || has process (with_process other others)) ≡ true
        → (other ≡ process) ⊎ ((b || has process others) ≡ true)
    later true rest e = inr refl
    later false rest e = rest e

-- the process whose end a signal tells
abbrev pub TellsEnd : ℕ → Sender → Signal → Type 0
TellsEnd process (Process from) (Gone reason) = from ≡ process
TellsEnd process from signal = ⊥

tied-owner : (port : Opening) (ties : Ties) (from : Sender) (signal : Signal) → is_connect signal ≡ false → (tied port ties from signal).owner ≡ ties.owner
tied-owner port ties (Process from) (Connect process) keeps = absurd (cc)
tied-owner port ties (Process from) (OwnerConnect process) keeps = absurd (cc)
tied-owner port ties (Process from) signal keeps = refl
tied-owner port ties from signal keeps = refl

tied-ended : (port : Opening) (ties : Ties) (process : ℕ) (from : Sender) (signal : Signal) → is_connect signal ≡ false → has process (tied port ties from signal).ended ≡ true
    → TellsEnd process from signal ⊎ (has process ties.ended ≡ true)
tied-ended port ties process (Process from) (Connect other) keeps is = absurd (cc)
tied-ended port ties process (Process from) (OwnerConnect other) keeps is = absurd (cc)
tied-ended port ties process (Process from) (Gone reason) keeps is = has-with process from ties.ended is
tied-ended port ties process (Process from) signal keeps is = inr is
tied-ended port ties process from signal keeps is = inr is

late-owner : (ties : Ties) (from : Sender) (signal : Signal) → (tied_late ties from signal).owner ≡ ties.owner
late-owner ties (Process from) (Gone reason) = refl
late-owner ties (Process from) signal = refl
late-owner ties from signal = refl

late-ended : (ties : Ties) (process : ℕ) (from : Sender) (signal : Signal) → has process (tied_late ties from signal).ended ≡ true → TellsEnd process from signal ⊎ (has process ties.ended ≡ true)
late-ended ties process (Process from) (Gone reason) is = has-with process from ties.ended is
late-ended ties process (Process from) signal is = inr is
late-ended ties process from signal is = inr is

if-untied : (b : Bool) (ties : Ties) (P : Ties → Type 0) → P (untied ties) → P ties → P (cond b (untied ties) ties)
if-untied true ties P u t = u
if-untied false ties P u t = t

-- the end of the owner closes the port
end-closes : (ties : Ties) (from : Sender) (signal : Signal) → TellsEnd ties.owner from signal → is_some (signal_reason ties from signal) ≡ true
end-closes ties (Process from) (Gone reason) ends =
    ap (λ b. is_some (cond (b || (has from ties.linked && not (is_normal reason))) (Some reason) None)) (ap (λ n. eqb n ties.owner) ends ∙ eqb-same ties.owner)
end-closes ties (Process from) signal ends = absurd ends
end-closes ties from signal ends = absurd ends

closed-by : (s : State) (t : Taken) → is_some (signal_reason s.ties t.from t.task.signal) ≡ true → is_closed_by s t ≡ true
closed-by s t why = at s.reason where
  first : (f : Option (List ℕ)) → is_some (first_reason f (signal_reason s.ties t.from t.task.signal)) ≡ true
  first None = why
  first (Some reason) = refl

  at : (reason : Option (List ℕ)) → is_some (first_reason reason (cond (is_some reason) None (first_reason (failure t.effects) (signal_reason s.ties t.from t.task.signal)))) ≡ true
  at None = first (failure t.effects)
  at (Some reason) = refl

stays-closed : (reason why : Option (List ℕ)) → not (is_some reason) ≡ false → not (is_some (first_reason reason why)) ≡ false
stays-closed None why closed = absurd (cc)
stays-closed (Some reason) why closed = refl

-- the opener stays the owner, and the port isn't open once it has ended
pub record OwnerStays (port : Opening) (history : List Row) : Type 0 where
  pub owner : (state port history).ties.owner ≡ port.owner
  pub closed : has port.owner (state port history).ties.ended ≡ true → is_open (state port history) ≡ false

-- what ended in a handled row ended before, or closed the port in it
handled-closed : (port : Opening) (s : State) (t : Taken) → s.ties.owner ≡ port.owner → (has port.owner s.ties.ended ≡ true → is_open s ≡ false)
    → TellsEnd port.owner t.from t.task.signal ⊎ (has port.owner s.ties.ended ≡ true) → not (is_closed_by s t) ≡ false
handled-closed port s t owner closed (inl ends) = ap not (closed-by s t (end-closes s.ties t.from t.task.signal (subst (λ n. TellsEnd n t.from t.task.signal) (sym owner) ends)))
handled-closed port s t owner closed (inr was) = stays-closed s.reason (closing_reason s t) (closed was)

pub handled-ended : (port : Opening) (s : State) (t : Taken) → is_connect t.task.signal ≡ false → has port.owner (ties_after port s t).ended ≡ true
    → TellsEnd port.owner t.from t.task.signal ⊎ (has port.owner s.ties.ended ≡ true)
handled-ended port s t keeps is =
    tied-ended port s.ties port.owner t.from t.task.signal keeps
    (if-untied (is_some (closing_reason s t)) (tied port s.ties t.from t.task.signal)
    (λ ties. has port.owner ties.ended ≡ true → has port.owner (tied port s.ties t.from t.task.signal).ended ≡ true) (λ h. h) (λ h. h) is)

late-closed : (s : State) (port : Opening) (from : Sender) (seq : ℕ) (task : TaskView) → keeps_lifetime s (Late from seq task) ≡ true → TellsEnd port.owner from task.signal → is_open s ≡ false
late-closed s port (Process from) seq task keeps ends = at (is_open s) keeps where
  at : (b : Bool) → not b ≡ true → b ≡ false
  at true e = absurd (cc)
  at false e = refl
late-closed s port from seq task keeps ends = absurd ends

pub owner-stays : (port : Opening) (history : List Row) → Lawful port history → KeepsOwner history → OwnerStays port history
owner-stays port [] lawful keeps = record { owner = refl; closed = λ is. absurd (cc) }
owner-stays port (Handled from seq task outside effects ∷ older) lawful keeps =
    let before = owner-stays port older lawful.1 keeps.1 in
    let s = state port older in
    let t = taken_of from seq task outside effects in
    record {
      owner = if-untied (is_some (closing_reason s t)) (tied port s.ties from task.signal) (λ ties. ties.owner ≡ port.owner)
          (tied-owner port s.ties from task.signal keeps.0 ∙ before.owner) (tied-owner port s.ties from task.signal keeps.0 ∙ before.owner);
      closed = λ is. handled-closed port s t before.owner before.closed (handled-ended port s t keeps.0 is);
    }
owner-stays port (Late from seq task ∷ older) lawful keeps =
    let before = owner-stays port older lawful.1 keeps in
    let s = state port older in
    record {
      owner = late-owner s.ties from task.signal ∙ before.owner;
      closed = λ is. either (late-ended s.ties port.owner from task.signal is) (λ ends. late-closed s port from seq task lawful.0.lifetime ends) before.closed;
    }
  where
    either : {A B C : Type 0} → A ⊎ B → (A → C) → (B → C) → C
    either (inl a) f g = f a
    either (inr b) f g = g b
owner-stays port (Listed from seq ∷ older) lawful keeps = let before = owner-stays port older lawful.1 keeps in record { owner = before.owner; closed = before.closed }
owner-stays port (Resumed from seq word ∷ older) lawful keeps = let before = owner-stays port older lawful.1 keeps in record { owner = before.owner; closed = before.closed }
owner-stays port (Mark kind ∷ older) lawful keeps = let before = owner-stays port older lawful.1 keeps in record { owner = before.owner; closed = before.closed }
