-- Which rows have messages, and why a chunk fails the port.
use Rattle.std.proofs.Common.{◌≡◌, ℕ, List, [], ◌∷◌, ◌++◌, ◌⊎◌, length, drop, map, true, not, Option, Some, None, refl, sym, ◌∙◌, ap, subst, inl, inr}
use Rattle.std.specs.Prelude.{nat_lt}
use Rattle.std.proofs.lemmas.Bool.{and_parts}
use Rattle.std.proofs.lemmas.List.{append-nil}
use Rattle.packet_framing.specs.declared.mode.Mode.{Mode}
use Rattle.packet_framing.specs.declared.mode.Mode.TheVariants.{Packet1, Packet2, Packet4, Line, Stream}
use Rattle.packet_framing.specs.declared.message.Message.{Message}
use Rattle.packet_framing.specs.Messages.{messages_of, rest_of}
use Rattle.driver_model.specs.port_signal.declared.outside.Outside.{Outside}
use Rattle.driver_model.specs.port_signal.declared.outside.Outside.TheVariants.{Got}
use Rattle.driver_model.specs.port_model.declared.event.Dir.TheVariants.{Read}
use Rattle.driver_model.specs.port_model.declared.signal.Sender.{Sender}
use Rattle.driver_model.specs.port_model.declared.signal.Signal.{Signal}
use Rattle.driver_model.specs.port_model.declared.signal.Signal.TheVariants.{Ready}
use Rattle.driver_model.specs.port_model.declared.effect.Effect.{Effect}
use Rattle.driver_model.specs.port_model.declared.row.Row.{Row}
use Rattle.driver_model.specs.port_model.declared.row.Row.TheVariants.{Handled}
use Rattle.driver_model.specs.port_model.Tasks.{TaskView}
use Rattle.driver_model.specs.Calls.{Callback, Start, ReadyInput, ReadyOutput}
use Rattle.driver_model.specs.Spawn.{is_none, spawn_answered, is_oversize, most_taken, brought, sent, plain_message, cut_into, unended_bytes}
use Rattle.port_history.specs.Opening.{Opening, Taken, taken_of}
use Rattle.port_history.specs.Ties.{failure}
use Rattle.port_history.specs.Service.{callback_of, caller_of, calls_by}
use Rattle.port_history.specs.State.{State, state, is_open}
use Rattle.port_history.specs.Laws.{is_answered_by}
use Rattle.port_history.specs.Lawful.{Lawful, KeepsLaws}
use Rattle.unframed_output.specs.Output.{bytes_taken, fault_of, has_ended, messages_in}
use Rattle.unframed_output.specs.Laws.{ChunkFails}
use Rattle.unframed_output.proofs.Messages.{is-served}
use Rattle.unframed_output.proofs.Calls.{spawning, callback-other, silent-other, IsNoInput, IsOther, IsOtherIf}
use Rattle.unframed_output.proofs.Rows.{Stands, stands, as-spawning, fetch-reads, has-effects, has-fetched, fetch, got-made, got-cases, fault-many, fault-large, fault-none}

-- a row has no messages, or it tells of input while the port is open
pub only-input : (port : Opening) (from : Sender) (seq : ℕ) (task : TaskView) (outside : List Outside) (effects : List Effect) (older : List Row) → Stands port older
    → KeepsLaws (spawning port) (state (spawning port) older) (Handled from seq task outside effects)
    → (messages_in effects ≡ []) ⊎ ((is_open (state (spawning port) older) ≡ true) × ((event : ℕ) × (task.signal ≡ Ready event Read)))
only-input port from seq task outside effects older before keeps = at task.signal refl where
  at : (signal : Signal) → task.signal ≡ signal → (messages_in effects ≡ []) ⊎ ((is_open (state (spawning port) older) ≡ true) × ((event : ℕ) × (task.signal ≡ Ready event Read)))
  at (Ready event Read) is =
      inr ((and_parts (is_open (state (spawning port) older)) (not (has_ended older)) (fetch-reads port from seq task event outside effects older before keeps is)).0, (event, is))
  at signal is =
      let s = state (spawning port) older in
      let has = has-effects port s from seq task outside effects keeps in
      inl (silent-other port s (taken_of from seq task outside effects) (callback_of s.ties s.watched from task.signal) (caller_of s.ties from)
      (callback-other s.ties s.watched from task.signal (subst IsNoInput (sym is) tt)) has.effects has.answered).silent.messages

sent-failure : (messages : List Message) → failure (map sent messages) ≡ None
sent-failure [] = refl
sent-failure (m ∷ messages) = sent-failure messages

plain-failure : (ps : List (List ℕ)) → failure (map plain_message ps) ≡ None
plain-failure [] = refl
plain-failure (p ∷ ps) = plain-failure ps

-- messages are no failure
brought-failure : (mode : Mode) (cut before bytes : List ℕ) → failure (brought mode cut before bytes) ≡ None
brought-failure Stream cut before bytes = plain-failure (cut_into cut bytes)
brought-failure Packet1 cut before bytes = sent-failure (drop (length (messages_of Packet1 before)) (messages_of Packet1 (before ++ bytes)))
brought-failure Packet2 cut before bytes = sent-failure (drop (length (messages_of Packet2 before)) (messages_of Packet2 (before ++ bytes)))
brought-failure Packet4 cut before bytes = sent-failure (drop (length (messages_of Packet4 before)) (messages_of Packet4 (before ++ bytes)))
brought-failure (Line limit) cut before bytes = sent-failure (drop (length (messages_of (Line limit) before)) (messages_of (Line limit) (before ++ bytes)))

-- a chunk fails the port exactly for the fault of all bytes
pub chunk-fails : (port : Opening) (from : Sender) (seq : ℕ) (task : TaskView) (event : ℕ) (bytes : List ℕ) (effects : List Effect) (older : List Row) → Stands port older
    → KeepsLaws (spawning port) (state (spawning port) older) (Handled from seq task (Got bytes ∷ []) effects) → task.signal ≡ Ready event Read
    → failure effects ≡ fault_of port.config.mode (bytes_taken (Handled from seq task (Got bytes ∷ []) effects ∷ older))
chunk-fails port from seq task event bytes effects older before keeps signal =
    let mode = port.config.mode in
    let s = state (spawning port) older in
    let t = taken_of from seq task (Got bytes ∷ []) effects in
    let all = bytes_taken (Handled from seq task (Got bytes ∷ []) effects ∷ older) in
    let fetched = has-fetched port s t event signal (has-effects port s from seq task (Got bytes ∷ []) effects keeps) in
    let reads = before.reads (fetch-reads port from seq task event (Got bytes ∷ []) effects older before keeps signal) in
    let brings : List Effect = brought mode (fetch s event t).cut (unended_bytes s.calls) bytes in
    got-cases effects (nat_lt most_taken (length all)) (is_oversize mode (rest_of mode all)) brings (got-made port from seq task event bytes effects older reads fetched)
    (λ many is. ap failure is ∙ sym (fault-many mode all many))
    (λ few large is. ap failure is ∙ sym (fault-large mode all few large))
    (λ few small is. ap failure is ∙ (brought-failure mode (fetch s event t).cut (unended_bytes s.calls) bytes ∙ sym (fault-none mode all few small)))

-- only a fetch is answered by bytes
not-got : (port : Opening) (s : State) (t : Taken) (callback : Option Callback) (caller : ℕ) (bytes : List ℕ) → IsOtherIf callback
    → is_answered_by (spawning port) s (calls_by callback caller t) t.outside ≡ true → t.outside ≡ Got bytes ∷ [] → ⊥
not-got port s t None caller bytes other answered is = let e = subst (λ os. is_none os ≡ true) is answered in absurd (cc)
not-got port s t (Some callback) caller bytes other answered is = call callback other (subst (λ os. spawn_answered port.config s.calls os callback ≡ true) is answered) where
  call : (callback : Callback) → IsOther callback → spawn_answered port.config s.calls (Got bytes ∷ []) callback ≡ true → ⊥
  call (Start read write) other e = absurd other
  call (ReadyInput event) other e = absurd other
  call (ReadyOutput event) other e = absurd (cc)
  call callback other e = absurd (cc)

pub chunk-fails-so : ChunkFails
chunk-fails-so port from seq task bytes effects older of =
    let lawful = subst (λ p. Lawful p (Handled from seq task (Got bytes ∷ []) effects ∷ older)) (as-spawning port of.kind) of.lawful in
    let before = stands port older (is-served port.config.mode of.served) lawful.1 in
    at task.signal refl before lawful.0 ∙ ap (λ xs. fault_of port.config.mode (bytes_taken older ++ xs)) (append-nil bytes)
  where
    at : (signal : Signal) → task.signal ≡ signal → Stands port older → KeepsLaws (spawning port) (state (spawning port) older) (Handled from seq task (Got bytes ∷ []) effects)
        → failure effects ≡ fault_of port.config.mode (bytes_taken older ++ (bytes ++ []))
    at (Ready event Read) is before keeps = chunk-fails port from seq task event bytes effects older before keeps is
    at signal is before keeps =
        let s = state (spawning port) older in
        let t = taken_of from seq task (Got bytes ∷ []) effects in
        absurd (not-got port s t (callback_of s.ties s.watched from task.signal) (caller_of s.ties from) bytes (callback-other s.ties s.watched from task.signal (subst IsNoInput (sym is) tt))
        (has-effects port s from seq task (Got bytes ∷ []) effects keeps).answered refl)
