-- Whether the end of the program's output was told, by the calls of a port's driver and by the rows.
use Rattle.std.proofs.Common.{◌≡◌, ℕ, List, [], ◌∷◌, ◌++◌, Bool, true, false, ◌||◌, cond, Option, Some, None, refl, sym, ◌∙◌, ap, subst, append_assoc}
use Rattle.driver_model.specs.port_signal.declared.outside.Outside.{Outside}
use Rattle.driver_model.specs.port_model.declared.row.Row.{Row}
use Rattle.driver_model.specs.port_model.declared.row.Row.TheVariants.{Handled, Late, Listed, Resumed, Mark}
use Rattle.driver_model.specs.Calls.{Callback, Flush, DriverCall, call_of}
use Rattle.driver_model.specs.Programs.{output_ended}
use Rattle.driver_model.specs.Spawn.{has_end, is_none}
use Rattle.port_history.specs.Opening.{Opening, Taken, taken_of}
use Rattle.port_history.specs.Service.{callback_of, caller_of, calls_by, stop_calls, flush_calls}
use Rattle.port_history.specs.State.{State, state, closing_reason, signal_calls, row_calls, stops}
use Rattle.port_history.specs.Laws.{is_answered_by}
use Rattle.port_history.specs.Lawful.{Lawful}
use Rattle.unframed_output.specs.Output.{has_ended}
use Rattle.unframed_output.specs.Laws.{EndIsTold}
use Rattle.unframed_output.proofs.Calls.{spawning}
use Rattle.unframed_output.proofs.Rows.{has-effects, row-calls, as-spawning}

none-ended : (outside : List Outside) → is_none outside ≡ true → has_end outside ≡ false
none-ended [] none = refl
none-ended (answer ∷ outside) none = absurd (cc)

-- a stop and a flush are told nothing
stop-ended : (stops : Bool) (caller : ℕ) (earlier : List DriverCall) → output_ended (stop_calls stops caller ++ earlier) ≡ output_ended earlier
stop-ended true caller earlier = refl
stop-ended false caller earlier = refl

flush-ended : (port : Opening) (caller : ℕ) (reason : Option (List ℕ)) (before earlier : List DriverCall) → output_ended (flush_calls port caller reason before ++ earlier) ≡ output_ended earlier
flush-ended port caller None before earlier = refl
flush-ended port caller (Some reason) before earlier = at _ where
  at : (b : Bool) → output_ended (cond b [] (call_of Flush caller [] [] ∷ []) ++ earlier) ≡ output_ended earlier
  at true = refl
  at false = refl

-- all calls of a row are told what that of its signal is told
row-ended : (port : Opening) (s : State) (t : Taken) → output_ended (row_calls (spawning port) s t ++ s.calls) ≡ output_ended (signal_calls s t ++ s.calls)
row-ended port s t =
    let p = spawning port in
    let stop = stop_calls (stops p s t) (caller_of s.ties t.from) in
    let flush = flush_calls p (caller_of s.ties t.from) (closing_reason s t) (signal_calls s t ++ s.calls) in
    let more = signal_calls s t ++ s.calls in
    ap output_ended (row-calls p s t ∙ append_assoc stop flush more)
    ∙ (stop-ended (stops p s t) (caller_of s.ties t.from) (flush ++ more) ∙ flush-ended p (caller_of s.ties t.from) (closing_reason s t) more more)

signal-ended : (port : Opening) (s : State) (t : Taken) (callback : Option Callback) (caller : ℕ) → is_answered_by (spawning port) s (calls_by callback caller t) t.outside ≡ true
    → output_ended (calls_by callback caller t ++ s.calls) ≡ (has_end t.outside || output_ended s.calls)
signal-ended port s t None caller answered = ap (λ b. b || output_ended s.calls) (sym (none-ended t.outside answered))
signal-ended port s t (Some callback) caller answered = refl

ended : (port : Opening) (history : List Row) → Lawful (spawning port) history → output_ended (state (spawning port) history).calls ≡ has_ended history
ended port [] lawful = refl
ended port (Handled from seq task outside effects ∷ older) lawful =
    let s = state (spawning port) older in
    let t = taken_of from seq task outside effects in
    let has = has-effects port s from seq task outside effects lawful.0 in
    row-ended port s t
    ∙ (signal-ended port s t (callback_of s.ties s.watched from task.signal) (caller_of s.ties from) has.answered ∙ ap (λ b. has_end outside || b) (ended port older lawful.1))
ended port (Late from seq task ∷ older) lawful = ended port older lawful.1
ended port (Listed from seq ∷ older) lawful = ended port older lawful.1
ended port (Resumed from seq word ∷ older) lawful = ended port older lawful.1
ended port (Mark kind ∷ older) lawful = ended port older lawful.1

pub end-is-told : EndIsTold
end-is-told port history of =
    let is = as-spawning port of.kind in
    ap (λ p. output_ended (state p history).calls) is ∙ ended port history (subst (λ p. Lawful p history) is of.lawful)
