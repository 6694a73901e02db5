-- What was taken of the program of a port, by the calls of its driver and by the rows.
use Rattle.std.proofs.Common.{◌≡◌, ℕ, List, [], ◌∷◌, ◌++◌, Bool, true, false, cond, Option, Some, None, refl, sym, ◌∙◌, ap, subst, append_assoc, append-nil}
use Rattle.driver_model.specs.port_signal.declared.outside.Outside.{Outside}
use Rattle.driver_model.specs.port_model.declared.row.Row.{Row}
use Rattle.driver_model.specs.port_model.declared.row.Row.TheVariants.{Handled, Late, Listed, Resumed, Mark}
use Rattle.driver_model.specs.Calls.{Callback, Flush, Stop, DriverCall, call_of}
use Rattle.driver_model.specs.Spawn.{got_by, taken_bytes, is_none}
use Rattle.port_history.specs.Opening.{Opening, Taken, taken_of}
use Rattle.port_history.specs.Service.{callback_of, caller_of, calls_by, stop_calls, flush_calls}
use Rattle.port_history.specs.State.{State, state, closing_reason, signal_calls, row_calls, stops}
use Rattle.port_history.specs.Laws.{is_answered_by}
use Rattle.port_history.specs.Lawful.{Lawful}
use Rattle.unframed_output.specs.Output.{bytes_taken}
use Rattle.unframed_output.specs.Laws.{OutputIsTaken}
use Rattle.unframed_output.proofs.Calls.{spawning}
use Rattle.unframed_output.proofs.Rows.{has-effects, row-calls, as-spawning}

none-got : (outside : List Outside) → is_none outside ≡ true → got_by outside ≡ []
none-got [] none = refl
none-got (answer ∷ outside) none = absurd (cc)

-- a call without answers takes nothing
quiet-taken : (earlier : List DriverCall) (call : DriverCall) → call.outside ≡ [] → taken_bytes (call ∷ earlier) ≡ taken_bytes earlier
quiet-taken earlier call none = ap (λ outside. taken_bytes earlier ++ got_by outside) none ∙ append-nil (taken_bytes earlier)

stop-taken : (stops : Bool) (caller : ℕ) (earlier : List DriverCall) → taken_bytes (stop_calls stops caller ++ earlier) ≡ taken_bytes earlier
stop-taken true caller earlier = quiet-taken earlier (call_of Stop caller [] []) refl
stop-taken false caller earlier = refl

flush-taken : (port : Opening) (caller : ℕ) (reason : Option (List ℕ)) (before earlier : List DriverCall) → taken_bytes (flush_calls port caller reason before ++ earlier) ≡ taken_bytes earlier
flush-taken port caller None before earlier = refl
flush-taken port caller (Some reason) before earlier = at _ where
  at : (b : Bool) → taken_bytes (cond b [] (call_of Flush caller [] [] ∷ []) ++ earlier) ≡ taken_bytes earlier
  at true = refl
  at false = quiet-taken earlier (call_of Flush caller [] []) refl

-- all calls of a row take what that of its signal takes
row-taken : (port : Opening) (s : State) (t : Taken) → taken_bytes (row_calls (spawning port) s t ++ s.calls) ≡ taken_bytes (signal_calls s t ++ s.calls)
row-taken port s t =
    let p = spawning port in
    let stop = stop_calls (stops p s t) (caller_of s.ties t.from) in
    let flush = flush_calls p (caller_of s.ties t.from) (closing_reason s t) (signal_calls s t ++ s.calls) in
    let more = signal_calls s t ++ s.calls in
    ap taken_bytes (row-calls p s t ∙ append_assoc stop flush more)
    ∙ (stop-taken (stops p s t) (caller_of s.ties t.from) (flush ++ more) ∙ flush-taken p (caller_of s.ties t.from) (closing_reason s t) more more)

signal-taken : (port : Opening) (s : State) (t : Taken) (callback : Option Callback) (caller : ℕ) → is_answered_by (spawning port) s (calls_by callback caller t) t.outside ≡ true
    → taken_bytes (calls_by callback caller t ++ s.calls) ≡ taken_bytes s.calls ++ got_by t.outside
signal-taken port s t None caller answered = sym (append-nil (taken_bytes s.calls)) ∙ ap (λ bytes. taken_bytes s.calls ++ bytes) (sym (none-got t.outside answered))
signal-taken port s t (Some callback) caller answered = refl

taken : (port : Opening) (history : List Row) → Lawful (spawning port) history → taken_bytes (state (spawning port) history).calls ≡ bytes_taken history
taken port [] lawful = refl
taken port (Handled from seq task outside effects ∷ older) lawful =
    let s = state (spawning port) older in
    let t = taken_of from seq task outside effects in
    let has = has-effects port s from seq task outside effects lawful.0 in
    row-taken port s t
    ∙ (signal-taken port s t (callback_of s.ties s.watched from task.signal) (caller_of s.ties from) has.answered ∙ ap (λ bytes. bytes ++ got_by outside) (taken port older lawful.1))
taken port (Late from seq task ∷ older) lawful = taken port older lawful.1 ∙ sym (append-nil (bytes_taken older))
taken port (Listed from seq ∷ older) lawful = taken port older lawful.1 ∙ sym (append-nil (bytes_taken older))
taken port (Resumed from seq word ∷ older) lawful = taken port older lawful.1 ∙ sym (append-nil (bytes_taken older))
taken port (Mark kind ∷ older) lawful = taken port older lawful.1 ∙ sym (append-nil (bytes_taken older))

pub output-is-taken : OutputIsTaken
output-is-taken port history of =
    let is = as-spawning port of.kind in
    ap (λ p. taken_bytes (state p history).calls) is ∙ taken port history (subst (λ p. Lawful p history) is of.lawful)
