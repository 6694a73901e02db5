-- What the program of a port took of the frames that its port had for it.
use Rattle.std.proofs.Common.{◌≡◌, ◌+◌, ◌≤◌, ℕ, min, List, [], ◌∷◌, ◌++◌, length, drop, Bool, true, false, cond, Option, Some, None, refl, ◌∙◌, ap, subst, arith, append_assoc, length-append, length-drop}
use Rattle.std.proofs.lemmas.Bool.{leb-true}
use Rattle.driver_model.specs.port_config.declared.config.Config.{Config}
use Rattle.driver_model.specs.port_signal.declared.outside.Outside.{Outside}
use Rattle.driver_model.specs.port_signal.declared.outside.Outside.TheVariants.{Took, Got, Again, End, Failed, Status}
use Rattle.driver_model.specs.port_model.declared.row.Row.{Row}
use Rattle.driver_model.specs.port_model.declared.row.Row.TheVariants.{Handled, Late, Listed, Resumed, Mark}
use Rattle.driver_model.specs.Calls.{Callback, ReadyInput, ReadyOutput, Flush, Stop, DriverCall, call_of}
use Rattle.driver_model.specs.Spawn.{asked, framed, given, took_by, program_failed, spawn_queue, spawn_answered, is_none, answers_offer, answers_fetch}
use Rattle.port_history.specs.Opening.{Opening, Taken, taken_of}
use Rattle.port_history.specs.Service.{callback_of, caller_of, calls_by, stop_calls, flush_calls}
use Rattle.port_history.specs.State.{State, state, closing_reason, signal_calls, row_calls, stops}
use Rattle.port_history.specs.Laws.{is_answered_by}
use Rattle.port_history.specs.Lawful.{Lawful}
use Rattle.unframed_output.specs.Output.{bytes_took}
use Rattle.unframed_output.specs.Laws.{InputIsTaken}
use Rattle.unframed_output.proofs.Calls.{spawning}
use Rattle.unframed_output.proofs.Rows.{has-effects, row-calls, as-spawning}

pub given-within : (config : Config) (calls : List DriverCall) → given config calls ≤ length (asked config calls)
given-within config [] = omega arith
given-within config (call ∷ earlier) = omega arith

none-took : (outside : List Outside) → is_none outside ≡ true → took_by outside ≡ 0
none-took [] none = refl
none-took (answer ∷ outside) none = absurd (cc)

offer-took : (size : ℕ) (outside : List Outside) → answers_offer size outside ≡ true → took_by outside ≤ size
offer-took size (Took n ∷ []) answered = let h = leb-true n (min size 65536) answered in omega (arith, h)
offer-took size (Failed ∷ []) answered = omega arith
offer-took size outside answered = absurd (cc)

fetch-took : (asks : Bool) (outside : List Outside) → answers_fetch asks outside ≡ true → took_by outside ≡ 0
fetch-took asks (Got bytes ∷ []) answered = refl
fetch-took asks (Again ∷ []) answered = refl
fetch-took asks (Failed ∷ []) answered = refl
fetch-took true (End ∷ Status status ∷ []) answered = refl
fetch-took true (End ∷ Failed ∷ []) answered = refl
fetch-took false (End ∷ []) answered = refl
fetch-took true outside answered = absurd (cc)
fetch-took false outside answered = absurd (cc)

queue-within : (config : Config) (calls : List DriverCall) → length (spawn_queue config calls) + given config calls ≤ length (asked config calls)
queue-within config calls = at (program_failed calls) where
  at : (b : Bool) → length (cond b [] (drop (given config calls) (asked config calls))) + given config calls ≤ length (asked config calls)
  at true = let w = given-within config calls in omega (arith, w)
  at false = let w = given-within config calls in omega (arith, w, length-drop (given config calls) (asked config calls))

-- what is answered to a call is there
call-within : (config : Config) (earlier : List DriverCall) (outside : List Outside) (callback : Callback) → spawn_answered config earlier outside callback ≡ true
    → took_by outside + given config earlier ≤ length (asked config earlier)
call-within config earlier outside (ReadyOutput event) answered =
    let t = offer-took (length (spawn_queue config earlier)) outside answered in
    let w = queue-within config earlier in
    omega (arith, t, w)
call-within config earlier outside (ReadyInput event) answered =
    let t = fetch-took config.exit_status outside answered in
    let w = given-within config earlier in
    omega (arith, t, w)
call-within config earlier outside callback answered =
    let t = none-took outside answered in
    let w = given-within config earlier in
    omega (arith, t, w)

call-took : (config : Config) (earlier : List DriverCall) (call : DriverCall) → spawn_answered config earlier call.outside call.callback ≡ true
    → given config (call ∷ earlier) ≡ given config earlier + took_by call.outside
call-took config earlier call answered =
    let w = call-within config earlier call.outside call.callback answered in
    omega (arith, w, length-append (asked config earlier) (framed config call.callback))

-- `flush` and `stop` give nothing
pub quiet-took : (config : Config) (earlier : List DriverCall) (call : DriverCall) → call.outside ≡ [] → given config (call ∷ earlier) ≡ given config earlier
quiet-took config earlier call none =
    let t : took_by call.outside ≡ 0 = ap took_by none in
    let w = given-within config earlier in
    omega (arith, t, w, length-append (asked config earlier) (framed config call.callback))

stop-took : (config : Config) (stops : Bool) (caller : ℕ) (earlier : List DriverCall) → given config (stop_calls stops caller ++ earlier) ≡ given config earlier
stop-took config true caller earlier = quiet-took config earlier (call_of Stop caller [] []) refl
stop-took config false caller earlier = refl

flush-took : (config : Config) (port : Opening) (caller : ℕ) (reason : Option (List ℕ)) (before earlier : List DriverCall) → given config (flush_calls port caller reason before ++ earlier) ≡ given config earlier
flush-took config port caller None before earlier = refl
flush-took config port caller (Some reason) before earlier = at _ where
  at : (b : Bool) → given config (cond b [] (call_of Flush caller [] [] ∷ []) ++ earlier) ≡ given config earlier
  at true = refl
  at false = quiet-took config earlier (call_of Flush caller [] []) refl

-- all calls of a row give what that of its signal gives
row-took : (port : Opening) (s : State) (t : Taken) → given port.config (row_calls (spawning port) s t ++ s.calls) ≡ given port.config (signal_calls s t ++ s.calls)
row-took port s t =
    let p = spawning port in
    let stop = stop_calls (stops p s t) (caller_of s.ties t.from) in
    let flush = flush_calls p (caller_of s.ties t.from) (closing_reason s t) (signal_calls s t ++ s.calls) in
    let more = signal_calls s t ++ s.calls in
    ap (given port.config) (row-calls p s t ∙ append_assoc stop flush more)
    ∙ (stop-took port.config (stops p s t) (caller_of s.ties t.from) (flush ++ more) ∙ flush-took port.config p (caller_of s.ties t.from) (closing_reason s t) more more)

signal-took : (port : Opening) (s : State) (t : Taken) (callback : Option Callback) (caller : ℕ) → is_answered_by (spawning port) s (calls_by callback caller t) t.outside ≡ true
    → given port.config (calls_by callback caller t ++ s.calls) ≡ given port.config s.calls + took_by t.outside
signal-took port s t None caller answered = let n = none-took t.outside answered in omega (arith, n)
signal-took port s t (Some callback) caller answered = call-took port.config s.calls (call_of callback caller t.outside t.effects) answered

pub took : (port : Opening) (history : List Row) → Lawful (spawning port) history → given port.config (state (spawning port) history).calls ≡ bytes_took history
took port [] lawful = refl
took port (Handled from seq task outside effects ∷ older) lawful =
    let s = state (spawning port) older in
    let t = taken_of from seq task outside effects in
    let before = took port older lawful.1 in
    let has = has-effects port s from seq task outside effects lawful.0 in
    row-took port s t
    ∙ (signal-took port s t (callback_of s.ties s.watched from task.signal) (caller_of s.ties from) has.answered ∙ ap (λ n. n + took_by outside) before)
took port (Late from seq task ∷ older) lawful = let before = took port older lawful.1 in omega (arith, before)
took port (Listed from seq ∷ older) lawful = let before = took port older lawful.1 in omega (arith, before)
took port (Resumed from seq word ∷ older) lawful = let before = took port older lawful.1 in omega (arith, before)
took port (Mark kind ∷ older) lawful = let before = took port older lawful.1 in omega (arith, before)

pub input-is-taken : InputIsTaken
input-is-taken port history of =
    let is = as-spawning port of.kind in
    let e = ap (λ p. given port.config (state p history).calls) is ∙ took port history (subst (λ p. Lawful p history) is of.lawful) in
    let w = given-within port.config (state port history).calls in
    (omega (arith, e, w), e)
