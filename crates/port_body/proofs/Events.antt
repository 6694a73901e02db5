-- The events that a driver keeps are those of its port's opening: only the start tells them.
use Rattle.std.proofs.Common.{◌≡◌, ◌||◌, ℕ, Bool, true, false, List, [], ◌∷◌, ◌++◌, Option, Some, None, IfSome, refl, ap, ◌∙◌}
use Rattle.std.specs.List.{AllByRecursion}
use Rattle.std.specs.Prelude.{if◌then◌else◌}
use Rattle.port_driver.specs.driver_model.Calls as driver
use Rattle.port_driver.specs.driver_model.Calls.{Callback, DriverCall, Kind, Own, call_of}
use Rattle.port_driver.specs.driver_model.Drivers.{holds, own_of, read_event_of, write_event_of}
use Rattle.port_driver.specs.driver_model.Programs.{Tells, ToldProgram}
use Rattle.port_driver.specs.driver_model.Spawn.{read_after, read_event, write_after, write_event}
use Rattle.port_driver.specs.port_config.declared.config.Config.{Config}
use Rattle.port_events.specs.port_history.Opening.{Opening, Taken, is_process, taken_of}
use Rattle.port_events.specs.port_history.Service.{calls_by, callback_of, caller_of, exit_callback, flush_calls, is_drained, stop_calls}
use Rattle.port_events.specs.port_history.State.{State, closing_reason, flushed_calls, row_calls, signal_calls, start_call, state, stops}
use Rattle.port_events.specs.port_history.Ties.{Ties}
use Rattle.port_model.specs.declared.event.Dir.TheVariants.{Read, Write}
use Rattle.port_model.specs.declared.row.Row.{Row}
use Rattle.port_model.specs.declared.row.Row.TheVariants.{Handled, Late, Listed, Resumed, Mark}
use Rattle.port_model.specs.declared.signal.Sender.{Sender}
use Rattle.port_model.specs.declared.signal.Sender.TheVariants.{Process, Poller, Worker, Timer}
use Rattle.port_model.specs.declared.signal.Signal.{Signal}
use Rattle.port_model.specs.declared.signal.Signal.TheVariants as signal
use Rattle.port_model.specs.port_signal.Links.{has}
use Rattle.port_model.specs.port_signal.Reasons.{is_kill}
use Rattle.recorded_port.specs.View.{HasEvents}
use Rattle.port_body.specs.Ends.{IsLeftByCalls}
use Rattle.port_body.proofs.Holding.{all-append}

-- it tells no events
record IsQuiet (callback : Callback) : Type 0 where
  pub read : (event : ℕ) → read_after callback event ≡ event
  pub write : (event : ℕ) → write_after callback event ≡ event

abbrev AreQuiet : List DriverCall → Type 0
AreQuiet calls = AllByRecursion (λ (call : DriverCall). IsQuiet call.callback) calls

-- The calls of a row

quiet-data : (owns : Bool) (bytes : List ℕ) → IfSome (if owns then Some (driver.Outputv bytes) else None) IsQuiet
quiet-data true bytes = record { read = λ event. refl; write = λ event. refl }
quiet-data false bytes = tt

quiet-told : (told : Bool) (process : ℕ) → IfSome (if told then Some (driver.ProcessExit process) else None) IsQuiet
quiet-told true process = record { read = λ event. refl; write = λ event. refl }
quiet-told false process = tt

quiet-exit : (watched : List ℕ) (from : Sender) → IfSome (exit_callback watched from) IsQuiet
quiet-exit watched (Process process) = quiet-told (has process watched) process
quiet-exit watched Poller = tt
quiet-exit watched (Worker worker) = tt
quiet-exit watched Timer = tt

quiet-callback : (ties : Ties) (watched : List ℕ) (from : Sender) (sig : Signal) → IfSome (callback_of ties watched from sig) IsQuiet
quiet-callback ties watched from (signal.Command payload) = record { read = λ event. refl; write = λ event. refl }
quiet-callback ties watched from (signal.OwnerCommand payload) = quiet-data (is_process ties.owner from) _
quiet-callback ties watched from (signal.Control op bytes) = record { read = λ event. refl; write = λ event. refl }
quiet-callback ties watched from (signal.Call op bytes) = record { read = λ event. refl; write = λ event. refl }
quiet-callback ties watched from (signal.Ready event Read) = record { read = λ event. refl; write = λ event. refl }
quiet-callback ties watched from (signal.Ready event Write) = record { read = λ event. refl; write = λ event. refl }
quiet-callback ties watched from (signal.AsyncDone number output) = record { read = λ event. refl; write = λ event. refl }
quiet-callback ties watched from (signal.Gone reason) = quiet-exit watched from
quiet-callback ties watched from signal.Close = tt
quiet-callback ties watched from signal.OwnerClose = tt
quiet-callback ties watched from (signal.Connect other) = tt
quiet-callback ties watched from (signal.OwnerConnect other) = tt
quiet-callback ties watched from signal.Link = tt
quiet-callback ties watched from signal.Unlink = tt
quiet-callback ties watched from (signal.Monitor number) = tt
quiet-callback ties watched from (signal.Demonitor number) = tt
quiet-callback ties watched from (signal.Exit reason) = tt
quiet-callback ties watched from (signal.Dropped event) = tt

quiet-by : (callback : Option Callback) (caller : ℕ) (t : Taken) → IfSome callback IsQuiet → AreQuiet (calls_by callback caller t)
quiet-by None caller t quiet = tt
quiet-by (Some callback) caller t quiet = (quiet, tt)

quiet-flushed : (silent : Bool) (caller : ℕ) → AreQuiet (if silent then [] else call_of driver.Flush caller [] [] ∷ [])
quiet-flushed true caller = tt
quiet-flushed false caller = (record { read = λ event. refl; write = λ event. refl }, tt)

quiet-flush : (port : Opening) (caller : ℕ) (reason : Option (List ℕ)) (earlier : List DriverCall) → AreQuiet (flush_calls port caller reason earlier)
quiet-flush port caller None earlier = tt
quiet-flush port caller (Some reason) earlier = quiet-flushed (is_kill reason || is_drained port earlier) caller

quiet-stop : (stopped : Bool) (caller : ℕ) → AreQuiet (stop_calls stopped caller)
quiet-stop true caller = (record { read = λ event. refl; write = λ event. refl }, tt)
quiet-stop false caller = tt

quiet-row : (port : Opening) (s : State) (t : Taken) → AreQuiet (row_calls port s t)
quiet-row port s t =
    let caller = caller_of s.ties t.from in
    let P = λ (call : DriverCall). IsQuiet call.callback in
    all-append P (stop_calls (stops port s t) caller) (flushed_calls port s t) (quiet-stop (stops port s t) caller)
    (all-append P (flush_calls port caller (closing_reason s t) (signal_calls s t ++ s.calls)) (signal_calls s t)
    (quiet-flush port caller (closing_reason s t) (signal_calls s t ++ s.calls))
    (quiet-by (callback_of s.ties s.watched t.from t.task.signal) caller t (quiet-callback s.ties s.watched t.from t.task.signal)))

-- What they leave

-- both keep the same events
record SameEvents (one other : Own) : Type 0 where
  pub read : read_event_of one ≡ read_event_of other
  pub write : write_event_of one ≡ write_event_of other

kept-one : (kind : Kind) (config : Config) (call : DriverCall) (earlier : List DriverCall) → IsQuiet call.callback
    → SameEvents (own_of kind config (call ∷ earlier)) (own_of kind config earlier)
kept-one driver.Spawn config call earlier quiet = record { read = quiet.read (read_event earlier); write = quiet.write (write_event earlier) }
kept-one driver.Echo config call earlier quiet = record { read = refl; write = refl }
kept-one driver.Tally config call earlier quiet = record { read = refl; write = refl }
kept-one (driver.Valve soft) config call earlier quiet = record { read = refl; write = refl }
kept-one driver.Store config call earlier quiet = record { read = refl; write = refl }
kept-one driver.Digest config call earlier quiet = record { read = refl; write = refl }
kept-one driver.Refuse1 config call earlier quiet = record { read = refl; write = refl }
kept-one driver.Refuse2 config call earlier quiet = record { read = refl; write = refl }
kept-one driver.Refuse3 config call earlier quiet = record { read = refl; write = refl }

kept-all : (kind : Kind) (config : Config) (calls earlier : List DriverCall) → AreQuiet calls → SameEvents (own_of kind config (calls ++ earlier)) (own_of kind config earlier)
kept-all kind config [] earlier quiet = record { read = refl; write = refl }
kept-all kind config (call ∷ calls) earlier quiet =
    let one = kept-one kind config call (calls ++ earlier) quiet.0 in
    let rest = kept-all kind config calls earlier quiet.1 in
    record { read = one.read ∙ rest.read; write = one.write ∙ rest.write }

-- all calls of a history leave the events that the start left
kept-from-start : (port : Opening) (rows : List Row) → SameEvents (own_of port.kind port.config (state port rows).calls) (own_of port.kind port.config (start_call port ∷ []))
kept-from-start port [] = record { read = refl; write = refl }
kept-from-start port (Handled from seq task outside effects ∷ rows) =
    let s = state port rows in
    let t = taken_of from seq task outside effects in
    let more = kept-all port.kind port.config (row_calls port s t) s.calls (quiet-row port s t) in
    let before = kept-from-start port rows in
    record { read = more.read ∙ before.read; write = more.write ∙ before.write }
kept-from-start port (Late from seq task ∷ rows) = kept-from-start port rows
kept-from-start port (Listed from seq ∷ rows) = kept-from-start port rows
kept-from-start port (Resumed from seq word ∷ rows) = kept-from-start port rows
kept-from-start port (Mark kind ∷ rows) = kept-from-start port rows

-- a driver that keeps what the calls leave
pub left-by-calls : (port : Opening) (rows : List Row) (own : Own) (program : Option ToldProgram) → HasEvents port
    → own ≡ (holds port.kind port.config (state port rows).calls).own → IfSome program (Tells port.config (state port rows).calls) → IsLeftByCalls port rows own program
left-by-calls port rows own program events keeps told =
    let kept = kept-from-start port rows in
    record {
      keeps = keeps;
      read = ap read_event_of keeps ∙ (kept.read ∙ events.read);
      write = ap write_event_of keeps ∙ (kept.write ∙ events.write);
      told = told;
    }
