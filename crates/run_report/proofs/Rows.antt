-- What one more row adds to the data of a port's commands, and to what else is counted.
use Rattle.std.proofs.Common.{◌≡◌, ℕ, ◌+◌, List, [], ◌∷◌, ◌++◌, length, Bool, true, false, ◌||◌, Option, None, Some, is_some, append_assoc, refl, ap, ◌∙◌, arith}
use Rattle.std.specs.Prelude.{if◌then◌else◌, option_map, unwrap_or}
use Rattle.std.specs.List.{concat, sum_by}
use Rattle.std.proofs.lemmas.List.Sums.{sum_by-cons}
use Rattle.port_signal.specs.Reasons.{told_reason, is_kill}
use Rattle.port_signal.specs.Links.{has}
use Rattle.port_model.specs.declared.event.Dir.TheVariants.{Read, Write}
use Rattle.port_model.specs.declared.signal.Sender.{Sender}
use Rattle.port_model.specs.declared.signal.Sender.TheVariants.{Process, Poller, Worker, Timer}
use Rattle.port_model.specs.declared.signal.Signal.{Signal}
use Rattle.port_model.specs.declared.signal.Signal.TheVariants.{Command, OwnerCommand, Control, Call, Close, OwnerClose, Connect, OwnerConnect, Link, Unlink, Monitor, Demonitor, Exit, Gone, Ready, Dropped, AsyncDone}
use Rattle.driver_model.specs.Calls as driver
use Rattle.driver_model.specs.Calls.{DriverCall, call_of}
use Rattle.port_history.specs.Opening.{Opening, Taken, is_process}
use Rattle.port_history.specs.Ties.{Ties}
use Rattle.port_history.specs.Service.{callback_of, caller_of, calls_by, exit_callback, first_reason, flush_calls, is_drained, stop_calls}
use Rattle.port_history.specs.State.{State, closing_reason, flushed_calls, row_calls, signal_calls, stops}
use Rattle.port_history.specs.Counts.{data_of_calls}
use Rattle.run_report.specs.Walks.{data_given, end_with}

-- the data that a row adds, where it adds some
abbrev pub given : Option (List ℕ) → List (List ℕ) → List (List ℕ)
given None others = others
given (Some bytes) others = bytes ∷ others

stop-none : (b : Bool) (caller : ℕ) (rest : List DriverCall) → data_of_calls (stop_calls b caller ++ rest) ≡ data_of_calls rest
stop-none true caller rest = refl
stop-none false caller rest = refl

flush-if : (b : Bool) (caller : ℕ) (rest : List DriverCall)
    → data_of_calls ((if b then [] else call_of driver.Flush caller [] [] ∷ []) ++ rest) ≡ data_of_calls rest
flush-if true caller rest = refl
flush-if false caller rest = refl

flush-none : (port : Opening) (caller : ℕ) (reason : Option (List ℕ)) (earlier rest : List DriverCall)
    → data_of_calls (flush_calls port caller reason earlier ++ rest) ≡ data_of_calls rest
flush-none port caller None earlier rest = refl
flush-none port caller (Some reason) earlier rest = flush-if (is_kill reason || is_drained port earlier) caller rest

owner-data : (b : Bool) (bytes : List ℕ) (caller : ℕ) (t : Taken) (rest : List DriverCall)
    → data_of_calls (calls_by (if b then Some (driver.Outputv bytes) else None) caller t ++ rest) ≡ given (if b then Some bytes else None) (data_of_calls rest)
owner-data true bytes caller t rest = refl
owner-data false bytes caller t rest = refl

exit-if : (b : Bool) (process caller : ℕ) (t : Taken) (rest : List DriverCall)
    → data_of_calls (calls_by (if b then Some (driver.ProcessExit process) else None) caller t ++ rest) ≡ data_of_calls rest
exit-if true process caller t rest = refl
exit-if false process caller t rest = refl

exit-none : (watched : List ℕ) (from : Sender) (caller : ℕ) (t : Taken) (rest : List DriverCall)
    → data_of_calls (calls_by (exit_callback watched from) caller t ++ rest) ≡ data_of_calls rest
exit-none watched (Process process) caller t rest = exit-if (has process watched) process caller t rest
exit-none watched Poller caller t rest = refl
exit-none watched (Worker worker) caller t rest = refl
exit-none watched Timer caller t rest = refl

-- the data of the call of a signal
signal-data : (ties : Ties) (watched : List ℕ) (from : Sender) (signal : Signal) (caller : ℕ) (t : Taken) (rest : List DriverCall)
    → data_of_calls (calls_by (callback_of ties watched from signal) caller t ++ rest) ≡ given (data_given ties from signal) (data_of_calls rest)
signal-data ties watched from (Command payload) caller t rest = refl
signal-data ties watched from (OwnerCommand payload) caller t rest = owner-data (is_process ties.owner from) (concat payload) caller t rest
signal-data ties watched from (Control op bytes) caller t rest = refl
signal-data ties watched from (Call op bytes) caller t rest = refl
signal-data ties watched from Close caller t rest = refl
signal-data ties watched from OwnerClose caller t rest = refl
signal-data ties watched from (Connect process) caller t rest = refl
signal-data ties watched from (OwnerConnect process) caller t rest = refl
signal-data ties watched from Link caller t rest = refl
signal-data ties watched from Unlink caller t rest = refl
signal-data ties watched from (Monitor number) caller t rest = refl
signal-data ties watched from (Demonitor number) caller t rest = refl
signal-data ties watched from (Exit reason) caller t rest = refl
signal-data ties watched from (Gone reason) caller t rest = exit-none watched from caller t rest
signal-data ties watched from (Ready event Read) caller t rest = refl
signal-data ties watched from (Ready event Write) caller t rest = refl
signal-data ties watched from (Dropped event) caller t rest = refl
signal-data ties watched from (AsyncDone number output) caller t rest = refl

-- the data of the calls after a handled row
pub row-data : (port : Opening) (s : State) (t : Taken) → data_of_calls (row_calls port s t ++ s.calls) ≡ given (data_given s.ties t.from t.task.signal) (data_of_calls s.calls)
row-data port s t =
    let caller = caller_of s.ties t.from in
    let flush = flush_calls port caller (closing_reason s t) (signal_calls s t ++ s.calls) in
    ap data_of_calls (append_assoc (stop_calls (stops port s t) caller) (flushed_calls port s t) (s.calls))
    ∙ stop-none (stops port s t) caller (flushed_calls port s t ++ s.calls)
    ∙ ap data_of_calls (append_assoc (flush) (signal_calls s t) (s.calls))
    ∙ flush-none port caller (closing_reason s t) (signal_calls s t ++ s.calls) (signal_calls s t ++ s.calls)
    ∙ signal-data s.ties s.watched t.from t.task.signal caller t s.calls

pub count-given : (d : Option (List ℕ)) (others : List (List ℕ))
    → length (given d others) ≡ length others + (if is_some (option_map length d) then 1 else 0)
count-given None others = omega arith
count-given (Some bytes) others = omega arith

pub bytes-given : (d : Option (List ℕ)) (others : List (List ℕ))
    → sum_by length (given d others) ≡ sum_by length others + unwrap_or (option_map length d) 0
bytes-given None others = omega arith
bytes-given (Some bytes) others = rw (sum_by-cons length bytes others) (omega arith)

pub is_some-told : (reason : Option (List ℕ)) → is_some (option_map told_reason reason) ≡ is_some reason
is_some-told None = refl
is_some-told (Some reason) = refl

-- the reason that is told after a handled row
pub end-told : (before other : Option (List ℕ))
    → end_with (if is_some before then None else other) (option_map told_reason before) ≡ option_map told_reason (first_reason before (if is_some before then None else other))
end-told (Some reason) other = refl
end-told None None = refl
end-told None (Some reason) = refl
