-- What a history tells of its port: the state of the port after its rows.
use Rattle.std.specs.Prelude.{ℕ, List, [], ◌∷◌, ◌++◌, drop, map, Bool, true, false, ◌&&◌, ◌||◌, not, Option, Some, None, is_some, if◌then◌else◌}
use Rattle.driver_model.specs.port_signal.declared.mark.MarkKind.{MarkKind}
use Rattle.driver_model.specs.port_model.declared.signal.Sender.{Sender}
use Rattle.driver_model.specs.port_model.declared.signal.Sender.TheVariants.{Process}
use Rattle.driver_model.specs.port_model.declared.signal.Signal.{Signal}
use Rattle.driver_model.specs.port_model.declared.signal.Signal.TheVariants.{OwnerClose}
use Rattle.driver_model.specs.port_model.declared.row.Row.{Row}
use Rattle.driver_model.specs.port_model.declared.row.Row.TheVariants.{Handled, Late, Listed, Resumed, Mark}
use Rattle.driver_model.specs.Calls as driver
use Rattle.driver_model.specs.Calls.{DriverCall, call_of}
use Rattle.driver_model.specs.Drivers.{effects_of}
use Rattle.port_history.specs.Opening.{Opening, Taken, taken_of, late_of}
use Rattle.port_history.specs.Ties.{Ties, opened, tied, tied_late, untied, signal_reason, failure, watched_by}
use Rattle.port_history.specs.Marks.{is_busy, busy_after, busy_marks, closed_marks}
use Rattle.port_history.specs.Suspension.{Entry, entry, without_entry}
use Rattle.port_history.specs.Events.{Event, told_of, selected_by, arm, events_after, given_back}
use Rattle.port_history.specs.Jobs.{Submitted, submitted_by, done_by}
use Rattle.port_history.specs.Service.{callback_of, caller_of, calls_by, flush_calls, must_stop, stop_calls, first_reason}

pub record State : Type 0 where
  -- owner, links, monitors and ends
  pub ties : Ties
  -- the processes whose end the driver is told of
  pub watched : List ℕ
  -- why the port closed, once it has
  pub reason : Option (List ℕ)
  -- the process that asked, as the owner, for the close
  pub closer : Option ℕ
  -- the calls of the driver, newest first, but for those of `stop_select`, which change nothing of a driver
  pub calls : List DriverCall
  pub stopped : Bool
  -- the events that were used, by rising number, and those for which `stop_select` was called, in that order
  pub events : List Event
  pub given_back : List ℕ
  -- the jobs in their order, and the numbers of those that were told done, the last one first
  pub jobs : List Submitted
  pub done : List ℕ
  -- the senders of the tasks that have a row, newest first
  pub senders : List Sender
  -- who waits for a resume, in order, and all that were listed, newest first
  pub listed : List Entry
  pub entries : List Entry
  -- the marks, newest first, and those that have to stand next
  pub marks : List MarkKind
  pub due : List MarkKind

-- the call of `start`
abbrev pub start_call : Opening → DriverCall
start_call port = call_of (driver.Start port.read port.write) port.owner [] []

-- the state before the first row: `start` was called, and its effects were applied
abbrev pub state_at_start : Opening → State
state_at_start port = record {
  ties = opened port.owner;
  watched = watched_by (effects_of port.kind port.config (start_call port ∷ [])) [];
  reason = None;
  closer = None;
  calls = start_call port ∷ [];
  stopped = false;
  events = map arm (selected_by (effects_of port.kind port.config (start_call port ∷ [])) []);
  given_back = [];
  jobs = submitted_by (effects_of port.kind port.config (start_call port ∷ []));
  done = [];
  senders = [];
  listed = [];
  entries = [];
  marks = [];
  due = [];
}

-- the port is open: no row has closed it
abbrev pub is_open : State → Bool
is_open s = not (is_some s.reason)

-- the reason for which a handled task closes the port: none where it is closed, the failure of its callback, or its signal's
abbrev pub closing_reason : State → Taken → Option (List ℕ)
closing_reason s t = if is_some s.reason then None else first_reason (failure t.effects) (signal_reason s.ties t.from t.task.signal)

-- the call of a handled task's signal
abbrev pub signal_calls : State → Taken → List DriverCall
signal_calls s t = calls_by (callback_of s.ties s.watched t.from t.task.signal) (caller_of s.ties t.from) t

-- its calls with `flush`, newest first
abbrev pub flushed_calls : Opening → State → Taken → List DriverCall
flushed_calls port s t =
    flush_calls port (caller_of s.ties t.from) (closing_reason s t) (signal_calls s t ++ s.calls) ++ signal_calls s t

-- the driver is stopped in the row of the handled task
abbrev pub stops : Opening → State → Taken → Bool
stops port s t = not s.stopped && must_stop port (first_reason s.reason (closing_reason s t)) (flushed_calls port s t ++ s.calls)

-- all calls of a handled task's row, newest first
abbrev pub row_calls : Opening → State → Taken → List DriverCall
row_calls port s t = stop_calls (stops port s t) (caller_of s.ties t.from) ++ flushed_calls port s t

-- the owner that asks for the close
abbrev pub closer_of : Ties → Sender → Signal → Option ℕ
closer_of ties (Process process) OwnerClose = Some process
closer_of ties from signal = None

-- the process that asked, as the owner, for the close that this row begins
abbrev pub closer_after : State → Taken → Option ℕ
closer_after s t = if is_some (closing_reason s t) && not (is_some (failure t.effects)) then closer_of s.ties t.from t.task.signal else s.closer

-- the ties of a port after a handled task, which may close it
abbrev pub ties_after : Opening → State → Taken → Ties
ties_after port s t =
    if is_some (closing_reason s t) then untied (tied port s.ties t.from t.task.signal) else tied port s.ties t.from t.task.signal

-- the port is closed after a handled task
abbrev pub is_closed_by : State → Taken → Bool
is_closed_by s t = is_some (first_reason s.reason (closing_reason s t))

abbrev pub after_handled : Opening → State → Taken → State
after_handled port s t = record s {
  ties = ties_after port s t;
  watched = watched_by t.effects s.watched;
  reason = first_reason s.reason (closing_reason s t);
  closer = closer_after s t;
  calls = row_calls port s t ++ s.calls;
  stopped = s.stopped || stops port s t;
  events = events_after t.task.signal t.effects (is_closed_by s t) (stops port s t) s.events;
  given_back = s.given_back ++ given_back t.task.signal t.effects (is_closed_by s t) (stops port s t) s.events;
  jobs = s.jobs ++ submitted_by t.effects;
  done = done_by t.task.signal s.done;
  senders = t.from ∷ s.senders;
  due = busy_marks (is_busy s.marks) (busy_after (is_busy s.marks) t.effects) ++ closed_marks (closing_reason s t);
}

-- a late task calls no driver
abbrev pub after_late : State → Taken → State
after_late s t = record s {
  ties = tied_late s.ties t.from t.task.signal;
  events = told_of true t.task.signal s.events;
  done = done_by t.task.signal s.done;
  senders = t.from ∷ s.senders;
}

-- the state after one more row
abbrev pub after : Opening → State → Row → State
after port s (Handled from seq task outside effects) = after_handled port s (taken_of from seq task outside effects)
after port s (Late from seq task) = after_late s (late_of from seq task)
after port s (Listed from seq) = record s { listed = s.listed ++ entry from seq ∷ []; entries = entry from seq ∷ s.entries }
after port s (Resumed from seq word) = record s { listed = without_entry (entry from seq) s.listed }
after port s (Mark kind) = record s { marks = kind ∷ s.marks; due = drop 1 s.due }

-- the state after the rows, newest first
abbrev pub state : Opening → List Row → State
state port [] = state_at_start port
state port (row ∷ older) = after port (state port older) row
