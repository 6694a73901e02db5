-- The laws of a history, each as a test on the state before a row and that row. A law is broken at the first row where it can't hold any
-- more; where the test has nothing to say of a row, it holds.
use Rattle.std.specs.Prelude.{ℕ, ◌==◌, List, [], ◌∷◌, Bool, true, false, ◌&&◌, ◌||◌, not, nat_le, if◌then◌else◌}
use Rattle.std.specs.List.{list_all, count_by}
use Rattle.driver_model.specs.port_signal.declared.outside.Outside.{Outside}
use Rattle.driver_model.specs.port_model.declared.event.Dir.{Dir}
use Rattle.driver_model.specs.port_model.declared.signal.Sender.{Sender}
use Rattle.driver_model.specs.port_model.declared.signal.Sender.TheVariants.{Process, Poller, Worker, Timer}
use Rattle.driver_model.specs.port_model.declared.signal.Signal.{Signal}
use Rattle.driver_model.specs.port_model.declared.signal.Signal.TheVariants.{Ready, Dropped, AsyncDone}
use Rattle.driver_model.specs.port_model.declared.row.Row.{Row}
use Rattle.driver_model.specs.port_model.declared.row.Row.TheVariants.{Handled, Late, Listed, Resumed, Mark}
use Rattle.driver_model.specs.port_model.Signals.{is_command}
use Rattle.driver_model.specs.port_model.Tasks.{TaskView}
use Rattle.driver_model.specs.Calls.{DriverCall}
use Rattle.driver_model.specs.Same.{same_effects, same_bytes}
use Rattle.driver_model.specs.Spawn.{is_none}
use Rattle.driver_model.specs.Drivers.{call_answered}
use Rattle.port_history.specs.Opening.{Opening, Taken, same_sender, taken_of}
use Rattle.port_history.specs.Marks.{is_busy, is_due, none_due}
use Rattle.port_history.specs.Suspension.{Entry, entry, has_entry, has_sender, is_first, is_queue_busy}
use Rattle.port_history.specs.Events.{Event, event_of, is_selected, is_armed_in}
use Rattle.port_history.specs.Jobs.{Submitted, is_done, is_submitted, each_of, is_next_of_key}
use Rattle.port_history.specs.Service.{effects_after}
use Rattle.port_history.specs.State.{State, is_open, signal_calls, row_calls}
use Rattle.async_jobs.specs.Work.{work_of}

-- how many tasks of the sender have a row
abbrev pub count_of : Sender → List Sender → ℕ
count_of from senders = count_by (same_sender from) senders

-- Law 1, order: the numbers of a sender's tasks are 0, 1, 2 and so on, and each signal comes from a sender that may send it.

abbrev pub poller_sends : Signal → Bool
poller_sends (Ready event dir) = true
poller_sends (Dropped event) = true
poller_sends signal = false

abbrev pub worker_sends : Signal → Bool
worker_sends (AsyncDone number output) = true
worker_sends signal = false

abbrev pub may_send : Sender → Signal → Bool
may_send (Process process) signal = not (poller_sends signal || worker_sends signal)
may_send Poller signal = poller_sends signal
may_send (Worker worker) signal = worker_sends signal
may_send Timer signal = false

abbrev pub is_next : State → Sender → ℕ → Signal → Bool
is_next s from seq signal = seq == count_of from s.senders && may_send from signal

abbrev pub keeps_order : State → Row → Bool
keeps_order s (Handled from seq task outside effects) = is_next s from seq task.signal
keeps_order s (Late from seq task) = is_next s from seq task.signal
keeps_order s row = true

-- Law 2, lifetime: a process's signal is handled only while the port is open, and late only while it isn't.

abbrev pub keeps_lifetime : State → Row → Bool
keeps_lifetime s (Handled (Process process) seq task outside effects) = is_open s
keeps_lifetime s (Late (Process process) seq task) = not (is_open s)
keeps_lifetime s row = true

-- Law 3, busy: a command that isn't forced is handled only where the port isn't busy.

abbrev pub waits_where_busy : TaskView → Bool
waits_where_busy task = is_command task.signal && not task.forced

abbrev pub keeps_busy : State → Row → Bool
keeps_busy s (Handled from seq task outside effects) = not (waits_where_busy task && is_busy s.marks)
keeps_busy s row = true

-- Law 4, effects: the effects of a handled row are those of its calls after all calls so far, and the outside answered just what they
-- asked for.

abbrev pub is_answered_by : Opening → State → List DriverCall → List Outside → Bool
is_answered_by port s [] outside = is_none outside
is_answered_by port s (call ∷ calls) outside = call_answered port.kind port.config s.calls call

abbrev pub has_effects : Opening → State → Taken → Bool
has_effects port s t =
    same_effects t.effects (effects_after port s.calls (row_calls port s t)) && is_answered_by port s (signal_calls s t) t.outside

abbrev pub keeps_effects : Opening → State → Row → Bool
keeps_effects port s (Handled from seq task outside effects) = has_effects port s (taken_of from seq task outside effects)
keeps_effects port s row = true

-- Law 5, marks: behind a row that changed the busy state stands its mark, then behind the closing row the closed mark, and marks stand
-- nowhere else.

abbrev pub keeps_marks : State → Row → Bool
keeps_marks s (Mark kind) = is_due kind s.due
keeps_marks s row = none_due s.due

-- Law 6, listed: a task that suspends has one Listed row before its own, and no other task has one; at most one listed task of a sender
-- isn't resumed.

abbrev pub is_listed_right : State → Sender → ℕ → TaskView → Bool
is_listed_right s from seq task = if task.suspends then has_entry (entry from seq) s.entries else not (has_entry (entry from seq) s.entries)

abbrev pub keeps_listed : State → Row → Bool
keeps_listed s (Handled from seq task outside effects) = is_listed_right s from seq task
keeps_listed s (Late from seq task) = is_listed_right s from seq task
keeps_listed s (Listed from seq) =
    not (has_entry (entry from seq) s.entries) && nat_le (count_of from s.senders) seq && not (has_sender from s.listed)
keeps_listed s row = true

-- Law 7, resumed: a resume names the first listed task that isn't resumed; the port isn't busy and the queue's word isn't either, or the port
-- isn't open.

abbrev pub keeps_resumed : State → Row → Bool
keeps_resumed s (Resumed from seq word) =
    is_first (entry from seq) s.listed && (not (is_open s) || not (is_busy s.marks || is_queue_busy word))
keeps_resumed s row = true

-- Law 8, ready: a Ready task is handled exactly where its event is selected in its direction and armed, a Dropped task exactly where its
-- event waits for it.

abbrev pub is_ready : State → ℕ → Dir → Bool
is_ready s event dir = is_selected dir (event_of event s.events) && is_armed_in dir (event_of event s.events)

abbrev pub is_served : State → Bool → Signal → Bool
is_served s handled (Ready event dir) = if is_ready s event dir then handled else not handled
is_served s handled (Dropped event) = if (event_of event s.events).waits then handled else not handled
is_served s handled signal = true

abbrev pub keeps_ready : State → Row → Bool
keeps_ready s (Handled from seq task outside effects) = is_served s true task.signal
keeps_ready s (Late from seq task) = is_served s false task.signal
keeps_ready s row = true

-- Law 9, jobs: no job is told done twice. It is handled exactly where it was submitted and the driver isn't stopped; where it was submitted
-- its output is the work of its code and input, and those of one key are told in the order of their numbers.

-- the second sentence alone, which a port can see to by itself
abbrev pub is_told_in_time : State → Bool → ℕ → Bool
is_told_in_time s handled number = if is_submitted number s.jobs && not s.stopped then handled else not handled

abbrev pub is_work : List ℕ → Submitted → Bool
is_work output job = same_bytes output (work_of job.code job.input)

abbrev pub is_told_right : State → Bool → Signal → Bool
is_told_right s handled (AsyncDone number output) =
    not (is_done number s.done) && is_told_in_time s handled number
    && each_of number (is_work output) s.jobs && each_of number (is_next_of_key s.jobs s.done) s.jobs
is_told_right s handled signal = true

abbrev pub keeps_jobs : State → Row → Bool
keeps_jobs s (Handled from seq task outside effects) = is_told_right s true task.signal
keeps_jobs s (Late from seq task) = is_told_right s false task.signal
keeps_jobs s row = true

-- Law 10, end: at the end the driver is stopped, each listed task is resumed, each used event had its `stop_select`, and each job has its row.

abbrev pub all_resumed : List Entry → Bool
all_resumed [] = true
all_resumed entries = false

abbrev pub is_given_back : Event → Bool
is_given_back e = not (e.held || e.waits)

abbrev pub keeps_end : State → Bool
keeps_end s =
    s.stopped && all_resumed s.listed && list_all is_given_back s.events && list_all (λ job. is_done job.number s.done) s.jobs
