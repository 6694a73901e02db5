-- Which tasks a port handles and which it finds late, and what that leaves.
use Rattle.std.specs.Prelude.{◌≡◌, ℕ, List, [], ◌++◌, Bool, true, false, ◌&&◌, not, is_some}
use Rattle.async_jobs.specs.declared.job.Job.{Job}
use Rattle.async_jobs.specs.Order.{AllSubmitted}
use Rattle.async_jobs.specs.Pool.{Lanes}
use Rattle.port_model.specs.port_signal.declared.outside.Outside.{Outside}
use Rattle.port_model.specs.declared.effect.Effect.{Effect}
use Rattle.port_model.specs.declared.row.Row.{Row}
use Rattle.port_model.specs.declared.row.Row.TheVariants.{Handled, Late}
use Rattle.port_model.specs.declared.signal.Sender.{Sender}
use Rattle.port_model.specs.declared.signal.Sender.TheVariants.{Process, Poller, Worker}
use Rattle.port_model.specs.declared.signal.Signal.{Signal}
use Rattle.port_model.specs.declared.signal.Signal.TheVariants.{Ready, Dropped, AsyncDone}
use Rattle.port_model.specs.Tasks.{TaskView}
use Rattle.port_events.specs.port_history.Events.{event_of}
use Rattle.port_events.specs.port_history.Jobs.{is_submitted}
use Rattle.port_events.specs.port_history.Laws.{may_send, is_ready, keeps_lifetime, keeps_effects, keeps_ready, is_told_in_time}
use Rattle.port_events.specs.port_history.Opening.{Opening, taken_of}
use Rattle.port_events.specs.port_history.State.{State, is_open, is_closed_by, stops, closing_reason, after}
use Rattle.port_events.specs.Asks.{asks_of}
use Rattle.port_jobs.specs.Jobs.{AreJobsOf}
use Rattle.port_state.specs.port_mail.Rows.{IsRowOf}
use Rattle.port_state.specs.declared.served.Served.{Served}
use Rattle.served_port.specs.declared.outcome.HandledOrLate.{HandledOrLate}
use Rattle.served_port.specs.declared.outcome.HandledOrLate.TheVariants as outcome
use Rattle.served_port.specs.View.{ServedView, IsAt}

-- the port handles a task: a process's where it is open, a ready event's where the driver selected it and it is armed, a dropped event's where it
-- waits for that, and that of a job's end where the driver runs and submitted it
abbrev pub is_handled : State → Sender → Signal → Bool
is_handled s (Process process) signal = is_open s
is_handled s Poller (Ready event dir) = is_ready s event dir
is_handled s Poller (Dropped event) = (event_of event s.events).waits
is_handled s (Worker worker) (AsyncDone number output) = is_submitted number s.jobs && not s.stopped
is_handled s from signal = false

-- a job's end is handled exactly where the job was submitted and the driver isn't stopped: of the law of jobs, what a port can see by itself
abbrev pub is_told_in : State → Bool → Signal → Bool
is_told_in s handled (AsyncDone number output) = is_told_in_time s handled number
is_told_in s handled signal = true

abbrev pub keeps_times : State → Row → Bool
keeps_times s (Handled from seq task outside effects) = is_told_in s true task.signal
keeps_times s (Late from seq task) = is_told_in s false task.signal
keeps_times s row = true

-- the row keeps the laws that hang on the driver, its events and its jobs
pub record KeepsServed (port : Opening) (s : State) (row : Row) : Type 0 where
  pub lifetime : keeps_lifetime s row ≡ true
  pub effects : keeps_effects port s row ≡ true
  pub ready : keeps_ready s row ≡ true
  pub jobs : keeps_times s row ≡ true

-- the jobs of the effects, and no other, went into the lanes of their workers, in order
pub record SubmitsJobs (port : ℕ) (effects : List Effect) (old new : Lanes) : Type 0 where
  pub jobs : List Job
  pub are : AreJobsOf port effects jobs
  pub submitted : AllSubmitted old jobs new

-- a task was handled: its row keeps the laws where its sender may send it, the port is what a history says after it, the row's mail is made of what is
-- answered, and the poller was asked and the workers were given what the row says
pub record IsHandledRow (port : Opening) (s : State) (from : Sender) (seq : ℕ) (task : TaskView) (made : Served) (old new : ServedView) : Type 0 where
  pub handled : is_handled s from task.signal ≡ true
  pub keeps : may_send from task.signal ≡ true → KeepsServed port s (Handled from seq task made.outside made.effects)
  pub at : IsAt new port (after port s (Handled from seq task made.outside made.effects))
  pub closes : made.closes ≡ is_some (closing_reason s (taken_of from seq task made.outside made.effects))
  pub mail : IsRowOf made.handling made.effects task.signal made.closing port s (taken_of from seq task made.outside made.effects)
  pub asks : new.events.asks.sent ≡ old.events.asks.sent
      ++ asks_of port.number task.signal made.effects (is_closed_by s (taken_of from seq task made.outside made.effects))
      (stops port s (taken_of from seq task made.outside made.effects)) s.events
  pub jobs : SubmitsJobs port.number made.effects old.jobs.lanes new.jobs.lanes

-- a task was found late: nobody was called or asked
pub record IsLateRow (port : Opening) (s : State) (from : Sender) (seq : ℕ) (task : TaskView) (old new : ServedView) : Type 0 where
  pub late : is_handled s from task.signal ≡ false
  pub keeps : may_send from task.signal ≡ true → KeepsServed port s (Late from seq task)
  pub at : IsAt new port (after port s (Late from seq task))
  pub asks : new.events.asks ≡ old.events.asks
  pub jobs : new.jobs.lanes ≡ old.jobs.lanes

abbrev pub IsOutcome : HandledOrLate → Opening → State → Sender → ℕ → TaskView → ServedView → ServedView → Type 0
IsOutcome (outcome.Handled made) port s from seq task old new = IsHandledRow port s from seq task made old new
IsOutcome outcome.Late port s from seq task old new = IsLateRow port s from seq task old new

-- the outside's answers in the row of a task
abbrev pub answers_in : HandledOrLate → List Outside
answers_in (outcome.Handled made) = made.outside
answers_in outcome.Late = []
