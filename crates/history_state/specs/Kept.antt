-- When what is kept of a history is what the history says.
use Rattle.std.specs.Prelude.{◌≡◌, ℕ, List, Bool, true, false, length, Option}
use Rattle.port_signal.specs.Links.{has}
use Rattle.port_model.specs.declared.signal.Sender.{Sender}
use Rattle.port_model.specs.declared.signal.Sender.TheVariants.{Process}
use Rattle.port_model.specs.declared.signal.Signal.{Signal}
use Rattle.port_model.specs.declared.signal.Signal.TheVariants.{AsyncDone}
use Rattle.port_model.specs.declared.effect.Effect.{Effect}
use Rattle.port_history.specs.Jobs.{Submitted, each_of, is_next_of_key}
use Rattle.port_history.specs.Opening.{Opening, Taken}
use Rattle.port_history.specs.State.{State, closing_reason, stops}
use Rattle.history_tables.specs.Counts.{Counts}
use Rattle.history_tables.specs.EventsKept.{Holds}
use Rattle.history_tables.specs.JobsKept.{Keeps, are_next}
use Rattle.history_tables.specs.Listed.{Lists}
use Rattle.history_tables.specs.Marked.{Marked}
use Rattle.history_tables.specs.Tied.{Tied, Watches}
use Rattle.history_state.specs.declared.state.HistoryState.{HistoryState}

-- each part is that of the state, but for the calls of the driver and what they gave back
pub record IsStateOf (h : HistoryState) (port : Opening) (s : State) : Type 0 where
  pub processes_are : h.processes ≡ port.processes
  pub tied : Tied h.ties s.ties
  pub watches : Watches h.watched s.watched
  pub reason_is : h.reason ≡ s.reason
  pub stopped_is : h.stopped ≡ s.stopped
  pub holds : Holds h.events s.events
  pub keeps : Keeps h.jobs s.jobs s.done
  pub counts_are : Counts h.counts s.senders
  pub lists : Lists h.listed s.listed s.entries
  pub marked : Marked h.marks s.marks s.due

-- the driver is told of the sender's end
abbrev pub is_told : List ℕ → Sender → Bool
is_told watched (Process process) = has process watched
is_told watched from = false

-- a job that the signal tells done, if it does, is the next of its key
abbrev pub is_next_job : List Submitted → List ℕ → Signal → Bool
is_next_job jobs done (AsyncDone number output) = each_of number (is_next_of_key jobs done) jobs
is_next_job jobs done signal = true

-- a task was handled so: with these effects, whose jobs are the next ones, and its row closes the port for this reason, if it does, and stops
-- the driver where that is said
pub record IsHandledSo (from : Sender) (signal : Signal) (effects : List Effect) (reason : Option (List ℕ)) (stopped : Bool) (port : Opening) (s : State) (t : Taken) : Type 0 where
  pub sender : t.from ≡ from
  pub signal_is : t.task.signal ≡ signal
  pub effects_are : t.effects ≡ effects
  pub closes : reason ≡ closing_reason s t
  pub stops_it : stopped ≡ stops port s t
  pub next_jobs : are_next (length s.jobs) effects ≡ true
  pub next_job : is_next_job s.jobs s.done signal ≡ true
