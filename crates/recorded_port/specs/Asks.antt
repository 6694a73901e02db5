-- What the rows of a history ask of the poller and of the workers, which bytes they take out of the message queue, and with which words they resume.
use Rattle.std.specs.Prelude.{◌≡◌, ℕ, List, [], ◌∷◌, ◌++◌, map, All, if◌then◌else◌}
use Rattle.std.specs.List.{flat_map}
use Rattle.served_port.specs.async_jobs.declared.job.Job.{Job}
use Rattle.served_port.specs.async_jobs.Order.{AllSubmitted}
use Rattle.served_port.specs.async_jobs.Pool.{Lanes, PoolEnd}
use Rattle.port_driver.specs.driver_model.Drivers.{effects_of}
use Rattle.port_model.specs.declared.row.Row.{Row}
use Rattle.port_model.specs.declared.row.Row.TheVariants.{Handled, Late, Resumed}
use Rattle.port_model.specs.declared.signal.Signal.{Signal}
use Rattle.port_model.specs.Signals.{data_size, is_command}
use Rattle.port_lanes.specs.port_history.Events.{selected_by}
use Rattle.port_lanes.specs.port_history.Opening.{Opening, taken_of}
use Rattle.port_lanes.specs.port_history.State.{State, state, start_call, is_closed_by, stops}
use Rattle.served_port.specs.port_events.Asks.{asks_of, arm_asks}
use Rattle.served_port.specs.port_jobs.Jobs.{submitted_as}
use Rattle.served_port.specs.ready_select.declared.ask.PollAsk.{PollAsk}

-- what the start of a driver asks
abbrev pub start_asks : Opening → List PollAsk
start_asks port = flat_map (arm_asks port.number) (selected_by (effects_of port.kind port.config (start_call port ∷ [])) [])

abbrev pub row_asks : Opening → State → Row → List PollAsk
row_asks port s (Handled from seq task outside effects) =
    asks_of port.number task.signal effects (is_closed_by s (taken_of from seq task outside effects)) (stops port s (taken_of from seq task outside effects)) s.events
row_asks port s row = []

-- all that a history, newest row first, asks of the poller, oldest first
abbrev pub asks : Opening → List Row → List PollAsk
asks port [] = start_asks port
asks port (row ∷ older) = asks port older ++ row_asks port (state port older) row

-- nothing was put into these lanes
abbrev pub AreFresh : Lanes → Type 0
AreFresh lanes = All (λ (e : PoolEnd). e.sent ≡ []) lanes

-- the jobs of a history, and no other, went into the lanes of their workers, in order
pub record GaveJobs (port : Opening) (history : List Row) (lanes : Lanes) : Type 0 where
  pub start : Lanes
  pub jobs : List Job
  pub fresh : AreFresh start
  pub own : All (λ job. job.port ≡ port.number) jobs
  pub same : map submitted_as jobs ≡ (state port history).jobs
  pub submitted : AllSubmitted start jobs lanes

-- how many bytes a task takes out of the message queue, if it is a command
abbrev pub command_sizes : Signal → List ℕ
command_sizes signal = if is_command signal then data_size signal ∷ [] else []

abbrev pub row_sizes : Row → List ℕ
row_sizes (Handled from seq task outside effects) = command_sizes task.signal
row_sizes (Late from seq task) = command_sizes task.signal
row_sizes row = []

-- how many bytes each command of a history, newest row first, takes out, oldest first
abbrev pub removals : List Row → List ℕ
removals [] = []
removals (row ∷ older) = removals older ++ row_sizes row

-- the words with which a history, newest row first, resumes senders, newest first
abbrev pub resumed_words : List Row → List ℕ
resumed_words [] = []
resumed_words (Resumed from seq word ∷ older) = word ∷ resumed_words older
resumed_words (row ∷ older) = resumed_words older
