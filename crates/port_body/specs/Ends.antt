-- What a body is once it ended, and what it gives back.
use Rattle.std.specs.Prelude.{◌≡◌, ◌<◌, ◌≤◌, ℕ, List, [], ◌++◌, length, slice_index_or, reverse, All, Contains, true, false, Option, IfSome}
use Rattle.std.specs.List.{AllByRecursion}
use Rattle.task_queue.specs.Ends.{Taking}
use Rattle.port_driver.specs.driver_model.Calls.{Own}
use Rattle.port_driver.specs.driver_model.Drivers.{holds, read_event_of, write_event_of}
use Rattle.port_driver.specs.driver_model.Programs.{Tells, TellsOfProgram, ToldProgram}
use Rattle.port_driver.specs.port_config.declared.config.Config.{Config}
use Rattle.port_driver.specs.declared.life.Life.TheVariants.{Stopped}
use Rattle.port_events.specs.port_history.Laws.{count_of}
use Rattle.port_events.specs.port_history.Lawful.{IsFinished}
use Rattle.port_events.specs.port_history.Mail.{mails}
use Rattle.port_events.specs.port_history.Opening.{Opening}
use Rattle.port_events.specs.port_history.State.{State, is_open, state}
use Rattle.port_events.specs.port_history.Suspension.{Entry}
use Rattle.port_lanes.specs.Keys.{Key, end_of, sender_at}
use Rattle.port_lanes.specs.Parcels.{ParcelView}
use Rattle.port_model.specs.declared.row.Row.{Row}
use Rattle.port_model.specs.declared.signal.Sender.TheVariants.{Timer}
use Rattle.port_state.specs.port_mail.Ends.{MailEnd}
use Rattle.recorded_port.specs.Asks.{GaveJobs, asks, removals, resumed_words}
use Rattle.recorded_port.specs.Laws.{IsLawful}
use Rattle.recorded_port.specs.View.{removed_sizes, stat_marks, state_of}
use Rattle.recorded_port.specs.declared.parts.PortOutlets.{PortOutlets}
use Rattle.port_body.specs.Body.{BodyView, name_of}
use Rattle.port_body.specs.LanePort.{AreFalling, HasEnd, rows_from, tasks_of}

-- Its driver is stopped and tells of its program, where it served one, and its faults didn't fall; rows, ends and words are as they were. It is broken from then on, unless its port had stopped the driver, and
-- then nothing changed
pub record HasEnded (old new : BodyView) : Type 0 where
  pub stopped : new.lane_port.port.port.state.service.stage ≡ Stopped
  pub told : TellsOfProgram new.lane_port.port.port.state.service.own new.lane_port.port.port.state.service.program
  pub name : name_of new ≡ name_of old
  pub faults : old.lane_port.port.port.state.service.faults ≤ new.lane_port.port.port.state.service.faults
  pub rows : new.lane_port.port.rows ≡ old.lane_port.port.rows
  pub lane : new.lane_port.lane ≡ old.lane_port.lane
  pub waiting : new.lane_port.waiting ≡ old.lane_port.waiting
  pub finished : new.finished ≡ old.finished
  pub broken : old.broken ≡ false → (state_of old.lane_port.port).stopped ≡ false → new.broken ≡ true
  pub unchanged : old.broken ≡ false → (state_of old.lane_port.port).stopped ≡ true → new ≡ old
  pub over : old.broken ≡ false → old.finished ≡ true → new ≡ old

-- A driver stands as the calls of a history leave it: it keeps what they leave, its events are those of the opening, and its program, where this is
-- told, is as they tell
pub record IsLeftByCalls (port : Opening) (history : List Row) (own : Own) (program : Option ToldProgram) : Type 0 where
  pub keeps : own ≡ (holds port.kind port.config (state port history).calls).own
  pub read : read_event_of own ≡ port.read
  pub write : write_event_of own ≡ port.write
  pub told : IfSome program (Tells port.config (state port history).calls)

-- the rows, the options, the ends and the words are those of the body
pub record IsEndOf (v : BodyView) (rows : List Row) (config : Config) (outlets : PortOutlets) (lane : Taking ParcelView Key) : Type 0 where
  pub rows_are : rows ≡ v.lane_port.port.rows
  pub config_is : config ≡ v.lane_port.port.opening.config
  pub mailboxes : outlets.mailboxes ≡ v.lane_port.port.ends
  pub seat : outlets.seat ≡ v.lane_port.port.seat
  pub asks : outlets.ends.asks ≡ v.lane_port.port.port.events.asks
  pub pool : outlets.ends.pool ≡ v.lane_port.port.port.jobs.lanes
  pub lane_is : lane ≡ v.lane_port.lane

-- these are the mail, the asks, the jobs, the marks and the removed bytes of a lawful history, whose words of resumes are among those that the port found
pub record IsSentBy (port : Opening) (history : List Row) (outlets : PortOutlets) : Type 0 where
  pub lawful : IsLawful port history
  pub mail : (process : ℕ) (e : MailEnd) → process < length outlets.mailboxes → (slice_index_or outlets.mailboxes process e).sent ≡ mails port process history
  pub asks_are : outlets.ends.asks.sent ≡ asks port history
  pub jobs : GaveJobs port history outlets.ends.pool
  pub marks : outlets.seat.known.marks ≡ stat_marks (state port history).marks
  pub removed : removed_sizes outlets.seat ≡ removals history
  pub resumed : All (λ word. Contains outlets.seat.known.words word) (resumed_words history)

-- each task that was listed has a row
abbrev pub HaveRows : State → Type 0
HaveRows s = AllByRecursion (λ (e : Entry). e.seq < count_of e.from s.senders) s.entries

-- a port listed each sender in the order of its tasks, and all those tasks have a row
pub record HasListedInOrder (s : State) : Type 0 where
  pub falling : AreFalling s.entries
  pub have_rows : HaveRows s

-- What an unbroken body ends with: its history is lawful, and what it sent and marked is what that says. Of each end of its lane the tasks that have a row, and then
-- those that wait, are what was taken of it, and no other sender has a row. Each sender was listed in the order of its tasks. Nothing waits where the port isn't open, and so of a body that has finished,
-- of which each task that was listed has a row
pub record IsWholeEnd (v : BodyView) (rows : List Row) (outlets : PortOutlets) (lane : Taking ParcelView Key) : Type 0 where
  pub sent : IsSentBy v.lane_port.port.opening (reverse rows) outlets
  pub taken : (number : ℕ) → number < end_of lane.key Timer
      → rows_from (sender_at lane.key number) (reverse rows) ++ tasks_of number v.lane_port.waiting.items ≡ tasks_of number lane.taken
  pub from_ends : AllByRecursion (HasEnd lane.key) (state v.lane_port.port.opening (reverse rows)).senders
  pub falling : AreFalling (state v.lane_port.port.opening (reverse rows)).entries
  pub closed : is_open (state v.lane_port.port.opening (reverse rows)) ≡ false → v.lane_port.waiting.items ≡ []
  pub finished : v.finished ≡ true → IsFinished v.lane_port.port.opening (reverse rows)
  pub none_waits : v.finished ≡ true → v.lane_port.waiting.items ≡ []
  pub have_rows : v.finished ≡ true → HaveRows (state v.lane_port.port.opening (reverse rows))
