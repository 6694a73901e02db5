-- A body, as contracts see it, its name, and what always holds of it.
use Rattle.std.specs.Prelude.{◌≡◌, ◌≢◌, ◌≤◌, ℕ, List, Bool, false}
use Rattle.atomic_table.specs.Seated.{TableId}
use Rattle.task_queue.specs.Ends.{LaneId}
use Rattle.port_driver.specs.Faults.{failures_in, RisenBy}
use Rattle.port_driver.specs.declared.life.Life.TheVariants.{Fresh}
use Rattle.port_events.specs.port_history.Opening.{Opening}
use Rattle.port_lanes.specs.Keys.{Key}
use Rattle.port_words.specs.declared.busy.view.BusySetup.{BusySetup}
use Rattle.port_words.specs.declared.busy.view.SenderView.{SenderView}
use Rattle.recorded_port.specs.served_port.View.{EndName, end_name, end_names}
use Rattle.recorded_port.specs.View.{is_finished, state_of}
use Rattle.port_body.specs.LanePort.{LanePortView, IsBody}

-- the port at its lane, whether a step found no memory or the driver was stopped before its port closed, whether it has finished, or had before it broke, and
-- its driver's count of faults when it was opened
pub record BodyView : Type 0 where
  pub lane_port : LanePortView
  pub broken : Bool
  pub finished : Bool
  pub first_faults : ℕ

-- All that no turn changes: how the port was opened (its number, how many processes there are, its kind, its options, its first owner, and the events of its
-- program), how many processes and workers its lane knows, the lane and its key, the table of its words, the set-up of its words, and the senders' seats that were joined,
-- which ends it has in the mailboxes, in the poller's lane and in the workers', and its driver's count of faults when it was opened
pub record BodyName : Type 0 where
  pub opening : Opening
  pub processes : ℕ
  pub workers : ℕ
  pub lane : LaneId
  pub key : Key
  pub table : TableId
  pub setup : BusySetup
  pub joined : List SenderView
  pub mailboxes : List EndName
  pub asks : EndName
  pub pool : List EndName
  pub faults : ℕ

abbrev pub name_of : BodyView → BodyName
name_of v = record {
  opening = v.lane_port.port.opening;
  processes = v.lane_port.processes;
  workers = v.lane_port.workers;
  lane = v.lane_port.lane.lane;
  key = v.lane_port.lane.key;
  table = v.lane_port.port.seat.table;
  setup = v.lane_port.port.seat.known.setup;
  joined = v.lane_port.port.seat.known.senders;
  mailboxes = end_names v.lane_port.port.ends;
  asks = end_name v.lane_port.port.port.events.asks;
  pool = end_names v.lane_port.port.port.jobs.lanes;
  faults = v.first_faults;
}

-- Of a body that isn't broken all holds that a step keeps, and it has finished exactly where nothing is wanting at the end of its history. Of each its driver's
-- faults didn't fall, and rose by the failures that the rows tell, and its driver was started
pub record AlwaysHolds (v : BodyView) : Type 0 where
  pub body : v.broken ≡ false → IsBody v.lane_port
  pub finished : v.broken ≡ false → v.finished ≡ is_finished (state_of v.lane_port.port)
  pub faults : v.first_faults ≤ v.lane_port.port.port.state.service.faults
  pub failed : RisenBy (failures_in v.lane_port.port.rows) v.first_faults v.lane_port.port.port.state.service.faults
  pub life : v.lane_port.port.port.state.service.stage ≢ Fresh
