-- The ports have ended, and their drivers are back.
use Rattle.std.specs.Prelude.{◌≡◌, ◌≢◌, ℕ, ◌<◌, ◌≤◌, List, length, reverse, true, false, Option, Some, slice_index, slice_index_or}
use Rattle.port_driver.specs.driver_model.Calls.{Kind, Own}
use Rattle.port_driver.specs.driver_model.Programs.{TellsOfProgram, ToldProgram}
use Rattle.port_driver.specs.Faults.{failures_in, RisenBy}
use Rattle.port_driver.specs.declared.life.Life.{Life}
use Rattle.port_driver.specs.declared.life.Life.TheVariants.{Stopped}
use Rattle.port_body.specs.served_port.View.{end_name, end_names}
use Rattle.port_body.specs.Body.{BodyView, name_of}
use Rattle.port_body.specs.Ends.{IsEndOf, IsLeftByCalls, IsWholeEnd}
use Rattle.driver_hosts.specs.declared.ending.EndedPort.{EndedPort}
use Rattle.driver_hosts.specs.declared.hosted.Hosted.{Hosted}

-- The options, the rows and the lane are those of the body, and each end and the words are those of its name
pub record IsLeftBy (v : BodyView) (port : EndedPort) : Type 0 where
  pub rows : port.journal.rows ≡ v.lane_port.port.rows
  pub config : port.config ≡ (name_of v).opening.config
  pub lane : port.lane ≡ v.lane_port.lane
  pub mailboxes : end_names port.outlets.mailboxes ≡ (name_of v).mailboxes
  pub asks : end_name port.outlets.ends.asks ≡ (name_of v).asks
  pub pool : end_names port.outlets.ends.pool ≡ (name_of v).pool
  pub table : port.outlets.seat.table ≡ (name_of v).table
  pub setup : port.outlets.seat.known.setup ≡ (name_of v).setup
  pub joined : port.outlets.seat.known.senders ≡ (name_of v).joined

-- What a body leaves. Where it had finished and isn't broken, the ends and the words are as it had them, and they, its lawful history and what was taken from its lane
-- say the same
pub record HasLeft (v : BodyView) (port : EndedPort) : Type 0 where
  pub left : IsLeftBy v port
  pub same : v.finished ≡ true → v.broken ≡ false → IsEndOf v port.journal.rows port.config port.outlets port.lane
  pub whole : v.finished ≡ true → v.broken ≡ false → IsWholeEnd v port.journal.rows port.outlets port.lane

-- so it is for each port, in the order of the ports
pub record LeaveAll (bodies : List BodyView) (ports : List EndedPort) : Type 0 where
  pub count : length ports ≡ length bodies
  pub each : (port : ℕ) (v : BodyView) (p : EndedPort) → port < length bodies → HasLeft (slice_index_or bodies port v) (slice_index_or ports port p)

module _ {D : Type 0} (kind : D → Kind) (stage : D → Life) (faults : D → ℕ) (own : D → Own) (program : D → Option ToldProgram) where
  -- The driver of this port is back, stopped, with the port that it served, and tells of the program that it served, if it did. Its faults rose by the failures that the rows tell. Where the port had finished, and the body isn't broken, it stands as the calls of the port's
  -- history leave it
  pub record HasReturned (v : BodyView) (old new : Hosted D) : Type 0 where
    pub driver : D
    pub back : new ≡ record old { driver = Some driver }
    pub same_kind : kind driver ≡ (name_of v).opening.kind
    pub no_fewer_faults : v.lane_port.port.port.state.service.faults ≤ faults driver
    pub faults_rise : (name_of v).faults ≤ faults driver
    pub failed : RisenBy (failures_in v.lane_port.port.rows) (name_of v).faults (faults driver)
    pub at_rest : stage driver ≡ Stopped
    pub told : TellsOfProgram (own driver) (program driver)
    pub stands : v.finished ≡ true → v.broken ≡ false → IsLeftByCalls (name_of v).opening (reverse v.lane_port.port.rows) (own driver) (program driver)

  -- the driver of each port is back at its place, and the others weren't touched
  pub record AreReturned (bodies : List BodyView) (places : List ℕ) (old new : List (Hosted D)) : Type 0 where
    pub len : length new ≡ length old
    pub returned : (port : ℕ) (v : BodyView) (d : Hosted D) → port < length bodies
        → HasReturned (slice_index_or bodies port v) (slice_index_or old (slice_index places port) d) (slice_index_or new (slice_index places port) d)
    pub others : (at : ℕ) (d : Hosted D) → ((port : ℕ) → port < length bodies → slice_index places port ≢ at) → slice_index_or new at d ≡ slice_index_or old at d
