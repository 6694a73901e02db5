-- The ports of a run that is over, closed.
use Rattle.std.specs.Prelude.{◌≡◌, ◌<◌, ℕ, List, length, reverse, All, Option, Some, slice_index, slice_index_or}
use Rattle.driver_model.specs.Calls.{Kind, Own}
use Rattle.driver_model.specs.Programs.{TellsOfProgram, ToldProgram}
use Rattle.driver_hosts.specs.port_driver.Faults.{failures_in, RisenBy}
use Rattle.driver_hosts.specs.port_driver.declared.life.Life.{Life}
use Rattle.port_history.specs.Lawful.{IsFinished}
use Rattle.port_history.specs.State.{state}
use Rattle.driver_hosts.specs.port_body.Body.{BodyView, BodyName, name_of}
use Rattle.driver_hosts.specs.port_body.Ends.{HasListedInOrder, IsLeftByCalls, IsSentBy}
use Rattle.driver_hosts.specs.declared.ending.EndedPort.{EndedPort}
use Rattle.driver_hosts.specs.declared.hosted.Hosted.{Hosted}
use Rattle.driver_hosts.specs.Returning.{AreReturned}
use Rattle.driver_hosts.specs.served_port.View.{end_name, end_names}
use Rattle.closed_ports.specs.Ends.{AreOfBodies, LaneEnd}
use Rattle.closed_ports.specs.Laws.{AreAllColumns, RowsAreSent, ends_at}
use Rattle.closed_ports.specs.Senders.{IsOfAnEnd}

-- the columns are all ends of the ports' lanes, by the numbers of their senders, each with one end of each port
pub record ArePortsOfLanes (bodies : List BodyView) (columns : List (List LaneEnd)) : Type 0 where
  pub of_bodies : All (AreOfBodies bodies) columns
  pub all : AreAllColumns bodies columns

-- A port with this name that took in all ends of its lane and came to rest. Its history is lawful but for what workers see to, and finished, and what it sent and marked is what that says; the
-- tasks of each sender that have a row are those that it sent, in its order, each once, and no row is of anybody else. Each sender was listed in the order of its tasks, and each of these has a row. Its options,
-- its ends and its words are those of its name
pub record IsClosed (name : BodyName) (ends : List LaneEnd) (port : EndedPort) : Type 0 where
  pub config : port.config ≡ name.opening.config
  pub mailboxes : end_names port.outlets.mailboxes ≡ name.mailboxes
  pub asks : end_name port.outlets.ends.asks ≡ name.asks
  pub pool : end_names port.outlets.ends.pool ≡ name.pool
  pub table : port.outlets.seat.table ≡ name.table
  pub setup : port.outlets.seat.known.setup ≡ name.setup
  pub joined : port.outlets.seat.known.senders ≡ name.joined
  pub sent : IsSentBy name.opening (reverse port.journal.rows) port.outlets
  pub finished : IsFinished name.opening (reverse port.journal.rows)
  pub rows : RowsAreSent name.key ends (reverse port.journal.rows)
  pub senders : All (IsOfAnEnd name.key) port.journal.rows
  pub listed : HasListedInOrder (state name.opening (reverse port.journal.rows))

-- so is each port, in the order of the ports
pub record AreClosed (bodies : List BodyView) (columns : List (List LaneEnd)) (ports : List EndedPort) : Type 0 where
  pub many : length ports ≡ length bodies
  pub each : (port : ℕ) (v : BodyView) (d : LaneEnd) (p : EndedPort) → port < length bodies
      → IsClosed (name_of (slice_index_or bodies port v)) (ends_at port d columns) (slice_index_or ports port p)

module _ {D : Type 0} where
  -- the drivers of ports that made turns and ended are back at their places
  pub record HaveComeBack (kind : D → Kind) (stage : D → Life) (faults : D → ℕ) (own : D → Own) (program : D → Option ToldProgram) (bodies : List BodyView) (places : List ℕ) (old new : List (Hosted D)) : Type 0 where
    pub last : List BodyView
    pub many : length last ≡ length bodies
    pub names : (port : ℕ) (v w : BodyView) → port < length bodies → name_of (slice_index_or last port w) ≡ name_of (slice_index_or bodies port v)
    pub returned : AreReturned kind stage faults own program last places old new

  -- the driver at a port's place stands as the calls of the port's history leave it and tells of the program that it served, if it did, and its faults rose by the failures that the history tells
  pub record StandsAsLeft (kind : D → Kind) (faults : D → ℕ) (own : D → Own) (program : D → Option ToldProgram) (name : BodyName) (port : EndedPort) (host : Hosted D) : Type 0 where
    pub driver : D
    pub back : host.driver ≡ Some driver
    pub kind_is : kind driver ≡ name.opening.kind
    pub stands : IsLeftByCalls name.opening (reverse port.journal.rows) (own driver) (program driver)
    pub told : TellsOfProgram (own driver) (program driver)
    pub failed : RisenBy (failures_in port.journal.rows) name.faults (faults driver)

  pub record HaveEndedFrom (kind : D → Kind) (faults : D → ℕ) (own : D → Own) (program : D → Option ToldProgram) (bodies : List BodyView) (places : List ℕ) (ports : List EndedPort) (hosts : List (Hosted D)) : Type 0 where
    pub each : (port : ℕ) (v : BodyView) (p : EndedPort) (h : Hosted D) → port < length bodies
        → StandsAsLeft kind faults own program (name_of (slice_index_or bodies port v)) (slice_index_or ports port p) (slice_index_or hosts (slice_index places port) h)
