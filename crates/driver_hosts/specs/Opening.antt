-- The ports of a script are opened, each with its driver and in its room.
use Rattle.std.specs.Prelude.{◌≡◌, ◌≢◌, ℕ, ◌<◌, List, length, Some, None, IsSomeAnd, slice_index, slice_index_or}
use Rattle.port_driver.specs.driver_model.Calls.{Kind}
use Rattle.port_driver.specs.driver_model.Drivers.{refusal_of}
use Rattle.script_plan.specs.declared.decl.PortDecl.{PortDecl}
use Rattle.port_body.specs.served_port.declared.ends.PortPlace.{PortPlace}
use Rattle.port_body.specs.recorded_port.Openings.{AreUnused}
use Rattle.port_body.specs.Body.{BodyView}
use Rattle.port_body.specs.Openings.{FitsPlace, IsOpenedBody}
use Rattle.driver_hosts.specs.declared.hosted.Hosted.{Hosted}
use Rattle.driver_hosts.specs.declared.room.PortRoom.{PortRoom}
use Rattle.driver_hosts.specs.declared.opening.Unopened.{Unopened}
use Rattle.driver_hosts.specs.declared.opening.Unopened.TheVariants.{Refused, NoMemory}

-- the port of this number, of its owner, among the processes of its room
abbrev pub place_of : ℕ → PortDecl → PortRoom → PortPlace
place_of number port room = record { number = number; owner = port.owner; processes = room.processes; rows = room.rows }

-- the port may be opened in this room: its owner is one of the processes, nothing was sent, marked or taken, and the key of the lane has the port's words and the
-- numbers of processes and workers
pub record FitsPort (port : PortDecl) (room : PortRoom) : Type 0 where
  pub owner : port.owner < room.processes
  pub unused : AreUnused room.outlets
  pub lane : FitsPlace (place_of 0 port room) room.workers room.outlets room.lane

-- so it is for each port and the room at its place
abbrev pub Fit : List PortDecl → List PortRoom → Type 0
Fit ports rooms = (port : ℕ) (p : PortDecl) (r : PortRoom) → port < length ports → FitsPort (slice_index_or ports port p) (slice_index_or rooms port r)

module _ {D : Type 0} where
  -- the driver was taken from its place, where the port's number stands, and started to serve the port: with its options, for its owner, and in its room
  pub record HasOpened (kind : D → Kind) (faults : D → ℕ) (number : ℕ) (port : PortDecl) (room : PortRoom) (old new : Hosted D) (body : BodyView) : Type 0 where
    pub driver : D
    pub handed : old.driver ≡ Some driver
    pub taken : new ≡ record { port = Some number; driver = None }
    pub starts : refusal_of (kind driver) port.config ≡ None
    pub opened : IsOpenedBody (place_of number port room) (kind driver) (faults driver) port.config room.workers room.outlets room.lane body

  -- each of these ports, in their order, was opened with the driver at its place, and the other drivers weren't touched
  pub record AreOpened (kind : D → Kind) (faults : D → ℕ) (ports : List PortDecl) (rooms : List PortRoom) (places : List ℕ) (old new : List (Hosted D)) (bodies : List BodyView) : Type 0 where
    pub len : length new ≡ length old
    pub opened : (port : ℕ) (p : PortDecl) (r : PortRoom) (d : Hosted D) (body : BodyView) → port < length bodies
        → HasOpened kind faults port (slice_index_or ports port p) (slice_index_or rooms port r) (slice_index_or old (slice_index places port) d) (slice_index_or new (slice_index places port) d)
        (slice_index_or bodies port body)
    pub others : (at : ℕ) (d : Hosted D) → ((port : ℕ) → port < length bodies → slice_index places port ≢ at) → slice_index_or new at d ≡ slice_index_or old at d

  -- the driver of this port doesn't refuse by its kind and options
  abbrev pub Starts : (D → Kind) → List PortDecl → List ℕ → List (Hosted D) → ℕ → Type 0
  Starts kind ports places hosts port = (p : PortDecl) (d : Hosted D)
      → IsSomeAnd (slice_index_or hosts (slice_index places port) d).driver (λ driver. refusal_of (kind driver) (slice_index_or ports port p).config ≡ None)

  -- the port at this place, declared in this line, is the first whose driver didn't start
  pub record HasRefused (kind : D → Kind) (ports : List PortDecl) (places : List ℕ) (hosts : List (Hosted D)) (at line : ℕ) : Type 0 where
    pub within : at < length ports
    pub line_is : (p : PortDecl) → line ≡ (slice_index_or ports at p).line
    pub first : (port : ℕ) → port < at → Starts kind ports places hosts port

  -- why the ports weren't opened
  abbrev pub IsUnopened : (D → Kind) → List PortDecl → List ℕ → List (Hosted D) → Unopened → Type 0
  IsUnopened kind ports places hosts (Refused at line refusal) = HasRefused kind ports places hosts at line
  IsUnopened kind ports places hosts NoMemory = Unit {0}
