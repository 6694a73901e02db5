-- What a run is set up with, and the names of its bodies.
use Rattle.std.specs.Prelude.{◌≡◌, ◌<◌, ℕ, Bool, List, length, map, slice_index_or}
use Rattle.driver_hosts.specs.driver_model.Calls.{Kind}
use Rattle.run_end.specs.port_words.declared.busy.view.QueueLimits.{QueueLimits}
use Rattle.script_plan.specs.declared.decl.PortDecl.{PortDecl}
use Rattle.driver_hosts.specs.port_body.Body.{BodyName}
use Rattle.driver_hosts.specs.port_body.Openings.{IsNameOf}
use Rattle.driver_hosts.specs.Opening.{place_of}
use Rattle.run_end.specs.run_lanes.declared.size.LaneSize.{LaneSize}
use Rattle.run_end.specs.run_lanes.declared.parts.PortLanes.{PortLanes}
use Rattle.run_end.specs.run_lanes.declared.parts.RunLanes.{RunLanes}
use Rattle.run_opening.specs.Opened.{AreDeclared, AreRunLanes, limits_of, room_of}
use Rattle.run_seats.specs.declared.plans.ProcessSteps.{ProcessSteps}

-- how many processes and workers a run has, its ports as they are declared, the steps of each process, its lanes and words before anything was sent, and of each port whether its driver takes forced
-- commands while the port is busy
pub record Setting : Type 0 where
  pub size : LaneSize
  pub ports : List PortDecl
  pub process_steps : List ProcessSteps
  pub lanes : RunLanes
  pub soft : List Bool

-- the limits of each port's message queue
abbrev pub all_limits : List PortDecl → List QueueLimits
all_limits ports = map (λ (p : PortDecl). limits_of p.config) ports

-- the ports are declared within their limits, the lanes are those of a run of this size with these ports, and there are steps for each process
pub record IsSetting (s : Setting) : Type 0 where
  pub declared : AreDeclared s.size s.ports
  pub lanes_are : AreRunLanes s.size (all_limits s.ports) s.lanes
  pub process_steps_many : length s.process_steps ≡ s.size.processes
  pub soft_many : length s.soft ≡ length s.ports

-- the name of the body of the port of this number, which was opened with its options among these lanes and words
pub record IsNamedIn (s : Setting) (number : ℕ) (port : PortDecl) (lanes : PortLanes) (name : BodyName) : Type 0 where
  pub kind : Kind
  pub faults : ℕ
  pub opened : IsNameOf (place_of number port (room_of s.size lanes)) kind faults port.config s.size.workers (room_of s.size lanes).outlets lanes.lane name

-- so is that of each body, in the order of the ports
pub record AreNamedIn (s : Setting) (names : List BodyName) : Type 0 where
  pub many : length names ≡ length s.ports
  pub each : (port : ℕ) (p : PortDecl) (d : PortLanes) (n : BodyName) → port < length s.ports
      → IsNamedIn s port (slice_index_or s.ports port p) (slice_index_or s.lanes.ports.items port d) (slice_index_or names port n)
