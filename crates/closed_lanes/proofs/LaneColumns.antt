-- Ends of the ports' lanes, one of each lane, with one number.
use Rattle.std.proofs.Common.{◌≡◌, ◌<◌, ℕ, List, length, get_or, ap, ◌∙◌, arith}
use Rattle.port_words.specs.busy.Known.{SendKnown}
use Rattle.run_end.specs.process_job.Going.{AreSamePorts}
use Rattle.run_opening.specs.run_seats.threaded_jobs.run_jobs.Telling.{PortTask, Sends}
use Rattle.run_lanes.specs.declared.parts.PortLanes.{PortLanes}
use Rattle.run_lanes.specs.declared.parts.RunLanes.{RunLanes}
use Rattle.run_lanes.specs.declared.size.LaneSize.{LaneSize}
use Rattle.run_lanes.specs.Opened.{HasLaneEnds}
use Rattle.run_end.specs.process_end.Views.{LaneEnd}

-- an end of this port's lane, with this number
pub record IsLaneEnd (number : ℕ) (port : PortLanes) (end : LaneEnd) : Type 0 where
  pub lane : end.lane ≡ port.lane.lane
  pub number_is : end.number ≡ number

-- one of each port, in the order of ports
pub record IsColumnOf (ports : List PortLanes) (number : ℕ) (ends : List LaneEnd) : Type 0 where
  pub many : length ends ≡ length ports
  pub each : (port : ℕ) (p : PortLanes) (d : LaneEnd) → port < length ports → IsLaneEnd number (get_or ports port p) (get_or ends port d)

pub dealt-column : (size : LaneSize) (run : RunLanes) (number : ℕ) (ends : List LaneEnd) → HasLaneEnds size run number ends → IsColumnOf run.ports.items number ends
dealt-column size run number ends has = record {
  many = has.many;
  each = λ port p d below.
      let is = (has.each p).each port d below in
      record { lane = ap (λ (e : LaneEnd). e.lane) is; number_is = ap (λ (e : LaneEnd). e.number) is };
}

-- they stay so, whatever they send
pub sent-column : (ports : List PortLanes) (number : ℕ) (told : List PortTask) (old new : List LaneEnd) → IsColumnOf ports number old → Sends told old new → IsColumnOf ports number new
sent-column ports number told old new is sends = record {
  many = sends.many ∙ is.many;
  each = λ port p d below.
      let many = is.many in
      let same = sends.each port d (omega (arith, many, below)) in
      let before = is.each port p d below in
      record { lane = ap (λ (e : LaneEnd). e.lane) same ∙ before.lane; number_is = ap (λ (e : LaneEnd). e.number) same ∙ before.number_is };
}

pub called-column : (ports : List PortLanes) (number : ℕ) (old new : List LaneEnd) (seats seats' : List SendKnown) → IsColumnOf ports number old → AreSamePorts old new seats seats' → IsColumnOf ports number new
called-column ports number old new seats seats' is same = record {
  many = same.lanes_many ∙ is.many;
  each = λ port p d below.
      let end = same.ends port d in
      let before = is.each port p d below in
      record { lane = ap (λ (e : LaneEnd). e.lane) end ∙ before.lane; number_is = ap (λ (e : LaneEnd). e.number) end ∙ before.number_is };
}
