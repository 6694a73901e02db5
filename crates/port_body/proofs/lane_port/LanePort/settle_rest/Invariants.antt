use Rattle.std.proofs.Common.{◌≡◌, ◌+◌, ◌++◌, List, length, false}
use Rattle.port_model.specs.declared.row.Row.{Row}
use Rattle.port_events.specs.port_history.State.{is_open}
use Rattle.recorded_port.specs.View.{state_of}
use Rattle.port_body.specs.LanePort.{HasRoom, Holds, IsSameLanePort, OwnItems}
use Rattle.port_body.specs.Steps.{HasLooked}
use Rattle.port_body.proofs.lane_port.LanePort.settle_rest.Given as goal

-- rows came behind those at the start
abbrev pub invariant-loop : goal.invariant-loop
invariant-loop g l =
    (goal.iterator-loop g).can_next l.iterator' × (goal.iterator-loop g).is_finite l.iterator'
    × Holds l.self l.self.waiting.items × (is_open (state_of l.self.port) ≡ false) × OwnItems l.self.processes l.self.waiting.items × HasLooked l.self.port
    × ((behind : List Row) × (l.self.port.rows ≡ l.fn.self.port.rows ++ behind)) × (l.self.lane ≡ l.fn.self.lane)
    × IsSameLanePort l.fn.self l.self × HasRoom (2 + length l.self.waiting.items) l.self
