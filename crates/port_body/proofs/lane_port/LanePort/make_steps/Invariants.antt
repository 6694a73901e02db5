use Rattle.port_body.specs.LanePort.{IsBody, IsSameLanePort}
use Rattle.port_body.specs.Turns.{Steps}
use Rattle.port_body.proofs.lane_port.LanePort.make_steps.Given as goal

-- so many steps were made
abbrev pub invariant-loop : goal.invariant-loop
invariant-loop g l = IsBody l.self × IsSameLanePort l.fn.self l.self × Steps l.counter l.fn.self l.self
