use Rattle.std.proofs.Common.{◌≡◌, map, take}
use Rattle.run_opening.specs.Opened.{limits_of}
use Rattle.run_opening.proofs.rooms.all_limits.Given as goal

-- the limits of the ports so far
abbrev pub invariant-loop-port : goal.invariant-loop-port
invariant-loop-port l = l.limits.items ≡ map (λ p. limits_of p.config) (take l.port-index l.ports)
