use Rattle.std.proofs.Common.{◌≡◌, take}
use Rattle.run_opening.specs.Opened.{soft_at}
use Rattle.run_opening.proofs.opening.soft_ports.Given as goal

-- so far
abbrev pub invariant-loop-place : goal.invariant-loop-place
invariant-loop-place g l = l.soft.items ≡ soft_at g.D.Driver.kind l.hosts (take l.place-index l.places)
