use Rattle.std.proofs.Common.{◌≡◌, ◌≤◌, take}
use Rattle.std.specs.Prelude.{count_by}
use Rattle.std.specs.Str.{bytes_eq}
use Rattle.driver_hosts.proofs.finding.wanting.Given as goal

-- how many so far want a driver of the name
abbrev pub invariant-loop-port : goal.invariant-loop-port
invariant-loop-port l = (l.count ≡ count_by (λ p. bytes_eq p.driver l.name) (take l.port-index l.ports)) × (l.count ≤ l.port-index)
