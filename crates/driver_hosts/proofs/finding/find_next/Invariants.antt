use Rattle.std.proofs.Common.{◌≡◌, take}
use Rattle.driver_hosts.specs.Hosts.{named_count}
use Rattle.driver_hosts.proofs.finding.find_next.Given as goal

-- no driver so far has the name
abbrev pub invariant-loop-at : goal.invariant-loop-at
invariant-loop-at g l = named_count g.D.Driver.kind l.name (take l.at l.hosts) ≡ named_count g.D.Driver.kind l.name (take l.from l.hosts)
