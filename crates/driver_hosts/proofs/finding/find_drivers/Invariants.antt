use Rattle.std.proofs.Common.{◌≡◌, length}
use Rattle.driver_hosts.proofs.Ranks.{Ranked, Passed}
use Rattle.driver_hosts.proofs.finding.find_drivers.Given as goal

-- each port so far has its driver, and the drivers behind those of each name were not passed
abbrev pub invariant-loop-at : goal.invariant-loop-at
invariant-loop-at g l = record {
  ranked : Ranked g.D.Driver.kind l.hosts l.ports l.places.items;
  count : length l.places.items ≡ l.at;
  passed : Passed g.D.Driver.kind l.hosts l.ports l.at l.behind;
}
