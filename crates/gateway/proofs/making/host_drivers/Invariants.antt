use Rattle.std.specs.Prelude.{◌≡◌, All}
use Rattle.driver_hosts.specs.Hosts.{IsUnused}
use Rattle.gateway.specs.Fresh.{hosted}
use Rattle.gateway.proofs.making.host_drivers.Given as goal

-- the drivers so far that weren't started, none of which serves a port
abbrev pub invariant-loop-driver : goal.invariant-loop-driver
invariant-loop-driver g l = record {
  hosted : l.hosts.items ≡ hosted g.D.Driver.stage l.yielded;
  unused : All (IsUnused g.D.Driver.stage) l.hosts.items;
}
