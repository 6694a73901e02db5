use Rattle.std.proofs.Common.{◌≡◌, map, take}
use Rattle.script_load.specs.Load.{port_with, ports}
use Rattle.script_load.proofs.names.ports.Given as goal

abbrev pub invariant-loop-number : goal.invariant-loop-number
invariant-loop-number l = l.all.items ≡ map port_with (take l.number ports)
