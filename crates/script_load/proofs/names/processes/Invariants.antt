use Rattle.std.proofs.Common.{◌≡◌, map, take}
use Rattle.script_load.specs.Load.{process_of, processes}
use Rattle.script_load.proofs.names.processes.Given as goal

abbrev pub invariant-loop-number : goal.invariant-loop-number
invariant-loop-number l = l.all.items ≡ map process_of (take l.number processes)
