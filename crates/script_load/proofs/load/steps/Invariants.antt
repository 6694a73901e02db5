use Rattle.std.proofs.Common.{◌≡◌, take}
use Rattle.std.specs.List.{flat_map}
use Rattle.script_load.specs.Load.{steps_of, processes}
use Rattle.script_load.proofs.load.steps.Given as goal

abbrev pub invariant-loop-process : goal.invariant-loop-process
invariant-loop-process l = l.steps.items ≡ flat_map (steps_of l.xs.items) (take l.process processes)
