use Rattle.std.proofs.Common.{◌≡◌, ◌++◌, take}
use Rattle.script_load.specs.Load.{commands}
use Rattle.script_load.proofs.steps.put_commands.Given as goal

abbrev pub invariant-loop-place : goal.invariant-loop-place
invariant-loop-place l = l.steps.items ≡ l.fn.steps.items ++ commands l.line l.process (take l.place l.xs)
