use Rattle.std.proofs.Common.{[]}
use Rattle.script_input.specs.StepsDealt.{AreStepsOfAll}
use Rattle.script_input.proofs.dealing.empty_steps.Given as goal

-- so many processes without a step
abbrev pub invariant-loop-process : goal.invariant-loop-process
invariant-loop-process l = AreStepsOfAll l._process [] [] l.process_steps.items
