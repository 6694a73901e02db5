use Rattle.std.proofs.Common.{◌≡◌, take, map}
use Rattle.script_plan.specs.declared.decl.ProcessDecl.{ProcessDecl}
use Rattle.script_input.proofs.naming.process_names.Given as goal

-- the names of the processes so far
abbrev pub invariant-loop-process : goal.invariant-loop-process
invariant-loop-process l = l.names.items ≡ map (λ (p : ProcessDecl). p.name) (take l.process-index l.processes)
