use Rattle.std.proofs.Common.{◌≡◌, map, take}
use Rattle.run_output.proofs.writing.process_names.Given as goal

-- the names so far
abbrev pub invariant-loop-process : goal.invariant-loop-process
invariant-loop-process l = l.names.items ≡ map (λ p. p.name) (take l.process-index l.processes)
