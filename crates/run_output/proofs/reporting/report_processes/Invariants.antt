use Rattle.std.proofs.Common.{◌≡◌, map}
use Rattle.run_output.specs.Reported.{process_report}
use Rattle.run_output.proofs.reporting.report_processes.Given as goal

-- the processes so far are reported
abbrev pub invariant-loop-name : goal.invariant-loop-name
invariant-loop-name l = l.told.items ≡ map (λ p. process_report p.0 p.1) l.yielded
