use Rattle.std.proofs.Common.{◌≡◌, map}
use Rattle.run_output.specs.Reported.{port_report}
use Rattle.run_output.proofs.reporting.report_ports.Given as goal

-- the ports so far are reported
abbrev pub invariant-loop-name : goal.invariant-loop-name
invariant-loop-name l = l.told.items ≡ map (λ p. port_report p.0 p.1) l.yielded
