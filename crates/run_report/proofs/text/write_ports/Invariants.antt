use Rattle.std.proofs.Common.{◌≡◌, ℕ, ◌++◌, map, take}
use Rattle.std.specs.List.{flat_map}
use Rattle.std.specs.String.{string_bytes}
use Rattle.run_report.specs.Ports.{counts_of}
use Rattle.run_report.specs.Report.{port_line}
use Rattle.run_report.proofs.text.write_ports.Given as goal

abbrev pub invariant-loop-place : goal.invariant-loop-place
invariant-loop-place l = (processes : ℕ) → l.counts ≡ map (counts_of processes) l.ports
    → string_bytes l.text ≡ string_bytes l.fn.text ++ flat_map (λ port. port_line port (counts_of processes port)) (take l.place l.ports)
