use Rattle.std.proofs.Common.{◌≡◌, map, take, replicate}
use Rattle.run_report.specs.Ports.{counts_of}
use Rattle.run_report.specs.Processes.{HasMore, commands_of}
use Rattle.run_report.proofs.counting.count_ports.Given as goal

abbrev pub invariant-loop-port : goal.invariant-loop-port
invariant-loop-port l = record {
  ports : l.counts.items ≡ map (counts_of l.processes) (take l.port-index l.ports);
  commands : HasMore (λ process. commands_of process (take l.port-index l.ports)) (replicate l.processes 0) l.commands.items;
}
