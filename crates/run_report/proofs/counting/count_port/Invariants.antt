use Rattle.std.proofs.Common.{◌≡◌, reverse, take}
use Rattle.std.specs.Prelude.{count_by}
use Rattle.port_history.specs.Opening.{Opening}
use Rattle.run_report.specs.Walks.{IsWalked}
use Rattle.run_report.specs.Processes.{HasMore, is_command_of}
use Rattle.run_report.proofs.counting.count_port.Given as goal

abbrev pub invariant-loop-row : goal.invariant-loop-row
invariant-loop-row l = record {
  walked : (opening : Opening) → opening.owner ≡ l.port.owner → opening.processes ≡ l.processes → IsWalked opening (reverse (take l.row-index l.row-items)) l.walk;
  processes : l.walk.links.processes ≡ l.processes;
  commands : HasMore (λ process. count_by (is_command_of process) (take l.row-index l.row-items)) l.fn.commands.items l.commands.items;
}
