-- The commands that a report counts for a process.
use Rattle.std.proofs.Common.{arith, ◌≡◌, ℕ, ◌+◌, ◌<◌, List, length, reverse, get_or, Option, sym, ap, ◌∙◌}
use Rattle.std.specs.Prelude.{count_by, slice_index_or}
use Rattle.std.specs.List.{AllByRecursion}
use Rattle.std.proofs.lemmas.List.Elements.{recursion_from_All}
use Rattle.driver_model.specs.Calls.{Kind, Own}
use Rattle.driver_model.specs.Programs.{ToldProgram}
use Rattle.journal_text.specs.declared.book.PortReport.{PortReport}
use Rattle.port_driver.specs.declared.life.Life.{Life}
use Rattle.process_receipts.specs.Receipts.{accepted}
use Rattle.run_output.specs.Reported.{report_of}
use Rattle.run_output.specs.run_opening.run_end.process_job.Asks.{asks_of, command_ask, how_of, pieces}
use Rattle.run_output.specs.script_run.Ran.{calls_of}
use Rattle.run_output.specs.script_run.declared.running.PortLeft.{PortLeft}
use Rattle.run_report.specs.Processes.{is_command_of}
use Rattle.script_plan.specs.Plan.{IsWithin}
use Rattle.script_plan.specs.declared.step.Step.{Step}
use Rattle.script_plan.specs.declared.step.Act.{Act}
use Rattle.script_plan.specs.declared.step.Act.TheVariants.{Command, File, Send, Control, Call, Close, Connect, SendClose, SendConnect, Link, Unlink, Monitor, Demonitor, Exit}
use Rattle.run_laws.specs.Counted.{CommandsAreCountedIn}
use Rattle.run_laws.proofs.Lists.{all-map}
use Rattle.run_laws.proofs.Made.{all-made}
use Rattle.run_laws.proofs.counted.Tasks.{IsToPort, accepted-total, count-reversed, is_command_task, rows-count}
use Rattle.run_laws.proofs.counted.Totals.{total, total-list}
use Rattle.run_laws.proofs.journals.Whole.{counted, element, no-decl, no-host, ports-many, report-at}

act-to : (processes ports line : ℕ) (act : Act) (content : List ℕ) → IsWithin processes ports act → AllByRecursion (IsToPort ports) (asks_of line act content)
act-to processes ports line (Command port bytes force nosuspend) content within = (λ is. within, tt)
act-to processes ports line (File port size file force nosuspend) content within =
    all-map (IsToPort ports) (command_ask line port (how_of force nosuspend)) (pieces size content) (λ bytes is. within.0)
act-to processes ports line (Send port bytes) content within = (λ is. within, tt)
act-to processes ports line (Control port op bytes) content within = (λ is. within, tt)
act-to processes ports line (Call port op bytes) content within = (λ is. within, tt)
act-to processes ports line (Close port) content within = (λ is. within, tt)
act-to processes ports line (Connect port to) content within = (λ is. within.0, tt)
act-to processes ports line (SendClose port) content within = (λ is. within, tt)
act-to processes ports line (SendConnect port to) content within = (λ is. within.0, tt)
act-to processes ports line (Link port) content within = (λ is. within, tt)
act-to processes ports line (Unlink port) content within = (λ is. within, tt)
act-to processes ports line (Monitor port number) content within = (λ is. within, tt)
act-to processes ports line (Demonitor port number) content within = (λ is. within, tt)
act-to processes ports line (Exit port reason) content within = (λ is. within, tt)
act-to processes ports line act content within = tt

module _ {D : Type 0} (kind : D → Kind) (stage : D → Life) (faults : D → ℕ) (own : D → Own) (program : D → Option ToldProgram) where
  pub commands-are-counted-in : CommandsAreCountedIn kind stage faults own program
  commands-are-counted-in plan script names old new before after ran is run s p l below =
      let processes = length script.process_steps.items in
      let ports = length script.ports.items in
      let mine = slice_index_or script.process_steps.items s p in
      let calls = calls_of ports mine (slice_index_or ran.processes.items s l) in
      let report = report_of names ran in
      let IsHere : Step → Type 0 = λ step. IsWithin processes ports step.act in
      let to : AllByRecursion (IsToPort ports) calls.asks =
      all-made (IsToPort ports) IsHere (λ step content here. act-to processes ports step.line step.act content here) (λ reason port never. absurd cc) ports mine.steps.items mine.files.items
      (slice_index_or ran.processes.items s l).receipts (recursion_from_All IsHere mine.steps.items (is.runnable.within s p below)) in
      let put : ℕ → ℕ = λ k. count_by is_command_task (accepted k calls.asks calls.receipts) in
      let many = ports-many plan script names ran is run.ports_many in
      let each : (k : ℕ) (d : PortReport) → k < length report.ports → count_by (is_command_of s) (get_or report.ports k d).journal.rows ≡ put (0 + k) = λ k d within.
      let here : k < ports = omega (arith, within, many) in
      let left : PortLeft = element ran.ports.items (let lefts = run.ports_many in omega (arith, here, lefts)) in
      let shown = report-at plan script names ran is run.ports_many k d left here in
      let served = run.ports k no-decl left no-host here in
      let rows = (slice_index_or ran.ports.items k left).journal.rows in
      ap (λ (port : PortReport). count_by (is_command_of s) port.journal.rows) shown ∙ sym (count-reversed (is_command_of s) rows) ∙ rows-count s (reverse rows)
      ∙ ap (count_by is_command_task) (served.pairs s p l below).tasks ∙ ap put (counted k) in
      total-list (λ (port : PortReport). count_by (is_command_of s) port.journal.rows) put 0 report.ports each ∙ ap (total put 0) many ∙ accepted-total ports calls.asks calls.receipts to
