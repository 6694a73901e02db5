-- The summary of a load, by what its run left.
use Rattle.std.proofs.Common.{◌≡◌, ℕ, ◌+◌, ◌<◌, List, [], ◌∷◌, ◌++◌, length, map, reverse, cond, get_or, min, Option, refl, sym, ap, ◌∙◌, arith}
use Rattle.std.specs.Prelude.{codes}
use Rattle.std.specs.Fmt.{decimal}
use Rattle.std.specs.List.{flat_map, zip}
use Rattle.std.proofs.lemmas.List.{length-map, reverse-append}
use Rattle.std.proofs.lemmas.List.Sums.{sum_by-append, sum_by-cons}
use Rattle.std.proofs.lemmas.Slice.Zip.{length-zip}
use Rattle.driver_model.specs.Calls.{Echo, Kind, Own}
use Rattle.driver_model.specs.Programs.{ToldProgram}
use Rattle.journal_text.specs.declared.book.PortReport.{PortReport}
use Rattle.port_driver.specs.declared.life.Life.{Life}
use Rattle.port_history.specs.Counts.{is_late_command, late_commands}
use Rattle.port_model.specs.declared.row.Row.{Row}
use Rattle.run_output.specs.Reported.{port_report, port_reports, process_report, report_of}
use Rattle.run_report.specs.declared.counts.PortCounts.{PortCounts}
use Rattle.run_report.specs.declared.report.Report.{Report}
use Rattle.run_report.specs.declared.summary.Totals.{Totals}
use Rattle.run_report.specs.Ports.{counts_of, opening_of as reported_opening}
use Rattle.run_report.specs.Report.{load_head, load_line, summary_of, totals_of}
use Rattle.run_report.proofs.Same.{same_counts}
use Rattle.run_output.specs.script_input.declared.input.PortName.{PortName}
use Rattle.run_output.specs.script_input.Names.{port_name}
use Rattle.script_plan.specs.declared.step.Step.{Step}
use Rattle.script_load.specs.Load.{commands_to, load_plan, port_with, ports, processes}
use Rattle.run_output.specs.script_run.declared.running.PortLeft.{PortLeft}
use Rattle.run_output.specs.script_run.Ran.{opening_of}
use Rattle.run_laws.specs.Law.{SummaryIsOfNumber}
use Rattle.run_laws.specs.Summary.{all_bytes, command_bytes, first_line, port_line}
use Rattle.run_laws.proofs.summary.Ports.{owner-is, port-whole, ports-many, process-steps-many}
use Rattle.run_laws.proofs.summary.Steps.{all-commands, plan-ports, plan-processes}

-- some element of a list that has one
some : {X : Type 0} (xs : List X) → 0 < length xs → X
some [] within = absurd (omega (arith, within))
some (x ∷ xs) within = x

late-reversed : (rows : List Row) → late_commands (reverse rows) ≡ late_commands rows
late-reversed [] = refl
late-reversed (row ∷ rows) =
    let f : Row → ℕ = λ x. cond (is_late_command x) 1 0 in
    let rest = late-reversed rows in
    let turned : late_commands (reverse (row ∷ rows)) ≡ late_commands (reverse rows ++ row ∷ []) = ap late_commands (reverse-append (row ∷ []) rows) in
    let parts = sum_by-append f (reverse rows) (row ∷ []) in
    let one = sum_by-cons f row [] in
    let all = sum_by-cons f row rows in
    omega (arith, rest, turned, parts, one, all)

-- a list of four
four : {X : Type 0} (xs : List X) (d : X) → length xs ≡ 4 → xs ≡ get_or xs 0 d ∷ get_or xs 1 d ∷ get_or xs 2 d ∷ get_or xs 3 d ∷ []
four [] d e = absurd (omega (arith, e))
four (a ∷ []) d e = absurd (omega (arith, e))
four (a ∷ b ∷ []) d e = absurd (omega (arith, e))
four (a ∷ b ∷ c ∷ []) d e = absurd (omega (arith, e))
four (a ∷ b ∷ c ∷ f ∷ []) d e = refl
four (a ∷ b ∷ c ∷ f ∷ g ∷ xs) d e = absurd (omega (arith, e))

-- what is counted of a reported port
record Counts (commands bytes : ℕ) (counts : PortCounts) : Type 0 where
  pub commands_are : counts.commands ≡ commands
  pub late_are : counts.late ≡ 0
  pub bytes_are : counts.bytes ≡ bytes

head-is : (number : ℕ) (steps : List Step) (t : Totals) → t.commands ≡ 16000 → t.late ≡ 0 → t.bytes ≡ all_bytes steps → load_head number t ≡ first_line number steps
unfolding load_head
head-is number steps t commands late bytes =
    λ i. codes "load number=" ++ decimal number ++ codes " commands=" ++ decimal (commands i) ++ codes " late=" ++ decimal (late i) ++ codes " bytes=" ++ decimal (bytes i) ++ 10 ∷ []

line-is : (steps : List Step) (k : ℕ) (left : PortLeft) (c : PortCounts) → Counts (commands_to k steps) (command_bytes k steps) c → load_line (port_report (port_name (port_with k)) left) c ≡ port_line steps k
unfolding load_line
line-is steps k left c is =
    λ i. codes "port " ++ (port_with k).name ++ codes " commands=" ++ decimal (is.commands_are i) ++ codes " bytes=" ++ decimal (is.bytes_are i) ++ 10 ∷ []

-- the summary of four ports
abbrev summary_from : ℕ → ℕ → List PortReport → List ℕ
summary_from number processes reports = load_head number (totals_of (map (counts_of processes) reports)) ++ flat_map (λ port. load_line port (counts_of processes port)) reports

summary-from : (number : ℕ) (report : Report) → summary_of number report ≡ summary_from number (length report.processes) report.ports
unfolding summary_of
summary-from number report = refl

pub summary-is : {D : Type 0} (kind : D → Kind) (stage : D → Life) (faults : D → ℕ) (own : D → Own) (program : D → Option ToldProgram) → SummaryIsOfNumber kind stage faults own program
summary-is kind stage faults own program number script names left r =
    let steps = (load_plan number).steps in
    let many : length left.ports.items ≡ 4 = r.has_run.ports_many ∙ ports-many kind stage faults own program number script names left r in
    let process-steps = process-steps-many kind stage faults own program number script names left r in
    let processes_many : length left.processes.items ≡ 8 = r.has_run.processes_many ∙ process-steps in
    let p = some left.ports.items (omega (arith, many)) in
    let q = some script.process_steps.items (omega (arith, process-steps)) in
    let l = some left.processes.items (omega (arith, processes_many)) in
    let at : ℕ → PortLeft = λ k. get_or left.ports.items k p in
    let reported : ℕ → PortReport = λ k. port_report (port_name (port_with k)) (at k) in
    let report = report_of names left in
    let listed : report.ports ≡ reported 0 ∷ reported 1 ∷ reported 2 ∷ reported 3 ∷ [] =
    ap (λ (ns : List PortName). port_reports ns left.ports.items) (r.names_of.ports ∙ ap (map port_name) (plan-ports number)) ∙ ap (port_reports (map port_name (map port_with ports))) (four left.ports.items p many) in
    let named : length names.processes.items ≡ 8 = ap length (r.names_of.processes ∙ ap (map (λ x. x.name)) (plan-processes number)) in
    let eight : length report.processes ≡ 8 =
    length-map (zip names.processes.items left.processes.items) (λ x. process_report x.0 x.1) ∙ length-zip names.processes.items left.processes.items ∙ (λ i. min (named i) (processes_many i)) in
    let count : (k : ℕ) → k < 4 → Counts (commands_to k steps) (command_bytes k steps) (counts_of 8 (reported k)) = λ k below.
    let whole = port-whole kind stage faults own program number script names left r p q l k below in
    let same = same_counts (reported_opening 8 (reported k)) (opening_of k (length script.process_steps.items) Echo (get_or script.ports.items k (port_with 0)) (at k)) (reverse (at k).journal.rows) (sym (owner-is kind stage faults own program number script names left r p q l k below)) (sym process-steps) in
    record {
      commands_are = same.commands ∙ whole.handled;
      late_are = sym (late-reversed (at k).journal.rows) ∙ whole.late;
      bytes_are = same.bytes ∙ whole.bytes_are;
    } in
    let zero' = count 0 (omega arith) in
    let one = count 1 (omega arith) in
    let two = count 2 (omega arith) in
    let three = count 3 (omega arith) in
    summary-from number report
    ∙ (λ i. summary_from number (eight i) (listed i))
    ∙ (λ i. head-is number steps (totals_of (map (counts_of 8) (reported 0 ∷ reported 1 ∷ reported 2 ∷ reported 3 ∷ [])))
    (let a = zero'.commands_are in let b = one.commands_are in let c = two.commands_are in let d = three.commands_are in let all = all-commands number in omega (arith, a, b, c, d, all))
    (let a = zero'.late_are in let b = one.late_are in let c = two.late_are in let d = three.late_are in omega (arith, a, b, c, d))
    (λ j. 0 + zero'.bytes_are j + one.bytes_are j + two.bytes_are j + three.bytes_are j) i
    ++ (line-is steps 0 (at 0) (counts_of 8 (reported 0)) zero' i
    ++ (line-is steps 1 (at 1) (counts_of 8 (reported 1)) one i
    ++ (line-is steps 2 (at 2) (counts_of 8 (reported 2)) two i
    ++ (line-is steps 3 (at 3) (counts_of 8 (reported 3)) three i ++ [])))))
