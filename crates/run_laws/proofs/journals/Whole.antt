-- The journal of a run of a script.
use Rattle.std.proofs.Common.{arith, ◌≡◌, ℕ, ◌+◌, ◌<◌, List, [], ◌∷◌, suc, length, map, reverse, get_or, Bool, true, false, ◌||◌, Option, None, refl, sym, ap, subst, ◌∙◌}
use Rattle.std.specs.Prelude.{All, slice_index_or}
use Rattle.std.specs.List.{AllByRecursion}
use Rattle.std.proofs.lemmas.Bool.{and_parts}
use Rattle.std.proofs.lemmas.List.{get_or-map, length-map, reverse-reverse}
use Rattle.std.proofs.lemmas.List.Elements.{All-from_recursion}
use Rattle.driver_model.specs.Calls.{DriverCall, Kind, Own, Echo, Tally, Valve, Store, Digest, Spawn, Refuse1, Refuse2, Refuse3}
use Rattle.driver_model.specs.Drivers.{holds, kind_name, own_of, read_event_of, refusal_of, write_event_of}
use Rattle.driver_model.specs.Programs.{ToldProgram}
use Rattle.history_replay.specs.Laws.{AreLegal, IsLegal}
use Rattle.history_replay.specs.Verdicts.{opening_of as replayed_opening}
use Rattle.journal_text.specs.Ports.{are_limits, is_driver, is_spawn, without_program}
use Rattle.journal_text.specs.declared.book.PortReport.{PortReport}
use Rattle.port_config.specs.Config.{is_config, plain}
use Rattle.port_config.specs.declared.config.Config.{Config}
use Rattle.port_driver.specs.declared.life.Life.{Life}
use Rattle.port_history.specs.Lawful.{IsFinished, Lawful}
use Rattle.port_history.specs.Opening.{Opening}
use Rattle.port_history.specs.State.{state}
use Rattle.port_model.specs.declared.row.Row.{Row}
use Rattle.port_model.specs.declared.row.Row.TheVariants.{Handled, Late, Listed, Resumed, Mark}
use Rattle.port_model.specs.declared.signal.Sender.TheVariants.{Process, Poller, Worker, Timer}
use Rattle.run_output.proofs.Paired.{paired-at, paired-many}
use Rattle.run_output.specs.Reported.{port_report, process_report, report_of}
use Rattle.run_output.specs.Writes.{book_of}
use Rattle.run_output.specs.run_opening.declared.run_script.RunScript.{RunScript}
use Rattle.run_output.specs.run_opening.run_seats.declared.plans.ProcessSteps.{ProcessSteps}
use Rattle.run_output.specs.script_input.Names.{port_name}
use Rattle.run_output.specs.script_input.declared.input.PortName.{PortName}
use Rattle.run_output.specs.script_input.declared.input.RunNames.{RunNames}
use Rattle.run_output.specs.script_run.Ran.{HasRun, IsFrom, PortHolds, history_of, opening_of}
use Rattle.run_output.specs.script_run.declared.running.PortLeft.{PortLeft}
use Rattle.run_output.specs.script_run.declared.running.ProcessLeft.{ProcessLeft}
use Rattle.run_output.specs.script_run.declared.running.ScriptRan.{ScriptRan}
use Rattle.run_output.specs.script_run.run_opening.driver_hosts.declared.hosted.Hosted.{Hosted}
use Rattle.run_output.specs.script_run.run_opening.port_body.Ends.{IsLeftByCalls}
use Rattle.run_output.specs.script_run.run_opening.port_body.LanePort.{rows_from}
use Rattle.run_report.specs.declared.report.ProcessRecord.{ProcessRecord}
use Rattle.script_plan.specs.declared.decl.PortDecl.{PortDecl}
use Rattle.script_plan.specs.declared.decl.ProcessDecl.{ProcessDecl}
use Rattle.script_plan.specs.Plan.{Plan}
use Rattle.run_laws.specs.Journals.{IsNamedScript, JournalsAreReplayedIn}
use Rattle.run_laws.specs.Ranges.{has_own_options}
use Rattle.run_laws.proofs.journals.Named.{PortNames, RowNames}
use Rattle.run_laws.proofs.journals.Calls.{TaskNames, accepted-named}
use Rattle.run_laws.proofs.journals.Histories.{HasSender, history-named}
use Rattle.run_laws.proofs.Lists.{all-imply, all-reverse}
use Rattle.run_laws.proofs.journals.Ranged.{within-is-book}
use Rattle.run_laws.proofs.saved.Runs.{senders-are}

-- an element of a list that has one
pub element : {X : Type 0} (xs : List X) → 0 < length xs → X
element [] some = absurd (omega (arith, some))
element (x ∷ xs) some = x

-- ---- one port

-- a kind that doesn't refuse its start is one of those that a journal names
starts-driver : (kind : Kind) (config : Config) → refusal_of kind config ≡ None → is_driver (kind_name kind) ≡ true
starts-driver Echo config starts = refl
starts-driver Tally config starts = refl
starts-driver (Valve false) config starts = refl
starts-driver (Valve true) config starts = refl
starts-driver Store config starts = refl
starts-driver Digest config starts = refl
starts-driver Spawn config starts = refl
starts-driver Refuse1 config starts = absurd cc
starts-driver Refuse2 config starts = absurd cc
starts-driver Refuse3 config starts = absurd cc

-- a driver of another kind than `spawn` keeps no events
no-events : (kind : Kind) (config : Config) (calls : List DriverCall) → is_spawn (kind_name kind) ≡ false → (read_event_of (own_of kind config calls) ≡ 0) × (write_event_of (own_of kind config calls) ≡ 0)
no-events Echo config calls other = (refl, refl)
no-events Tally config calls other = (refl, refl)
no-events (Valve soft) config calls other = (refl, refl)
no-events Store config calls other = (refl, refl)
no-events Digest config calls other = (refl, refl)
no-events Spawn config calls other = absurd cc
no-events Refuse1 config calls other = (refl, refl)
no-events Refuse2 config calls other = (refl, refl)
no-events Refuse3 config calls other = (refl, refl)

the-other : (a b : Bool) → (a || b) ≡ true → a ≡ false → b ≡ true
the-other true b e none = absurd cc
the-other false b e none = e

-- the port was opened as its report tells
same-opening : (number processes workers : ℕ) (kind : Kind) (decl : PortDecl) (left : PortLeft) → PortHolds number processes workers kind decl left
    → opening_of number processes kind decl left ≡ replayed_opening number processes kind (port_report (port_name decl) left)
same-opening number processes workers kind decl left holds =
    ap (λ (config : Config). record { number = number; processes = processes; kind = kind; config = config; owner = decl.owner; read = left.events.0; write = left.events.1 }) (sym holds.config_is)

legal-at : (number processes workers : ℕ) (kind : Kind) (decl : PortDecl) (left : PortLeft) → PortHolds number processes workers kind decl left
    → IsLegal number processes (port_report (port_name decl) left)
legal-at number processes workers kind decl left holds =
    let same = same-opening number processes workers kind decl left holds in
    record {
      kind = kind;
      is_named = holds.named;
      keeps = subst (λ (port : Opening). Lawful port (history_of left)) same holds.lawful;
      ends = subst (λ (port : Opening). IsFinished port (history_of left)) same holds.finished;
    }

-- a sender of a run is one of those that may be named
from-sender : (processes workers : ℕ) (row : Row) → IsFrom processes workers row → HasSender processes row
from-sender processes workers (Handled (Process p) seq task outside effects) from = from
from-sender processes workers (Handled Poller seq task outside effects) from = tt
from-sender processes workers (Handled (Worker w) seq task outside effects) from = tt
from-sender processes workers (Handled Timer seq task outside effects) from = from
from-sender processes workers (Late (Process p) seq task) from = from
from-sender processes workers (Late Poller seq task) from = tt
from-sender processes workers (Late (Worker w) seq task) from = tt
from-sender processes workers (Late Timer seq task) from = from
from-sender processes workers (Listed sender seq) from = tt
from-sender processes workers (Resumed sender seq word) from = tt
from-sender processes workers (Mark kind) from = tt

rows-at : (number processes workers : ℕ) (kind : Kind) (decl : PortDecl) (left : PortLeft) → PortHolds number processes workers kind decl left
    → ((s : ℕ) → s < processes → All (TaskNames processes) (rows_from (Process s) (history_of left))) → All (RowNames processes) left.journal.rows
rows-at number processes workers kind decl left holds tasks =
    let history = history_of left in
    let named = history-named processes (opening_of number processes kind decl left) history holds.lawful holds.listed
    (all-imply (IsFrom processes workers) (HasSender processes) history (from-sender processes workers) (senders-are number processes workers kind decl left holds)) tasks in
    All-from_recursion (RowNames processes) left.journal.rows (subst (AllByRecursion (RowNames processes)) (reverse-reverse left.journal.rows) (all-reverse (RowNames processes) history named))

program-at : (number processes workers : ℕ) (kind : Kind) (decl : PortDecl) (left : PortLeft) (own : Own) (program : Option ToldProgram) → PortHolds number processes workers kind decl left
    → IsLeftByCalls (opening_of number processes kind decl left) (history_of left) own program → has_own_options decl ≡ true → is_spawn decl.driver ≡ false → without_program left.config left.events ≡ true
program-at number processes workers kind decl left own program holds stands options other =
    let opening = opening_of number processes kind decl left in
    let calls = (state opening (history_of left)).calls in
    let kept : own ≡ own_of kind decl.config calls = stands.keeps in
    let none = no-events kind decl.config calls (subst (λ (name : List ℕ). is_spawn name ≡ false) (sym holds.named) other) in
    let read : left.events.0 ≡ 0 = sym stands.read ∙ ap read_event_of kept ∙ none.0 in
    let write : left.events.1 ≡ 0 = sym stands.write ∙ ap write_event_of kept ∙ none.1 in
    let same : without_program left.config left.events ≡ without_program decl.config (0, 0) = λ i. without_program (holds.config_is i) (read i, write i) in
    same ∙ the-other (is_spawn decl.driver) (without_program decl.config (0, 0))
    (and_parts (are_limits decl.config.msgq_on decl.config.msgq_low decl.config.msgq_high) (is_spawn decl.driver || without_program decl.config (0, 0)) options).1 other

names-at : (number processes workers : ℕ) (kind : Kind) (decl : PortDecl) (left : PortLeft) (own : Own) (program : Option ToldProgram) → PortHolds number processes workers kind decl left
    → IsLeftByCalls (opening_of number processes kind decl left) (history_of left) own program → decl.owner < processes → is_config decl.config ≡ true → has_own_options decl ≡ true
    → ((s : ℕ) → s < processes → All (TaskNames processes) (rows_from (Process s) (history_of left))) → PortNames processes (port_report (port_name decl) left)
names-at number processes workers kind decl left own program holds stands owner config options tasks = record {
  owner = owner;
  driver = subst (λ (name : List ℕ). is_driver name ≡ true) holds.named (starts-driver kind decl.config holds.starts);
  config = subst (λ (c : Config). is_config c ≡ true) (sym holds.config_is) config;
  limits = subst (λ (c : Config). are_limits c.msgq_on c.msgq_low c.msgq_high ≡ true) (sym holds.config_is)
      (and_parts (are_limits decl.config.msgq_on decl.config.msgq_low decl.config.msgq_high) (is_spawn decl.driver || without_program decl.config (0, 0)) options).0;
  program = λ other. program-at number processes workers kind decl left own program holds stands options other;
  rows = rows-at number processes workers kind decl left holds tasks;
}

-- ---- all ports

are-legal : (number processes : ℕ) (reports : List PortReport) → ((k : ℕ) (d : PortReport) → k < length reports → IsLegal (number + k) processes (get_or reports k d)) → AreLegal number processes reports
are-legal number processes [] each = tt
are-legal number processes (report ∷ reports) each =
    let first : number + 0 ≡ number = omega arith in (
      subst (λ n. IsLegal n processes report) first (each 0 report (omega arith)),
      are-legal (number + 1) processes reports
          (λ k d within.
          let next : number + suc k ≡ number + 1 + k = omega arith in
          subst (λ n. IsLegal n processes (get_or reports k d)) next (each (suc k) d (omega (arith, within)))),
    )

-- counted from 0
pub counted : (k : ℕ) → k ≡ 0 + k
counted k = omega arith

pub no-decl : PortDecl
no-decl = record { line = 0; name = []; owner = 0; driver = []; config = plain }

pub no-host : {D : Type 0} → Hosted D
no-host = record { port = None; driver = None }

-- the names of the ports are those of the script
same-names : (plan : Plan) (script : RunScript) (names : RunNames) → IsNamedScript plan script names → names.ports.items ≡ map port_name script.ports.items
same-names plan script names is = is.names_of.ports ∙ ap (map port_name) (sym is.run_of.ports)

names-many : (plan : Plan) (script : RunScript) (names : RunNames) → IsNamedScript plan script names → length names.ports.items ≡ length script.ports.items
names-many plan script names is = ap (λ (l : List PortName). length l) (same-names plan script names is) ∙ length-map script.ports.items port_name

-- each port is reported
pub ports-many : (plan : Plan) (script : RunScript) (names : RunNames) (ran : ScriptRan) → IsNamedScript plan script names → length ran.ports.items ≡ length script.ports.items
    → length (report_of names ran).ports ≡ length script.ports.items
ports-many plan script names ran is many =
    let named = names-many plan script names is in
    paired-many (λ p. port_report p.0 p.1) names.ports.items ran.ports.items (many ∙ sym named) ∙ named

pub report-at : (plan : Plan) (script : RunScript) (names : RunNames) (ran : ScriptRan) → IsNamedScript plan script names → length ran.ports.items ≡ length script.ports.items
    → (k : ℕ) (d : PortReport) (p : PortLeft) → k < length script.ports.items
    → get_or (report_of names ran).ports k d ≡ port_report (port_name (slice_index_or script.ports.items k no-decl)) (slice_index_or ran.ports.items k p)
report-at plan script names ran is many k d p within =
    let many_names = names-many plan script names is in
    let here : k < length names.ports.items = omega (arith, within, many_names) in
    let named : get_or names.ports.items k (port_name no-decl) ≡ port_name (slice_index_or script.ports.items k no-decl) =
    ap (λ (l : List PortName). get_or l k (port_name no-decl)) (same-names plan script names is) ∙ get_or-map port_name script.ports.items k no-decl (port_name no-decl) within in
    paired-at (λ p. port_report p.0 p.1) names.ports.items ran.ports.items k (port_name no-decl) p d here (many ∙ sym many_names) ∙ ap (λ (n : PortName). port_report n (slice_index_or ran.ports.items k p)) named

module _ {D : Type 0} (kind : D → Kind) (stage : D → Life) (faults : D → ℕ) (own : D → Own) (program : D → Option ToldProgram) where
  -- what holds of the reported port of this number
  pub record Reported (processes number : ℕ) (port : PortReport) : Type 0 where
    pub legal : IsLegal number processes port
    pub names : PortNames processes port

  reported-at : (plan : Plan) (script : RunScript) (names : RunNames) (old new : List (Hosted D)) (before : List ℕ) (after : Option (List ℕ)) (ran : ScriptRan) → IsNamedScript plan script names
      → HasRun kind stage faults own program script old new before after ran → (k : ℕ) (p : PortLeft) → k < length script.ports.items
      → Reported (length script.process_steps.items) k (port_report (port_name (slice_index_or script.ports.items k no-decl)) (slice_index_or ran.ports.items k p))
  reported-at plan script names old new before after ran is run k p within =
      let processes = length script.process_steps.items in
      let ports = length script.ports.items in
      let decl = slice_index_or script.ports.items k no-decl in
      let left = slice_index_or ran.ports.items k p in
      let served = run.ports k no-decl p no-host within in
      let owns : All (λ (d : PortDecl). has_own_options d ≡ true) script.ports.items = subst (All (λ (d : PortDecl). has_own_options d ≡ true)) (sym is.run_of.ports) is.options in
      record {
        legal = legal-at k processes script.workers (kind served.driver) decl left served.holds;
        names = names-at k processes script.workers (kind served.driver) decl left (own served.driver) (program served.driver) served.holds served.stands (is.runnable.declared.owners k no-decl within)
            (is.runnable.declared.configs k no-decl within) (owns k no-decl within)
            (λ s below.
            let steps : ProcessSteps = element script.process_steps.items (omega (arith, below)) in
            let many = run.processes_many in
            let l : ProcessLeft = element ran.processes.items (omega (arith, below, many)) in
            let pair = served.pairs s steps l below in
            let mine = slice_index_or script.process_steps.items s steps in
            let receipts = (slice_index_or ran.processes.items s l).receipts in
            subst (All (TaskNames processes)) (sym pair.tasks)
            (accepted-named processes ports k mine.steps.items mine.files.items receipts (reverse receipts) (is.runnable.within s steps below)));
      }

  pub journals-are-replayed-in : JournalsAreReplayedIn kind stage faults own program
  journals-are-replayed-in plan script names old new before after ran is run =
      let processes = length script.process_steps.items in
      let report = report_of names ran in
      let process_names : length names.processes.items ≡ length plan.processes = ap (λ (l : List (List ℕ)). length l) is.names_of.processes ∙ length-map plan.processes (λ (p : ProcessDecl). p.name) in
      let steps_many : processes ≡ length plan.processes = is.run_of.process_steps.many in
      let processes_many : length report.processes ≡ processes =
      paired-many (λ p. process_report p.0 p.1) names.processes.items ran.processes.items (run.processes_many ∙ steps_many ∙ sym process_names) ∙ process_names ∙ sym steps_many in
      let ports_many = ports-many plan script names ran is run.ports_many in
      let each : (k : ℕ) (d : PortReport) → k < length report.ports → Reported processes k (get_or report.ports k d) = λ k d below.
      let within : k < length script.ports.items = omega (arith, below, ports_many) in
      let lefts = run.ports_many in
      let p = element ran.ports.items (omega (arith, within, lefts)) in
      subst (Reported processes k) (sym (report-at plan script names ran is run.ports_many k d p within)) (reported-at plan script names old new before after ran is run k p within) in
      let few_names = is.runnable.declared.few_processes in
      let few_ports = is.runnable.declared.few_ports in
      let listed : length (book_of report).names ≡ length report.processes = length-map report.processes (λ (p : ProcessRecord). p.name) in
      record {
        legal = subst (λ n. AreLegal 0 n report.ports) (sym processes_many) (are-legal 0 processes report.ports
            (λ k d below. subst (λ n. IsLegal n processes (get_or report.ports k d)) (counted k) (each k d below).legal));
        book = λ fit. within-is-book (book_of report) (record {
          few_names = omega (arith, few_names, listed, processes_many);
          few_ports = omega (arith, few_ports, ports_many);
          fit = fit;
          ports = subst (λ n. All (PortNames n) report.ports) (sym (listed ∙ processes_many)) (λ k d below. (each k d below).names);
        });
      }
