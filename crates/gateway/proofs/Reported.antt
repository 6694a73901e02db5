-- What a run left can be reported and written.
use Rattle.std.proofs.Common.{◌≡◌, ℕ, ◌<◌, List, [], ◌∷◌, Option, None, Result, length, refl, sym, ap, subst, ◌∙◌, arith}
use Rattle.std.specs.Prelude.{All, slice_index_or}
use Rattle.std.proofs.lemmas.List.{length-map, get_or-map}
use Rattle.driver_model.specs.Calls.{Kind, Own}
use Rattle.driver_model.specs.Programs.{ToldProgram}
use Rattle.port_config.specs.Config.{plain}
use Rattle.port_driver.specs.declared.life.Life.{Life}
use Rattle.driver_hosts.specs.declared.hosted.Hosted.{Hosted}
use Rattle.port_model.specs.declared.row.Row.{Row}
use Rattle.port_model.specs.declared.row.Row.TheVariants.{Handled, Late, Listed, Resumed, Mark}
use Rattle.port_model.specs.declared.signal.Sender.TheVariants as sender
use Rattle.gateway.proofs.Paired.{paired-many, paired-at}
use Rattle.run_laws.specs.run_output.Reported.{port_report, process_report, report_of}
use Rattle.run_report.specs.Ports.{IsFrom as IsFromProcess, HasEnded, opening_of as plain_opening}
use Rattle.run_report.proofs.Same.{same_counts}
use Rattle.script_input.specs.declared.input.PortName.{PortName}
use Rattle.script_input.specs.declared.input.RunInput.{RunInput}
use Rattle.script_input.specs.Files.{FilesView}
use Rattle.script_input.specs.Names.{port_name}
use Rattle.script_input.specs.Words.{AskedRun}
use Rattle.script_plan.specs.declared.decl.PortDecl.{PortDecl}
use Rattle.script_plan.specs.declared.decl.ProcessDecl.{ProcessDecl}
use Rattle.script_plan.specs.declared.decl.SaveDecl.{SaveDecl}
use Rattle.script_plan.specs.Plan.{Plan}
use Rattle.run_laws.specs.run_output.script_run.declared.running.PortLeft.{PortLeft}
use Rattle.run_laws.specs.run_output.script_run.declared.running.ScriptRan.{ScriptRan}
use Rattle.run_laws.specs.run_output.script_run.Ran.{HasRun, PortHolds, IsFrom, history_of, opening_of}
use Rattle.gateway.specs.Run.{HasInput}
use Rattle.gateway.proofs.Closing.{finished-has-end}

-- the names of a plan are as many as its processes and its ports
process-names-many : (words : Result AskedRun ℕ) (before after : FilesView) (plan : Plan) (i : RunInput) → HasInput words before after plan i → length i.names.processes.items ≡ length plan.processes
process-names-many words before after plan i h = rw h.names.processes (length-map plan.processes (λ (p : ProcessDecl). p.name))

port-names-many : (words : Result AskedRun ℕ) (before after : FilesView) (plan : Plan) (i : RunInput) → HasInput words before after plan i → length i.names.ports.items ≡ length plan.ports
port-names-many words before after plan i h = rw h.names.ports (length-map plan.ports port_name)

-- a sender of a run is a process of it, where it is a process
from-process : (processes workers : ℕ) (row : Row) → IsFrom processes workers row → IsFromProcess processes row
from-process processes workers (Handled (sender.Process p) seq task outside effects) h = h
from-process processes workers (Handled sender.Poller seq task outside effects) h = tt
from-process processes workers (Handled (sender.Worker w) seq task outside effects) h = tt
from-process processes workers (Handled sender.Timer seq task outside effects) h = tt
from-process processes workers (Late (sender.Process p) seq task) h = h
from-process processes workers (Late sender.Poller seq task) h = tt
from-process processes workers (Late (sender.Worker w) seq task) h = tt
from-process processes workers (Late sender.Timer seq task) h = tt
from-process processes workers (Listed from seq) h = tt
from-process processes workers (Resumed from seq word) h = tt
from-process processes workers (Mark kind) h = tt

-- the report of one port has ended
port-ended : (number processes workers : ℕ) (kind : Kind) (decl : PortDecl) (left : PortLeft) → PortHolds number processes workers kind decl left → decl.owner < processes
    → HasEnded processes (port_report (port_name decl) left)
port-ended number processes workers kind decl left holds owner =
    let told = finished-has-end (opening_of number processes kind decl left) (history_of left) holds.finished in
    let same = (same_counts (opening_of number processes kind decl left) (plain_opening processes (port_report (port_name decl) left)) (history_of left) refl refl).end in
    record {
      known = record { opener = owner; senders = λ k d below. from-process processes workers _ (holds.senders k d below) };
      closed = rw (sym same) told;
    }

no-decl : PortDecl
no-decl = record { line = 0; name = []; owner = 0; driver = []; config = plain }

some-left : (lefts : List PortLeft) (k : ℕ) → k < length lefts → PortLeft
some-left [] k lt = absurd (omega arith)
some-left (left ∷ lefts) k lt = left

module _ {D : Type 0} (kind : D → Kind) (stage : D → Life) (faults : D → ℕ) (own : D → Own) (program : D → Option ToldProgram) where
  no-host : Hosted D
  no-host = record { port = None; driver = None }

  -- each process of the plan is reported
  pub processes-many : (words : Result AskedRun ℕ) (before after : FilesView) (plan : Plan) (i : RunInput) (old new : List (Hosted D)) (answered : List ℕ) (later : Option (List ℕ)) (left : ScriptRan) → HasInput words before after plan i
      → HasRun kind stage faults own program i.script old new answered later left → length (report_of i.names left).processes ≡ length plan.processes
  processes-many words before after plan i old new answered later left h run =
      let names = process-names-many words before after plan i h in
      paired-many (λ p. process_report p.0 p.1) i.names.processes.items left.processes.items (run.processes_many ∙ h.run.process_steps.many ∙ sym names) ∙ names

  pub saves-within : (words : Result AskedRun ℕ) (before after : FilesView) (plan : Plan) (i : RunInput) (old new : List (Hosted D)) (answered : List ℕ) (later : Option (List ℕ)) (left : ScriptRan) → HasInput words before after plan i
      → HasRun kind stage faults own program i.script old new answered later left → All (λ (s : SaveDecl). s.process < length (report_of i.names left).processes) i.writes.saves.items
  saves-within words before after plan i old new answered later left h run =
      rw (processes-many words before after plan i old new answered later left h run) (rw h.writes.saves (λ k d below. (h.loaded.script.is_plan.saved k d below).0))

  -- the port of this number has ended, by its report
  ended-at : (words : Result AskedRun ℕ) (before after : FilesView) (plan : Plan) (i : RunInput) (old new : List (Hosted D)) (answered : List ℕ) (later : Option (List ℕ)) (left : ScriptRan) → HasInput words before after plan i
      → HasRun kind stage faults own program i.script old new answered later left → (k : ℕ) (p : PortLeft) → k < length plan.ports
      → HasEnded (length plan.processes) (port_report (port_name (slice_index_or plan.ports k no-decl)) (slice_index_or left.ports.items k p))
  ended-at words before after plan i old new answered later left h run k p lt =
      let within : k < length i.script.ports.items = rw h.run.ports lt in
      let served = run.ports k no-decl p no-host within in
      let holds : PortHolds k (length plan.processes) i.script.workers (kind served.driver) (slice_index_or plan.ports k no-decl) (slice_index_or left.ports.items k p) =
      subst (λ (ports : List PortDecl). PortHolds k (length plan.processes) i.script.workers (kind served.driver) (slice_index_or ports k no-decl) (slice_index_or left.ports.items k p)) h.run.ports
      (subst (λ n. PortHolds k n i.script.workers (kind served.driver) (slice_index_or i.script.ports.items k no-decl) (slice_index_or left.ports.items k p)) h.run.process_steps.many served.holds) in
      port-ended k (length plan.processes) i.script.workers (kind served.driver) (slice_index_or plan.ports k no-decl) (slice_index_or left.ports.items k p) holds
      (h.loaded.script.is_plan.owners k no-decl lt)

  -- the report of each port has ended
  pub all-ended : (words : Result AskedRun ℕ) (before after : FilesView) (plan : Plan) (i : RunInput) (old new : List (Hosted D)) (answered : List ℕ) (later : Option (List ℕ)) (left : ScriptRan) → HasInput words before after plan i
      → HasRun kind stage faults own program i.script old new answered later left → All (HasEnded (length (report_of i.names left).processes)) (report_of i.names left).ports
  all-ended words before after plan i old new answered later left h run = λ k d below.
      let names = port-names-many words before after plan i h in
      let many : length left.ports.items ≡ length i.names.ports.items = run.ports_many ∙ ap (λ (ports : List PortDecl). length ports) h.run.ports ∙ sym names in
      let lt : k < length i.names.ports.items = rw (sym (paired-many (λ p. port_report p.0 p.1) i.names.ports.items left.ports.items many)) below in
      let here : k < length plan.ports = omega (arith, lt, names) in
      let p = some-left left.ports.items k (omega (arith, lt, many)) in
      let name : slice_index_or i.names.ports.items k (port_name no-decl) ≡ port_name (slice_index_or plan.ports k no-decl) =
      ap (λ (names : List PortName). slice_index_or names k (port_name no-decl)) h.names.ports ∙ get_or-map port_name plan.ports k no-decl (port_name no-decl) here in
      rw (processes-many words before after plan i old new answered later left h run)
      (rw (paired-at (λ p. port_report p.0 p.1) i.names.ports.items left.ports.items k (port_name no-decl) p d lt many)
      (rw name (ended-at words before after plan i old new answered later left h run k p here)))
