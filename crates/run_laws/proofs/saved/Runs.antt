-- The saved output of a program in a run of a script.
use Rattle.std.proofs.Common.{◌≡◌, ◌<◌, ℕ, List, [], ◌∷◌, length, map, get_or, true, false, ◌&&◌, eqb, Option, Some, None, refl, sym, ◌∙◌, ap, subst, arith, codes}
use Rattle.std.specs.Prelude.{slice_index_or}
use Rattle.std.specs.List.{AllByRecursion}
use Rattle.std.proofs.lemmas.Bool.{and_parts}
use Rattle.std.proofs.lemmas.List.Elements.{recursion_from_All}
use Rattle.port_config.specs.Config.{is_config, is_served, is_pair}
use Rattle.port_config.specs.declared.config.Config.{Config}
use Rattle.driver_model.specs.Calls.{Kind, Own, Echo, Tally, Valve, Store, Digest, Spawn, Refuse1, Refuse2, Refuse3}
use Rattle.driver_model.specs.Drivers.{kind_name}
use Rattle.driver_model.specs.Programs.{ToldProgram}
use Rattle.port_driver.specs.declared.life.Life.{Life}
use Rattle.port_model.specs.declared.signal.Sender.TheVariants.{Process}
use Rattle.port_model.specs.declared.mail.Mail.{Mail}
use Rattle.port_history.specs.Counts.{saved_of}
use Rattle.port_history.specs.Mail.{mails}
use Rattle.run_output.specs.script_run.run_opening.port_body.LanePort.{rows_from}
use Rattle.run_output.specs.run_opening.run_end.process_job.Mails.{Came, is_source, mail_from, readable}
use Rattle.run_output.specs.script_run.run_opening.driver_hosts.declared.hosted.Hosted.{Hosted}
use Rattle.run_output.specs.run_opening.run_end.Merge.{IsFromPort}
use Rattle.run_output.specs.run_opening.run_seats.declared.plans.ProcessSteps.{ProcessSteps}
use Rattle.script_plan.specs.declared.decl.PortDecl.{PortDecl}
use Rattle.script_plan.specs.declared.step.Step.{Step}
use Rattle.run_output.specs.script_run.declared.running.PortLeft.{PortLeft}
use Rattle.run_output.specs.script_run.declared.running.ProcessLeft.{ProcessLeft}
use Rattle.run_output.specs.script_run.Ran.{IsFrom, PairHolds, PortHolds, calls_of, history_of, opening_of}
use Rattle.unframed_output.specs.Laws.{IsOfProgram, KeepsOwner}
use Rattle.unframed_output.proofs.Mails.{output-is-saved}
use Rattle.unframed_output.proofs.Others.{mails-other}
use Rattle.run_laws.specs.Saved.{OutputIsSavedIn, connects}
use Rattle.run_laws.proofs.saved.Asks.{TaskKeeps, accepted-keep, asks-keep}
use Rattle.run_laws.proofs.saved.Came.{IsUnsaved, others-unsaved, own-unsaved, readable-saved, readable-unsaved, saved-from}
use Rattle.run_laws.proofs.Lists.{all-reverse}
use Rattle.run_laws.proofs.saved.Tasks.{keeps-owner}

-- an element of a list that has one
element : {X : Type 0} (xs : List X) → 0 < length xs → X
element [] some = absurd (omega (arith, some))
element (x ∷ xs) some = x

-- a driver of this name serves a program: no other name has this second letter
pub named-spawn : (kind : Kind) → kind_name kind ≡ codes "spawn" → kind ≡ Spawn
named-spawn Echo e = absurd (let h : 99 ≡ 112 = ap (λ (name : List ℕ). get_or name 1 0) e in omega (arith, h))
named-spawn Tally e = absurd (let h : 97 ≡ 112 = ap (λ (name : List ℕ). get_or name 1 0) e in omega (arith, h))
named-spawn (Valve true) e = absurd (let h : 97 ≡ 112 = ap (λ (name : List ℕ). get_or name 1 0) e in omega (arith, h))
named-spawn (Valve false) e = absurd (let h : 97 ≡ 112 = ap (λ (name : List ℕ). get_or name 1 0) e in omega (arith, h))
named-spawn Store e = absurd (let h : 116 ≡ 112 = ap (λ (name : List ℕ). get_or name 1 0) e in omega (arith, h))
named-spawn Digest e = absurd (let h : 105 ≡ 112 = ap (λ (name : List ℕ). get_or name 1 0) e in omega (arith, h))
named-spawn Spawn e = refl
named-spawn Refuse1 e = absurd (let h : 101 ≡ 112 = ap (λ (name : List ℕ). get_or name 1 0) e in omega (arith, h))
named-spawn Refuse2 e = absurd (let h : 101 ≡ 112 = ap (λ (name : List ℕ). get_or name 1 0) e in omega (arith, h))
named-spawn Refuse3 e = absurd (let h : 101 ≡ 112 = ap (λ (name : List ℕ). get_or name 1 0) e in omega (arith, h))

-- the tasks of a process that have a row hand the port to nobody
pair-keeps : (number ports process processes : ℕ) (kind : Kind) (decl : PortDecl) (port : PortLeft) (own_steps : ProcessSteps) (left : ProcessLeft) (came : List Came)
    → PairHolds number process processes kind decl port (calls_of ports own_steps left) came → AllByRecursion (λ (s : Step). connects number s.act ≡ false) own_steps.steps.items
    → AllByRecursion TaskKeeps (rows_from (Process process) (history_of port))
pair-keeps number ports process processes kind decl port own_steps left came pair keeps =
    subst (AllByRecursion TaskKeeps) (sym pair.tasks)
    (accepted-keep number (calls_of ports own_steps left).asks (calls_of ports own_steps left).receipts (asks-keep number ports own_steps.steps.items own_steps.files.items left.receipts keeps))

-- the history of the port is one of a program's port, whose opener stays its owner
pub of-program : (number processes workers : ℕ) (kind : Kind) (decl : PortDecl) (port : PortLeft) → PortHolds number processes workers kind decl port → decl.driver ≡ codes "spawn"
    → is_served decl.config.mode ≡ true → IsOfProgram (opening_of number processes kind decl port) (history_of port)
of-program number processes workers kind decl port holds driver served = record { kind = named-spawn kind (holds.named ∙ driver); served = served; lawful = holds.lawful }

pub senders-are : (number processes workers : ℕ) (kind : Kind) (decl : PortDecl) (port : PortLeft) → PortHolds number processes workers kind decl port
    → AllByRecursion (IsFrom processes workers) (history_of port)
senders-are number processes workers kind decl port holds =
    all-reverse (IsFrom processes workers) port.journal.rows (recursion_from_All (IsFrom processes workers) port.journal.rows holds.senders)

pub config-served : (config : Config) → is_config config ≡ true → is_served config.mode ≡ true
config-served config is =
    (and_parts (is_served config.mode) (is_pair config.busy_low config.busy_high)
    (and_parts (is_served config.mode && is_pair config.busy_low config.busy_high) (is_pair config.msgq_low config.msgq_high) is).0).0

-- a source that isn't the port is another port, or the process itself
source-unsaved : (number ports : ℕ) (came : List Came) → AllByRecursion (IsUnsaved number) (mail_from None came)
    → ((k : ℕ) → k < ports → eqb k number ≡ false → AllByRecursion (IsUnsaved number) (mail_from (Some k) came))
    → (source : Option ℕ) → IsFromPort ports source → is_source (Some number) source ≡ false → AllByRecursion (IsUnsaved number) (mail_from source came)
source-unsaved number ports came own others None within apart = own
source-unsaved number ports came own others (Some k) within apart = others k within apart

-- what is saved of the mail of a process is what is saved of the mail that the port sent it
process-saved : (number ports : ℕ) (came : List Came) (left sent : List Mail) → left ≡ map (λ (c : Came). c.mail) came → AllByRecursion (λ (c : Came). IsFromPort ports c.from) came
    → AllByRecursion (IsUnsaved number) (mail_from None came) → ((k : ℕ) → k < ports → eqb k number ≡ false → AllByRecursion (IsUnsaved number) (mail_from (Some k) came))
    → mail_from (Some number) came ≡ readable sent → saved_of number left ≡ saved_of number sent
process-saved number ports came left sent are among own others from =
    ap (saved_of number) are
    ∙ (saved-from number came (others-unsaved number ports came among (source-unsaved number ports came own others))
    ∙ (ap (saved_of number) from ∙ readable-saved number sent))

module _ {D : Type 0} (kind : D → Kind) (stage : D → Life) (faults : D → ℕ) (own : D → Own) (program : D → Option ToldProgram) where
  pub output-is-saved-in : OutputIsSavedIn kind stage faults own program
  output-is-saved-in script old new before after ran run number d p l serves =
      let ports = length script.ports.items in
      let processes = length script.process_steps.items in
      let decl = slice_index_or script.ports.items number d in
      let owner = decl.owner in
      let host : Hosted D = record { port = None; driver = None } in
      let step : ProcessSteps = element script.process_steps.items (omega (arith, serves.owner)) in
      let mine = run.ports number d p host serves.below in
      let k = kind mine.driver in
      let port = slice_index_or ran.ports.items number p in
      let opening = opening_of number processes k decl port in
      let of = of-program number processes script.workers k decl port mine.holds serves.driver (config-served decl.config serves.config) in
      let keeps : KeepsOwner (history_of port) = keeps-owner processes script.workers opening (history_of port) mine.holds.lawful (senders-are number processes script.workers k decl port mine.holds)
      (λ s within. pair-keeps number ports s processes k decl port (slice_index_or script.process_steps.items s step) (slice_index_or ran.processes.items s l) (run.came s) (mine.pairs s step l within)
      (recursion_from_All (λ (t : Step). connects number t.act ≡ false) (slice_index_or script.process_steps.items s step).steps.items (serves.stays s step within))) in
      let process = run.processes owner step l serves.owner in
      let calls = calls_of ports (slice_index_or script.process_steps.items owner step) (slice_index_or ran.processes.items owner l) in
      process-saved number ports (run.came owner) (slice_index_or ran.processes.items owner l).mails.items (mails opening owner (history_of port)) process.mails_are
      (recursion_from_All (λ (c : Came). IsFromPort ports c.from) (run.came owner) process.among)
      (subst (AllByRecursion (IsUnsaved number)) (sym process.own) (own-unsaved number calls.asks calls.receipts))
      (λ j within apart.
      let other = run.ports j d p host within in
      let at = opening_of j processes (kind other.driver) (slice_index_or script.ports.items j d) (slice_index_or ran.ports.items j p) in
      subst (AllByRecursion (IsUnsaved number)) (sym (other.pairs owner step l serves.owner).mail)
      (readable-unsaved number (mails at owner (history_of (slice_index_or ran.ports.items j p))) (mails-other number owner at (history_of (slice_index_or ran.ports.items j p)) apart)))
      (mine.pairs owner step l serves.owner).mail
      ∙ output-is-saved opening (history_of port) of keeps
