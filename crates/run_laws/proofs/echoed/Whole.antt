-- A run as a whole: what its ports and processes leave of a port that sends each command back.
use Rattle.std.proofs.Common.{◌≡◌, ℕ, ◌==◌, ◌<◌, ◌≤◌, ◌||◌, Bool, true, false, cond, List, [], ◌∷◌, ◌++◌, length, Option, Some, None, sym, ap, ◌∙◌, subst, arith, ⊎_elim}
use Rattle.std.specs.Prelude.{reverse, slice_index, slice_index_or}
use Rattle.std.specs.List.{AllByRecursion, flat_map, list_any}
use Rattle.std.proofs.lemmas.Bool.{eqb-false, cases_lt, true_from_ne_false}
use Rattle.std.proofs.lemmas.List.{append-nil, length-append, length-reverse}
use Rattle.std.proofs.lemmas.List.Elements.{recursion_from_All}
use Rattle.run_output.specs.script_run.run_opening.driver_hosts.declared.hosted.Hosted.{Hosted}
use Rattle.run_output.specs.script_run.run_opening.driver_model.Calls.{Kind, Own}
use Rattle.run_output.specs.script_run.run_opening.driver_model.Programs.{ToldProgram}
use Rattle.run_output.specs.script_run.run_opening.driver_hosts.port_driver.declared.life.Life.{Life}
use Rattle.run_output.specs.script_run.run_opening.port_body.LanePort.{rows_from}
use Rattle.run_output.specs.script_run.run_opening.port_body.recorded_port.View.{stat_marks}
use Rattle.echoed_history.specs.port_history.Counts.{saved_of}
use Rattle.echoed_history.specs.port_history.Mail.{mails}
use Rattle.echoed_history.specs.port_history.Opening.{Opening}
use Rattle.echoed_history.specs.port_history.State.{state}
use Rattle.echoed_history.specs.port_history.port_model.declared.row.Row.{Row}
use Rattle.echoed_history.specs.port_history.port_model.declared.signal.Sender.TheVariants.{Process}
use Rattle.echoed_history.specs.port_history.port_model.Tasks.{TaskView}
use Rattle.run_output.specs.script_run.run_opening.run_end.port_words.busy.Stat.{Rises}
use Rattle.run_output.specs.script_run.run_opening.run_end.port_words.declared.busy.view.StatMark.{StatMark}
use Rattle.process_end.specs.Ended.{gone_ask, gone_asks}
use Rattle.run_output.specs.script_run.run_opening.run_end.process_job.Asks.{asks_of, calls_of as calls_of_steps, made_of}
use Rattle.run_output.specs.script_run.run_opening.run_end.process_job.Mails.{Came}
use Rattle.process_end.specs.process_receipts.Asks.{Asked, task_of}
use Rattle.process_end.specs.process_receipts.Receipts.{AreReceipts, accepted, is_put, stats_shown}
use Rattle.process_end.specs.process_receipts.declared.receipt.Outcome.{Outcome}
use Rattle.run_output.specs.script_run.run_opening.run_end.Merge.{IsFromPort}
use Rattle.run_output.specs.script_run.run_opening.run_end.Shown.{Calls, WordsHold}
use Rattle.run_output.specs.script_run.run_opening.Opened.{limits_of, soft_at}
use Rattle.run_output.specs.script_run.run_opening.run_seats.declared.plans.ProcessSteps.{ProcessSteps}
use Rattle.run_output.specs.script_run.run_opening.declared.run_script.RunScript.{RunScript}
use Rattle.run_output.specs.script_run.run_opening.Script.{IsRunnable}
use Rattle.run_output.specs.script_run.run_opening.run_end.process_job.script_plan.declared.decl.PortDecl.{PortDecl}
use Rattle.run_output.specs.script_run.run_opening.run_end.process_job.script_plan.declared.step.Step.{Step}
use Rattle.run_output.specs.script_run.run_opening.run_end.process_job.script_plan.Plan.{IsWithin}
use Rattle.run_output.specs.script_run.declared.running.PortLeft.{PortLeft}
use Rattle.run_output.specs.script_run.declared.running.ProcessLeft.{ProcessLeft}
use Rattle.run_output.specs.script_run.declared.running.ScriptRan.{ScriptRan}
use Rattle.run_output.specs.script_run.Ran.{HasRun, IsFrom, PairHolds, PortServed, all_calls, calls_of, history_of, opening_of}
use Rattle.run_laws.specs.Sending.{IsEchoPort, IsShort, closes, is_plain, sends_back, sends_to}
use Rattle.run_laws.specs.Echoed.{AllIsEchoed, CommandsAreEchoed, EachBeforeClose, EchoesAllTo, EchoesTo, NoneIsRefused, RefusesNoneOf, closes_port, is_taken}
use Rattle.echoed_history.specs.Commands.{AreClosings, AreCommands, AreEnds, OthersEnd, echoes, task_data}
use Rattle.echoed_history.specs.Laws.{SendsBack}
use Rattle.run_laws.proofs.echoed.Answered.{IsShortAsk, all-taken, commands-open, made-put, put-taken}
use Rattle.run_laws.proofs.echoed.Asked.{other-asks, steps-made}
use Rattle.echoed_history.proofs.Lists.{back as back-of, reversed, weaker}
use Rattle.run_laws.proofs.echoed.Content.{all-data}
use Rattle.run_laws.proofs.echoed.Short.{made-few, short-asks}
use Rattle.echoed_history.proofs.Unsaved.{AreNotFor}
use Rattle.run_laws.proofs.echoed.Mailed.{OthersSendNone, came-saved, mails-other, own-other, readable-other, readable-saved}
use Rattle.run_laws.proofs.echoed.Owner.{OwnerAsked, at-calls, closings_of, ends-alone, kind-echoes, late-reversed, many-calls, no-rows, owner-asked, owner-closings, owner-commands, owner-put, owner-tasks}
use Rattle.echoed_history.proofs.Closing.{commands-come-back}
use Rattle.echoed_history.proofs.Serving.{serves, unfinished}

-- a port of a run that sends each command back, and that its owner alone sends commands
module _ {D : Type 0} (kind : D → Kind) (stage : D → Life) (faults : D → ℕ) (own : D → Own) (program : D → Option ToldProgram) (script : RunScript) (old new : List (Hosted D)) (before : List ℕ)
    (after : Option (List ℕ)) (ran : ScriptRan) (run : HasRun kind stage faults own program script old new before after ran) (number : ℕ) (d : PortDecl) (p : ProcessSteps) (l : ProcessLeft) (o : PortLeft)
    (within : number < length script.ports.items) (is : IsEchoPort number (slice_index_or script.ports.items number d) script.process_steps.items) where
  abbrev ports : ℕ
  ports = length script.ports.items

  abbrev processes : ℕ
  processes = length script.process_steps.items

  abbrev decl : PortDecl
  decl = slice_index_or script.ports.items number d

  abbrev port : PortLeft
  port = slice_index_or ran.ports.items number o

  abbrev of_process : ℕ → ProcessSteps
  of_process s = slice_index_or script.process_steps.items s p

  abbrev left : ℕ → ProcessLeft
  left s = slice_index_or ran.processes.items s l

  abbrev calls : ℕ → Calls
  calls s = calls_of ports (of_process s) (left s)

  abbrev host : Hosted D
  host = record { port = None; driver = None }

  abbrev served : PortServed kind own program script ran run.came number decl port (slice_index_or new (slice_index run.places number) host)
  served = run.ports number d o host within

  abbrev opening : Opening
  opening = opening_of number processes (kind served.driver) decl port

  abbrev history : List Row
  history = history_of port

  is-echo : echoes (kind served.driver) ≡ true
  is-echo = kind-echoes (kind served.driver) (ap sends_back served.holds.named ∙ is.driver)

  from : AllByRecursion (IsFrom processes script.workers) history
  from = reversed (IsFrom processes script.workers) port.journal.rows (recursion_from_All (IsFrom processes script.workers) port.journal.rows served.holds.senders)

  -- what the steps of a process send
  sends : (s : ℕ) → s < processes → AllByRecursion (λ (step : Step). sends_to step.act ≡ Some number → (s ≡ decl.owner) × ((is_plain step.act || closes step.act) ≡ true)) (of_process s).steps.items
  sends s below = recursion_from_All (λ (step : Step). sends_to step.act ≡ Some number → (s ≡ decl.owner) × ((is_plain step.act || closes step.act) ≡ true)) (of_process s).steps.items (is.sent s p below)

  sends-none : (s : ℕ) → s < processes → (s ≡ decl.owner → ⊥)
      → AllByRecursion (λ (step : Step). (content : List ℕ) → AllByRecursion (λ (a : Asked). (a.port == number) ≡ true → ⊥) (asks_of step.line step.act content)) (of_process s).steps.items
  sends-none s below apart = weaker (λ (step : Step). sends_to step.act ≡ Some number → (s ≡ decl.owner) × ((is_plain step.act || closes step.act) ≡ true))
      (λ (step : Step). (content : List ℕ) → AllByRecursion (λ (a : Asked). (a.port == number) ≡ true → ⊥) (asks_of step.line step.act content)) (of_process s).steps.items
      (λ step sent content. other-asks number step.line step.act content (λ to. apart (sent to).0)) (sends s below)

  others-end : OthersEnd decl.owner history
  others-end s apart = ⊎_elim
      (λ (below : s < processes). subst AreEnds (sym (served.pairs s p l below).tasks)
      (ends-alone number ports (of_process s).steps.items (of_process s).files.items (left s).receipts (reverse (left s).receipts) (sends-none s below apart)))
      (λ (absent : processes ≤ s). subst AreEnds (sym (no-rows s processes script.workers history from absent)) tt)
      (cases_lt s processes)

  -- the owner is a process of the run, since the port closed
  is-there : decl.owner < processes
  is-there = ⊎_elim
      (λ (below : decl.owner < processes). below)
      (λ (absent : processes ≤ decl.owner). absurd (unfinished opening history served.holds.finished
      (serves opening history is-echo served.holds.lawful (subst AreCommands (sym (no-rows decl.owner processes script.workers history from absent)) tt) others-end)))
      (cases_lt decl.owner processes)

  receipts-are : AreReceipts (soft_at kind old run.places) (calls decl.owner).asks (calls decl.owner).receipts
  receipts-are = (run.processes decl.owner p l is-there).receipts

  pair : PairHolds number decl.owner processes (kind served.driver) decl port (calls decl.owner) (run.came decl.owner)
  pair = served.pairs decl.owner p l is-there

  asked : OwnerAsked number ports (soft_at kind old run.places) (of_process decl.owner) (left decl.owner)
  asked = owner-asked number ports (soft_at kind old run.places) (of_process decl.owner) (left decl.owner) within receipts-are
      (weaker (λ (step : Step). sends_to step.act ≡ Some number → (decl.owner ≡ decl.owner) × ((is_plain step.act || closes step.act) ≡ true))
      (λ (step : Step). sends_to step.act ≡ Some number → (is_plain step.act || closes step.act) ≡ true) (of_process decl.owner).steps.items (λ step sent to. (sent to).1) (sends decl.owner is-there))
      (is.closes_last decl.owner p is-there)

  abbrev commands : List TaskView
  commands = accepted number asked.commands asked.behind.rest

  abbrev closings : List TaskView
  closings = closings_of number ports (soft_at kind old run.places) (of_process decl.owner) (left decl.owner) asked

  tasks : rows_from (Process decl.owner) history ≡ commands ++ closings
  tasks = pair.tasks ∙ owner-tasks number ports (soft_at kind old run.places) (of_process decl.owner) (left decl.owner) asked

  are-commands : AreCommands commands
  are-commands = owner-commands number ports (soft_at kind old run.places) (of_process decl.owner) (left decl.owner) asked

  are-closings : AreClosings closings
  are-closings = owner-closings number ports (soft_at kind old run.places) (of_process decl.owner) (left decl.owner) asked

  -- one of the owner's tasks closed the port, since it is finished
  some-closing : closings ≡ [] → ⊥
  some-closing none = unfinished opening history served.holds.finished
      (serves opening history is-echo served.holds.lawful (subst AreCommands (sym (tasks ∙ ap (λ more. commands ++ more) none ∙ append-nil commands)) are-commands) others-end)

  -- it was told of the owner's end, where no call closed it before
  was-told : list_any (closes_port number) (asked.closing ++ asked.commands) ≡ false → is_put asked.told.end.outcome ≡ true
  was-told none = true_from_ne_false (is_put asked.told.end.outcome)
      (λ no. some-closing (λ i. asked.behind.none none i ++ cond (no i) (task_of (gone_ask asked.reason number) asked.told.end.outcome ∷ []) []))

  back : SendsBack opening history
  back = commands-come-back opening commands closings history is-echo served.holds.lawful (record { tasks = tasks; commands_are = are-commands; closings_are = are-closings }) others-end

  others-none : OthersSendNone ports number (run.came decl.owner)
  others-none None other source = subst (AreNotFor number) (sym (run.processes decl.owner p l is-there).own) (own-other number (calls decl.owner).asks (calls decl.owner).receipts)
  others-none (Some q) other source =
      let servedq = run.ports q d o host source in
      let openingq = opening_of q processes (kind servedq.driver) (slice_index_or script.ports.items q d) (slice_index_or ran.ports.items q o) in
      let historyq = history_of (slice_index_or ran.ports.items q o) in
      subst (AreNotFor number) (sym (servedq.pairs decl.owner p l is-there).mail)
      (readable-other number (mails openingq decl.owner historyq) (mails-other number openingq decl.owner historyq (eqb-false q number other)))

  saved : saved_of number (left decl.owner).mails.items ≡ flat_map task_data (accepted number (calls decl.owner).asks (calls decl.owner).receipts)
  saved = ap (saved_of number) (run.processes decl.owner p l is-there).mails_are
      ∙ came-saved ports number (run.came decl.owner) others-none
      (recursion_from_All (λ (c : Came). IsFromPort ports c.from) (run.came decl.owner) (run.processes decl.owner p l is-there).among)
      ∙ ap (saved_of number) pair.mail
      ∙ readable-saved number (mails opening decl.owner history)
      ∙ back.saved
      ∙ ap (flat_map task_data) pair.tasks

  abbrev marks : List StatMark
  marks = stat_marks (state opening history).marks

  rises : Rises marks 0 (stats_shown number (calls decl.owner).receipts)
  rises =
      let all = all_calls ports script.process_steps.items ran.processes.items in
      let same = run.processes_many in
      let many = many-calls ports script.process_steps.items ran.processes.items same in
      let there = is-there in
      let below : decl.owner < length ran.processes.items = omega (arith, there, same) in
      let shown = served.words.shown decl.owner (calls decl.owner) (omega (arith, below, many)) in
      (subst (WordsHold number (limits_of decl.config) marks all) (at-calls ports script.process_steps.items ran.processes.items decl.owner (calls decl.owner) p l same below) shown).rise

  commands-taken : EachBeforeClose number is_taken asked.commands asked.behind.rest
  commands-taken = all-taken number (soft_at kind old run.places) asked.commands asked.behind.rest asked.behind.made_are asked.own
      (commands-open number (soft_at kind old run.places) asked.reason asked.commands (asked.closing ++ asked.commands) (gone_asks asked.reason 0 ports ++ (asked.closing ++ asked.commands))
      (calls decl.owner).receipts marks asked.told asked.behind some-closing rises)

  -- what holds of the commands holds of all calls before the first that closes the port, where it holds of the end
  each-call : (test : Outcome → Bool) → EachBeforeClose number test asked.commands asked.behind.rest → ((o : Outcome) → is_put o ≡ true → test o ≡ true)
      → EachBeforeClose number test (calls decl.owner).asks (calls decl.owner).receipts
  each-call test all end = subst (λ asks. EachBeforeClose number test asks (calls decl.owner).receipts) (sym asked.asks_are)
      (asked.told.each test (asked.behind.each test all) (λ none. end asked.told.end.outcome (was-told none)))

  pub echoes-to : EchoesTo script ran number decl.owner p o l
  echoes-to = record {
    taken = each-call is_taken commands-taken put-taken;
    saved = saved;
    none_late = sym (late-reversed port.journal.rows) ∙ back.none_late;
  }

  steps-within : IsRunnable script → AllByRecursion (λ (step : Step). IsWithin processes ports step.act) (of_process decl.owner).steps.items
  steps-within runnable = recursion_from_All (λ (step : Step). IsWithin processes ports step.act) (of_process decl.owner).steps.items (runnable.within decl.owner p is-there)

  pub echoes-all : IsRunnable script → EchoesAllTo script ran number decl.owner p l
  echoes-all runnable put =
      saved
      ∙ all-data number processes ports (soft_at kind old run.places) (of_process decl.owner).steps.items (of_process decl.owner).files.items (left decl.owner).receipts (omega (arith, within)) receipts-are
      (steps-within runnable) (owner-put number ports (soft_at kind old run.places) (of_process decl.owner) (left decl.owner) asked receipts-are put)

  short : IsRunnable script → AllByRecursion (λ (step : Step). IsShort number step.act) (of_process decl.owner).steps.items → AllByRecursion (IsShortAsk number) asked.commands
  short runnable small = back-of (IsShortAsk number) asked.closing asked.commands (subst (AllByRecursion (IsShortAsk number)) (sym asked.made_is)
      (steps-made (IsShortAsk number) (of_process decl.owner).steps.items (of_process decl.owner).files.items (left decl.owner).receipts
      (each (of_process decl.owner).steps.items (sends decl.owner is-there) small (steps-within runnable))))
    where
      each : (steps : List Step) → AllByRecursion (λ (step : Step). sends_to step.act ≡ Some number → (decl.owner ≡ decl.owner) × ((is_plain step.act || closes step.act) ≡ true)) steps
          → AllByRecursion (λ (step : Step). IsShort number step.act) steps → AllByRecursion (λ (step : Step). IsWithin processes ports step.act) steps
          → AllByRecursion (λ (step : Step). (content : List ℕ) → AllByRecursion (IsShortAsk number) (asks_of step.line step.act content)) steps
      each [] sent small within' = tt
      each (step ∷ steps) sent small within' =
          (λ content. short-asks number processes ports step.line step.act content (λ to. (sent.0 to).1) small.0 within'.0, each steps sent.1 small.1 within'.1)

  pub refuses-none : IsRunnable script → RefusesNoneOf script ran number decl.owner p l
  refuses-none runnable small =
      let steps = (of_process decl.owner).steps.items in
      let receipts = (left decl.owner).receipts in
      let made = made_of (calls_of_steps steps (of_process decl.owner).files.items) receipts in
      let made_long : length (asked.closing ++ asked.commands) ≡ length made = ap length asked.made_is ∙ length-reverse made in
      let both_long = length-append asked.closing asked.commands in
      let few = made-few (calls_of_steps steps (of_process decl.owner).files.items) receipts in
      let few' = small.few in
      each-call is_put
      (made-put number (soft_at kind old run.places) asked.commands asked.behind.rest asked.behind.made_are commands-taken
      (short runnable (recursion_from_All (λ (step : Step). IsShort number step.act) steps small.short)) (omega (arith, made_long, both_long, few, few'))) (λ o put. put)

pub commands-are-echoed : {D : Type 0} (kind : D → Kind) (stage : D → Life) (faults : D → ℕ) (own : D → Own) (program : D → Option ToldProgram) → CommandsAreEchoed kind stage faults own program
commands-are-echoed kind stage faults own program script old new before after ran run number d p o l within is =
    echoes-to kind stage faults own program script old new before after ran run number d p l o within is

-- what a port leaves, where none is asked for
some-left : (lefts : List PortLeft) (k : ℕ) → k < length lefts → PortLeft
some-left [] k below = absurd (omega (arith, below))
some-left (left ∷ lefts) k below = left

pub all-is-echoed : {D : Type 0} (kind : D → Kind) (stage : D → Life) (faults : D → ℕ) (own : D → Own) (program : D → Option ToldProgram) → AllIsEchoed kind stage faults own program
all-is-echoed kind stage faults own program script old new before after ran run runnable number d p l within is =
    let many = run.ports_many in
    echoes-all kind stage faults own program script old new before after ran run number d p l (some-left ran.ports.items number (omega (arith, within, many))) within is runnable

pub none-is-refused : {D : Type 0} (kind : D → Kind) (stage : D → Life) (faults : D → ℕ) (own : D → Own) (program : D → Option ToldProgram) → NoneIsRefused kind stage faults own program
none-is-refused kind stage faults own program script old new before after ran run runnable number d p l within is =
    let many = run.ports_many in
    refuses-none kind stage faults own program script old new before after ran run number d p l (some-left ran.ports.items number (omega (arith, within, many))) within is runnable
