-- A port of a load: all its commands are handled.
use Rattle.std.proofs.Common.{◌≡◌, ℕ, zero, suc, ◌<◌, ◌≤◌, List, length, map, reverse, Bool, true, false, cond, get_or, Option, Some, None, refl, sym, ap, ◌∙◌, subst, arith, ⊎_elim}
use Rattle.std.specs.Prelude.{codes}
use Rattle.std.specs.List.{All}
use Rattle.std.proofs.lemmas.Bool.{cases_eq, ne_eqb}
use Rattle.std.proofs.lemmas.List.Elements.{All-weaker}
use Rattle.driver_model.specs.Calls.{Kind, Own, Echo, Valve}
use Rattle.driver_model.specs.Drivers.{kind_name}
use Rattle.driver_model.specs.Programs.{ToldProgram}
use Rattle.port_driver.specs.declared.life.Life.{Life}
use Rattle.run_output.specs.script_input.run_opening.port_body.LanePort.{rows_from}
use Rattle.port_history.specs.Counts.{handled_bytes, handled_commands, late_commands}
use Rattle.port_history.specs.Lawful.{Lawful, IsFinished}
use Rattle.port_history.specs.Laws.{may_send}
use Rattle.port_history.specs.Mail.{mails}
use Rattle.port_history.specs.Opening.{Opening}
use Rattle.port_model.specs.declared.row.Row.{Row}
use Rattle.port_model.specs.declared.signal.Sender.{Sender}
use Rattle.port_model.specs.declared.signal.Sender.TheVariants.{Process, Poller, Worker, Timer}
use Rattle.port_model.specs.declared.signal.Signal.{Signal}
use Rattle.port_model.specs.declared.signal.Signal.TheVariants.{AsyncDone, Dropped, Ready}
use Rattle.port_model.specs.Signals.{data_size, is_command}
use Rattle.port_model.specs.Tasks.{TaskView}
use Rattle.run_output.specs.script_input.run_opening.run_end.process_receipts.Asks.{Asked}
use Rattle.run_output.specs.script_input.run_opening.run_end.process_receipts.Receipts.{AreReceipts, accepted}
use Rattle.run_output.specs.script_input.run_opening.run_end.process_job.Asks.{calls_of as calls_by, end_reason, made_of}
use Rattle.run_output.specs.script_input.run_opening.run_end.process_job.Mails.{mail_from, messages_of, readable}
use Rattle.run_output.specs.script_input.run_opening.run_end.process_job.Waits.{ShowsClosed, WaitsAreShown}
use Rattle.run_output.specs.script_input.run_opening.run_end.Shown.{Calls}
use Rattle.run_output.specs.script_input.run_opening.run_seats.declared.plans.ProcessSteps.{ProcessSteps}
use Rattle.run_output.specs.script_input.StepsDealt.{steps_of as steps_by}
use Rattle.script_plan.specs.declared.decl.PortDecl.{PortDecl}
use Rattle.script_plan.specs.declared.step.Step.{Step}
use Rattle.script_load.specs.Load.{commands_to, goes_to, load_plan, port_with, ports}
use Rattle.script_load.proofs.Plans.{IsPlan-load}
use Rattle.run_output.specs.script_run.declared.running.PortLeft.{PortLeft}
use Rattle.run_output.specs.script_run.declared.running.ProcessLeft.{ProcessLeft}
use Rattle.run_output.specs.script_run.declared.running.ScriptRan.{ScriptRan}
use Rattle.run_output.specs.script_run.Ran.{IsFrom, ProcessHolds, calls_of, history_of, opening_of}
use Rattle.run_output.specs.script_input.declared.input.RunNames.{RunNames}
use Rattle.run_output.specs.script_input.run_opening.declared.run_script.RunScript.{RunScript}
use Rattle.command_counts.specs.Rows.{AreQuiet, IsQuiet, command_size, messages_of as messages_in, one_command, task_sum}
use Rattle.command_counts.proofs.Counting.{counted}
use Rattle.command_counts.proofs.Sending.{sends-one-each}
use Rattle.command_counts.proofs.Staying.{stay-open}
use Rattle.run_laws.specs.Summary.{bytes_to, command_bytes}
use Rattle.run_laws.specs.Law.{HasRunLoad}
use Rattle.run_laws.proofs.summary.Asking.{IsPlain, accepted-below, asked-below, tasks_sum}
use Rattle.run_laws.proofs.summary.Receiving.{messages-few}
use Rattle.run_laws.proofs.summary.Rows.{OfProcesses, TasksAreQuiet, rows-quiet, rows-sum}
use Rattle.run_laws.proofs.summary.Steps.{owner-waits, plan-ports, plan-processes, own-steps-plain}
use Rattle.run_laws.proofs.summary.Sums.{IsBelow, below-over, below-then, over-places}
use Rattle.run_laws.proofs.summary.Telling.{All-reversed, IsCommand, IsMild, calls-mild, calls-parts, commands-quiet, made-commands, mild-quiet, put-are, unput-commands}

-- the kind with the name `echo`
echo-kind : (kind : Kind) → kind_name kind ≡ codes "echo" → kind ≡ Echo
echo-kind Echo e = refl
echo-kind (Valve false) e = absurd cc
echo-kind (Valve true) e = absurd cc
echo-kind kind e = absurd cc

-- the poller and workers send no commands
no-command : (from : Sender) (signal : Signal) → ((process : ℕ) → from ≡ Process process → ⊥) → may_send from signal ≡ true → is_command signal ≡ false
no-command (Process process) signal other may = absurd (other process refl)
no-command from (Ready event dir) other may = refl
no-command from (Dropped event) other may = refl
no-command from (AsyncDone number output) other may = refl
no-command Poller signal other may = absurd cc
no-command (Worker worker) signal other may = absurd cc
no-command Timer signal other may = absurd cc

pub one-of-processes : OfProcesses one_command
one-of-processes from signal other may = ap (λ b. cond b 1 0) (no-command from signal other may)

pub size-of-processes : OfProcesses command_size
size-of-processes from signal other may = ap (λ b. cond b (data_size signal) 0) (no-command from signal other may)

-- what a load's port comes to
pub record IsWhole (port : Opening) (history : List Row) (commands bytes : ℕ) : Type 0 where
  pub handled : handled_commands port history ≡ commands
  pub late : late_commands history ≡ 0
  pub bytes_are : handled_bytes port history ≡ bytes

module _ {D : Type 0} (kind : D → Kind) (stage : D → Life) (faults : D → ℕ) (own : D → Own) (program : D → Option ToldProgram) (number : ℕ) (script : RunScript) (names : RunNames) (left : ScriptRan)
    (r : HasRunLoad kind stage faults own program number script names left) where
  pub ports-many : length script.ports.items ≡ 4
  ports-many = ap length (r.run_of.ports ∙ plan-ports number)

  pub process-steps-many : length script.process_steps.items ≡ 8
  process-steps-many = r.run_of.process_steps.many ∙ ap length (plan-processes number)

  abbrev pub steps : List Step
  steps = (load_plan number).steps

  -- by their places, with what stands in for a place that isn't there
  abbrev pub decl_at : ℕ → PortDecl
  decl_at k = get_or script.ports.items k (port_with 0)

  abbrev pub own_steps_at : ProcessSteps → ℕ → ProcessSteps
  own_steps_at q s = get_or script.process_steps.items s q

  module _ (p : PortLeft) (q : ProcessSteps) (l : ProcessLeft) where
    abbrev pub port_at : ℕ → PortLeft
    port_at k = get_or left.ports.items k p

    abbrev pub rows_at : ℕ → List Row
    rows_at k = history_of (port_at k)

    abbrev pub open_at : ℕ → Opening
    open_at k = opening_of k (length script.process_steps.items) Echo (decl_at k) (port_at k)

    abbrev pub calls_at : ℕ → Calls
    calls_at s = calls_of (length script.ports.items) (own_steps_at q s) (get_or left.processes.items s l)

    -- what a run says of a port, whose driver sends back
    record PortIs (k : ℕ) : Type 0 where
      pub lawful : Lawful (open_at k) (rows_at k)
      pub finished : IsFinished (open_at k) (rows_at k)
      pub senders : All (IsFrom (length script.process_steps.items) script.workers) (rows_at k)
      pub tasks : (s : ℕ) → s < 8 → rows_from (Process s) (rows_at k) ≡ accepted k (calls_at s).asks (calls_at s).receipts
      pub mail : (s : ℕ) → s < 8 → mail_from (Some k) (r.has_run.came s) ≡ readable (mails (open_at k) s (rows_at k))

    decl-is : (k : ℕ) → k < 4 → decl_at k ≡ port_with k
    decl-is k below = ap (λ (ds : List PortDecl). get_or ds k (port_with 0)) (r.run_of.ports ∙ plan-ports number) ∙ named k below
      where
        named : (k : ℕ) → k < 4 → get_or (map port_with ports) k (port_with 0) ≡ port_with k
        named zero below = refl
        named (suc zero) below = refl
        named (suc (suc zero)) below = refl
        named (suc (suc (suc zero))) below = refl
        named (suc (suc (suc (suc n)))) below = absurd (omega (arith, below))

    pub owner-is : (k : ℕ) → k < 4 → (open_at k).owner ≡ k
    owner-is k below = ap (λ (d : PortDecl). d.owner) (decl-is k below)

    port-is : (k : ℕ) → k < 4 → PortIs k
    port-is k below =
        let served = r.has_run.ports k (port_with 0) p (record { port = None; driver = None }) (let many = ports-many in omega (arith, below, many)) in
        let echo : kind served.driver ≡ Echo = echo-kind (kind served.driver) (served.holds.named ∙ ap (λ (d : PortDecl). d.driver) (decl-is k below)) in
        let P : Kind → Opening = λ x. opening_of k (length script.process_steps.items) x (decl_at k) (port_at k) in
        let within : (s : ℕ) → s < 8 → s < length script.process_steps.items = λ s less. (let many = process-steps-many in omega (arith, less, many)) in
        record {
          lawful = subst (λ x. Lawful (P x) (rows_at k)) echo served.holds.lawful;
          finished = subst (λ x. IsFinished (P x) (rows_at k)) echo served.holds.finished;
          senders = All-reversed (IsFrom (length script.process_steps.items) script.workers) (port_at k).journal.rows served.holds.senders;
          tasks = λ s less. (served.pairs s q l (within s less)).tasks;
          mail = λ s less. subst (λ x. mail_from (Some k) (r.has_run.came s) ≡ readable (mails (P x) s (rows_at k))) echo (served.pairs s q l (within s less)).mail;
        }

    own-steps-are : (s : ℕ) → s < 8 → (own_steps_at q s).steps.items ≡ steps_by s steps
    own-steps-are s below = (r.run_of.process_steps.each s q (let many = ap length (plan-processes number) in omega (arith, below, many))).steps_are

    plain-at : (s : ℕ) → s < 8 → All (λ (x : Step). IsPlain x.act) (own_steps_at q s).steps.items
    plain-at s below = subst (All (λ (x : Step). IsPlain x.act)) (sym (own-steps-are s below)) (own-steps-plain number s)

    -- the commands of a process that have a row are among its steps
    process-below : (k s : ℕ) → PortIs k → s < 8
        → IsBelow (tasks_sum one_command (rows_from (Process s) (rows_at k))) (tasks_sum command_size (rows_from (Process s) (rows_at k))) (commands_to k (steps_by s steps)) (command_bytes k (steps_by s steps))
    process-below k s is below =
        subst (λ ts. IsBelow (tasks_sum one_command ts) (tasks_sum command_size ts) (commands_to k (steps_by s steps)) (command_bytes k (steps_by s steps))) (sym (is.tasks s below))
        (subst (λ l. IsBelow (tasks_sum one_command (accepted k (calls_at s).asks (calls_at s).receipts)) (tasks_sum command_size (accepted k (calls_at s).asks (calls_at s).receipts)) (commands_to k l) (command_bytes k l)) (own-steps-are s below)
        (below-then _ _ _ _ _ _ (accepted-below k (calls_at s).asks (calls_at s).receipts)
        (asked-below k (length script.ports.items) (own_steps_at q s).steps.items (own_steps_at q s).files.items (get_or left.processes.items s l).receipts (plain-at s below))))

    -- so are those of all processes
    rows-below : (k : ℕ) → PortIs k → IsBelow (task_sum one_command (rows_at k)) (task_sum command_size (rows_at k)) (commands_to k steps) (command_bytes k steps)
    rows-below k is =
        let n = length script.process_steps.items in
        let senders : All (λ (s : Step). s.process < n) steps = subst (λ m. All (λ (s : Step). s.process < m) steps) (ap length (plan-processes number) ∙ sym process-steps-many) (IsPlan-load number).senders in
        let within : (s : ℕ) → s < n → s < 8 = λ s less. (let many = process-steps-many in omega (arith, less, many)) in
        let one = rows-sum one_command one-of-processes n script.workers (open_at k) (rows_at k) is.lawful is.senders in
        let size = rows-sum command_size size-of-processes n script.workers (open_at k) (rows_at k) is.lawful is.senders in
        let most = over-places (λ (s : Step). s.process) (λ (s : Step). cond (goes_to k s.act) 1 0) n steps senders in
        let all = over-places (λ (s : Step). s.process) (λ (s : Step). bytes_to k s.act) n steps senders in
        let below = below-over n (λ s. tasks_sum one_command (rows_from (Process s) (rows_at k))) (λ s. tasks_sum command_size (rows_from (Process s) (rows_at k)))
        (λ s. commands_to k (steps_by s steps)) (λ s. command_bytes k (steps_by s steps)) (λ s less. process-below k s is (within s less)) in
        let few = below.few in
        record { few = omega (arith, few, one, most); same = λ e. sym size ∙ below.same (omega (arith, e, one, most)) ∙ all }

    process-is : (s : ℕ) → s < 8 → (soft : List Bool) × ProcessHolds (length script.ports.items) soft (own_steps_at q s) (calls_at s) (get_or left.processes.items s l) (r.has_run.came s)
    process-is s below = (_, r.has_run.processes s q l (let many = process-steps-many in omega (arith, below, many)))

    -- the owner of a port finds it open at its end: else nothing would close it
    owner-finds-open : (k : ℕ) → k < 4 → PortIs k → ShowsClosed k (calls_at k).receipts → ⊥
    owner-finds-open k below is closed =
        let early : k < 8 = omega (arith, below) in
        let prog = own_steps_at q k in
        let newest = (get_or left.processes.items k l).receipts in
        let made = made_of (calls_by prog.steps.items prog.files.items) newest in
        let parts = calls-parts (length script.ports.items) prog.steps.items prog.files.items newest in
        let own-tasks : All (λ (t : TaskView). IsCommand t.signal) (rows_from (Process k) (rows_at k)) =
        subst (All (λ (t : TaskView). IsCommand t.signal)) (sym (is.tasks k early))
        (subst (λ asks. All (λ (t : TaskView). IsCommand t.signal) (accepted k asks (calls_at k).receipts)) (sym parts)
        (unput-commands k (process-is k early).0 (end_reason prog.steps.items) (length script.ports.items) (reverse made) (calls_at k).receipts
        (subst (λ asks. AreReceipts (process-is k early).0 asks (calls_at k).receipts) parts (process-is k early).1.receipts) (let many = ports-many in omega (arith, below, many)) closed
        (All-reversed (λ (a : Asked). IsCommand a.signal) made (made-commands prog.steps.items prog.files.items newest (plain-at k early))))) in
        let quiet : TasksAreQuiet k (length script.process_steps.items) (rows_at k) = λ s less.
        let within : s < 8 = (let many = process-steps-many in omega (arith, less, many)) in
        ⊎_elim
        (λ (same : s ≡ k). subst (λ j. All (λ (t : TaskView). IsQuiet k (Process j) t.signal) (rows_from (Process j) (rows_at k))) (sym same)
        (All-weaker (λ (t : TaskView). IsCommand t.signal) (λ (t : TaskView). IsQuiet k (Process k) t.signal) (λ t c. commands-quiet k k t.signal c) (rows_from (Process k) (rows_at k)) own-tasks))
        (λ (apart : s ≡ k → ⊥). subst (All (λ (t : TaskView). IsQuiet k (Process s) t.signal)) (sym (is.tasks s within))
        (All-weaker (λ (t : TaskView). IsMild t.signal) (λ (t : TaskView). IsQuiet k (Process s) t.signal) (λ t c. mild-quiet k s t.signal (ne_eqb s k apart) c) (accepted k (calls_at s).asks (calls_at s).receipts)
        (put-are IsMild k (calls_at s).asks (calls_at s).receipts (calls-mild (length script.ports.items) (own_steps_at q s).steps.items (own_steps_at q s).files.items (get_or left.processes.items s l).receipts (plain-at s within)))))
        (cases_eq s k) in
        stay-open (open_at k) (rows_at k) refl is.lawful
        (subst (λ o. AreQuiet o (rows_at k)) (sym (owner-is k below)) (rows-quiet k (length script.process_steps.items) script.workers (rows_at k) is.senders quiet)) is.finished

    -- so it had all messages of the port, and as many commands were handled
    all-handled : (k : ℕ) → k < 4 → PortIs k → commands_to k steps ≤ handled_commands (open_at k) (rows_at k)
    all-handled k below is =
        let early : k < 8 = omega (arith, below) in
        let holds = (process-is k early).1 in
        let many = ports-many in
        let mail = (get_or left.processes.items k l).mails.items in
        let most = handled_commands (open_at k) (rows_at k) in
        ⊎_elim
        (λ (had : commands_to k steps ≤ messages_of k mail).
        let few = messages-few k (length script.ports.items) most (r.has_run.came k) mail (calls_at k).asks (calls_at k).receipts (omega (arith, below, many)) holds.mails_are holds.among holds.own
        (λ q' less.
        let inside : q' < 4 = omega (arith, less, many) in
        let it = port-is q' inside in
        let sent = sends-one-each (open_at q') k (rows_at q') refl it.lawful in
        record {
          sent = mails (open_at q') k (rows_at q');
          came_is = it.mail k early;
          own = λ e. subst (λ j. messages_in k (mails (open_at q') k (rows_at q')) ≤ handled_commands (open_at j) (rows_at j)) e
              (subst (λ j. messages_in j (mails (open_at q') k (rows_at q')) ≤ handled_commands (open_at q') (rows_at q')) e sent.own);
          other = λ apart. sent.other k (λ e. apart (sym e));
        }) in
        omega (arith, had, few))
        (λ (closed : ShowsClosed k (calls_at k).receipts). absurd (owner-finds-open k below is closed))
        (owner-waits number k mail (get_or left.processes.items k l).receipts (own_steps_at q k).files.items below
        (subst (λ steps. WaitsAreShown mail (get_or left.processes.items k l).receipts steps (own_steps_at q k).files.items) (own-steps-are k early) holds.waited))

    pub port-whole : (k : ℕ) → k < 4 → IsWhole (open_at k) (rows_at k) (commands_to k steps) (command_bytes k steps)
    port-whole k below =
        let is = port-is k below in
        let rows = rows-below k is in
        let count = counted (open_at k) (rows_at k) in
        let all = all-handled k below is in
        let few = rows.few in
        let handled = count.few in
        record {
          handled = omega (arith, all, few, handled);
          late = omega (arith, all, few, handled);
          bytes_are = count.same (omega (arith, all, few, handled)) ∙ rows.same (omega (arith, all, few, handled));
        }
