-- The calls of the processes for a port to which its owner alone sends commands, and the rows that they have.
use Rattle.std.proofs.Common.{◌≡◌, ℕ, ◌+◌, ◌==◌, ◌<◌, ◌≤◌, ◌||◌, zero, suc, Bool, true, false, cond, List, [], ◌∷◌, ◌++◌, length, get_or, Some, refl, sym, ap, ◌∙◌, subst, arith, append_assoc}
use Rattle.std.specs.Prelude.{reverse}
use Rattle.std.specs.List.{AllByRecursion}
use Rattle.std.proofs.lemmas.Bool.{ne_eqb}
use Rattle.std.proofs.lemmas.List.{append-nil, reverse-append}
use Rattle.std.proofs.lemmas.List.Sums.{sum_by-cons, sum_by-append}
use Rattle.run_output.specs.script_run.run_opening.driver_model.Calls.{Kind, Echo, Valve, Tally, Store, Digest, Spawn, Refuse1, Refuse2, Refuse3}
use Rattle.run_output.specs.script_run.run_opening.driver_model.Drivers.{kind_name}
use Rattle.run_output.specs.script_run.run_opening.port_body.LanePort.{rows_from, task_from}
use Rattle.echoed_history.specs.port_history.Counts.{is_late_command, late_commands}
use Rattle.echoed_history.specs.port_history.port_model.declared.row.Row.{Row}
use Rattle.echoed_history.specs.port_history.port_model.declared.row.Row.TheVariants.{Handled, Late, Listed, Resumed, Mark}
use Rattle.echoed_history.specs.port_history.port_model.declared.signal.Sender.TheVariants.{Process}
use Rattle.echoed_history.specs.port_history.port_model.Tasks.{TaskView}
use Rattle.process_end.specs.Ended.{gone_ask, gone_asks}
use Rattle.run_output.specs.script_run.run_opening.run_end.process_job.Asks.{asks_of, end_reason, made_asks}
use Rattle.process_end.specs.process_receipts.Asks.{Asked, is_gone, task_of}
use Rattle.process_end.specs.process_receipts.Receipts.{AreReceipts, accepted, is_put}
use Rattle.process_end.specs.process_receipts.declared.receipt.Receipt.{Receipt}
use Rattle.run_output.specs.script_run.run_opening.run_end.Shown.{Calls}
use Rattle.run_output.specs.script_run.run_opening.run_seats.declared.plans.ProcessSteps.{ProcessSteps}
use Rattle.run_output.specs.script_run.run_opening.run_end.process_job.script_plan.declared.step.Step.{Step}
use Rattle.run_output.specs.script_run.declared.running.ProcessLeft.{ProcessLeft}
use Rattle.run_output.specs.script_run.Ran.{IsFrom, all_calls, calls_of}
use Rattle.run_laws.specs.Echoed.{ArePut, EachBeforeClose}
use Rattle.run_laws.specs.Sending.{ClosesLast, closes, is_plain, sends_back, sends_to}
use Rattle.echoed_history.specs.Commands.{AreClosings, AreCommands, AreEnds, echoes, is_closing, is_plain_command}
use Rattle.run_laws.proofs.echoed.Answered.{AtEnd, Behind, IsCloseCall, IsOwn, at-end, behind, close-closing, tasks-all}
use Rattle.run_laws.proofs.echoed.Asked.{made_by, made-newest, own-made, steps-made}
use Rattle.run_laws.proofs.echoed.Content.{ArePutCommands, put-commands}
use Rattle.echoed_history.proofs.Closing.{gone-closing}
use Rattle.echoed_history.proofs.Lists.{both, weaker}

-- the driver of this name is one of the kinds that send back
pub kind-echoes : (kind : Kind) → sends_back (kind_name kind) ≡ true → echoes kind ≡ true
kind-echoes Echo is = refl
kind-echoes (Valve soft) is = refl
kind-echoes Tally is = absurd cc
kind-echoes Store is = absurd cc
kind-echoes Digest is = absurd cc
kind-echoes Spawn is = absurd cc
kind-echoes Refuse1 is = absurd cc
kind-echoes Refuse2 is = absurd cc
kind-echoes Refuse3 is = absurd cc

-- a process that isn't there has no row
no-row : (p q processes : ℕ) (task : TaskView) (tasks : List TaskView) → q < processes → processes ≤ p → tasks ≡ [] → tasks ++ task_from (Process p) (Process q) task ≡ []
no-row p q processes task tasks there absent none = (λ i. none i ++ cond (ne_eqb p q (λ e. omega (arith, e, there, absent)) i) (task ∷ []) [])

pub no-rows : (p processes workers : ℕ) (rows : List Row) → AllByRecursion (IsFrom processes workers) rows → processes ≤ p → rows_from (Process p) rows ≡ []
no-rows p processes workers [] from absent = refl
no-rows p processes workers (Handled (Process q) seq task outside effects ∷ rows) from absent = no-row p q processes task (rows_from (Process p) rows) from.0 absent (no-rows p processes workers rows from.1 absent)
no-rows p processes workers (Handled sender seq task outside effects ∷ rows) from absent = append-nil (rows_from (Process p) rows) ∙ no-rows p processes workers rows from.1 absent
no-rows p processes workers (Late (Process q) seq task ∷ rows) from absent = no-row p q processes task (rows_from (Process p) rows) from.0 absent (no-rows p processes workers rows from.1 absent)
no-rows p processes workers (Late sender seq task ∷ rows) from absent = append-nil (rows_from (Process p) rows) ∙ no-rows p processes workers rows from.1 absent
no-rows p processes workers (Listed sender seq ∷ rows) from absent = no-rows p processes workers rows from.1 absent
no-rows p processes workers (Resumed sender seq word ∷ rows) from absent = no-rows p processes workers rows from.1 absent
no-rows p processes workers (Mark kind ∷ rows) from absent = no-rows p processes workers rows from.1 absent

-- rows newest first have as many late commands as oldest first
pub late-reversed : (rows : List Row) → late_commands (reverse rows) ≡ late_commands rows
late-reversed [] = refl
late-reversed (row ∷ rows) =
    let count : Row → ℕ = λ r. cond (is_late_command r) 1 0 in
    let apart : late_commands (reverse (row ∷ rows)) ≡ late_commands (reverse rows) + late_commands (row ∷ []) =
    ap late_commands (reverse-append (row ∷ []) rows) ∙ sum_by-append count (reverse rows) (row ∷ []) in
    let one = sum_by-cons count row [] in
    let first = sum_by-cons count row rows in
    let rest = late-reversed rows in
    omega (arith, apart, one, first, rest)

-- the calls of a process by its place among all
pub at-calls : (ports : ℕ) (process_steps : List ProcessSteps) (lefts : List ProcessLeft) (k : ℕ) (c : Calls) (p : ProcessSteps) (l : ProcessLeft) → length lefts ≡ length process_steps → k < length lefts
    → get_or (all_calls ports process_steps lefts) k c ≡ calls_of ports (get_or process_steps k p) (get_or lefts k l)
at-calls ports [] [] k c p l same within = absurd (omega (arith, within))
at-calls ports [] (y ∷ lefts) k c p l same within = absurd (omega (arith, same))
at-calls ports (x ∷ process_steps) [] k c p l same within = absurd (omega (arith, same))
at-calls ports (x ∷ process_steps) (y ∷ lefts) zero c p l same within = refl
at-calls ports (x ∷ process_steps) (y ∷ lefts) (suc k) c p l same within = at-calls ports process_steps lefts k c p l (omega (arith, same)) (omega (arith, within))

pub many-calls : (ports : ℕ) (process_steps : List ProcessSteps) (lefts : List ProcessLeft) → length lefts ≡ length process_steps → length (all_calls ports process_steps lefts) ≡ length lefts
many-calls ports [] [] same = refl
many-calls ports [] (l ∷ lefts) same = absurd (omega (arith, same))
many-calls ports (p ∷ process_steps) [] same = absurd (omega (arith, same))
many-calls ports (p ∷ process_steps) (l ∷ lefts) same = let less : length lefts ≡ length process_steps = omega (arith, same) in ap suc (many-calls ports process_steps lefts less)

-- the call that tells a port of the end
gone-ends : (reason : List ℕ) (number count : ℕ) → AllByRecursion (λ (a : Asked). (a.port == number) ≡ true → is_gone a.signal ≡ true) (gone_asks reason 0 count)
gone-ends reason number zero = tt
gone-ends reason number (suc count) = (λ same. refl, gone-ends reason number count)

-- the tasks of a process that makes no call for the port are its end alone
pub ends-alone : (number ports : ℕ) (steps : List Step) (files : List (List ℕ)) (oldest newest : List Receipt)
    → AllByRecursion (λ (s : Step). (content : List ℕ) → AllByRecursion (λ (a : Asked). (a.port == number) ≡ true → ⊥) (asks_of s.line s.act content)) steps
    → AreEnds (accepted number (reverse (made_asks ports steps files oldest)) newest)
ends-alone number ports steps files oldest newest none =
    let made = made_by steps files oldest in
    let gone = gone_asks (end_reason steps) 0 ports in
    subst (λ asks. AreEnds (accepted number asks newest)) (sym (made-newest ports steps files oldest))
    (tasks-all (λ s. is_gone s ≡ true) number (gone ++ made) newest
    (both _ gone made (gone-ends (end_reason steps) number ports)
    (weaker (λ (a : Asked). (a.port == number) ≡ true → ⊥) (λ (a : Asked). (a.port == number) ≡ true → is_gone a.signal ≡ true) made (λ a apart same. absurd (apart same))
    (steps-made (λ (a : Asked). (a.port == number) ≡ true → ⊥) steps files oldest none))))

-- an owner's calls for its port, and their receipts: commands, closes behind them, and then its end
pub record OwnerAsked (number ports : ℕ) (soft : List Bool) (own_steps : ProcessSteps) (left : ProcessLeft) : Type 0 where
  pub reason : List ℕ
  pub commands : List Asked
  pub closing : List Asked
  pub made_is : closing ++ commands ≡ made_by own_steps.steps.items own_steps.files.items left.receipts
  pub asks_are : (calls_of ports own_steps left).asks ≡ gone_asks reason 0 ports ++ (closing ++ commands)
  pub own : AllByRecursion (IsOwn number) commands
  pub close : AllByRecursion (IsCloseCall number) closing
  pub told : AtEnd number soft reason (closing ++ commands) (gone_asks reason 0 ports ++ (closing ++ commands)) (calls_of ports own_steps left).receipts
  pub behind : Behind number soft commands (closing ++ commands) told.rest

pub owner-asked : (number ports : ℕ) (soft : List Bool) (own_steps : ProcessSteps) (left : ProcessLeft) → number < ports → AreReceipts soft (calls_of ports own_steps left).asks (calls_of ports own_steps left).receipts
    → AllByRecursion (λ (s : Step). sends_to s.act ≡ Some number → (is_plain s.act || closes s.act) ≡ true) own_steps.steps.items → ClosesLast number own_steps.steps.items
    → OwnerAsked number ports soft own_steps left
owner-asked number ports soft own_steps left within are sent last =
    let steps = own_steps.steps.items in
    let files = own_steps.files.items in
    let reason = end_reason steps in
    let made = own-made number steps files left.receipts sent last in
    let newest : (calls_of ports own_steps left).asks ≡ gone_asks reason 0 ports ++ (made.closing ++ made.commands) =
    made-newest ports steps files left.receipts ∙ ap (λ asks. gone_asks reason 0 ports ++ asks) (sym made.are) in
    let told = at-end number soft reason (made.closing ++ made.commands) ports (reverse left.receipts) within (subst (λ asks. AreReceipts soft asks (reverse left.receipts)) newest are) in
    record {
      reason = reason;
      commands = made.commands;
      closing = made.closing;
      made_is = made.are;
      asks_are = newest;
      own = made.own;
      close = made.close;
      told = told;
      behind = behind number soft made.commands made.closing told.rest told.made_are made.close;
    }

-- those of the owner's tasks that close its port: its closes, and its end where that was put
abbrev pub closings_of : (number ports : ℕ) (soft : List Bool) (own_steps : ProcessSteps) (left : ProcessLeft) → OwnerAsked number ports soft own_steps left → List TaskView
closings_of number ports soft own_steps left asked = asked.behind.closings ++ cond (is_put asked.told.end.outcome) (task_of (gone_ask asked.reason number) asked.told.end.outcome ∷ []) []

-- the tasks of the owner: its commands, and then these
pub owner-tasks : (number ports : ℕ) (soft : List Bool) (own_steps : ProcessSteps) (left : ProcessLeft) (asked : OwnerAsked number ports soft own_steps left)
    → accepted number (calls_of ports own_steps left).asks (calls_of ports own_steps left).receipts ≡ accepted number asked.commands asked.behind.rest ++ closings_of number ports soft own_steps left asked
owner-tasks number ports soft own_steps left asked =
    let gone = cond (is_put asked.told.end.outcome) (task_of (gone_ask asked.reason number) asked.told.end.outcome ∷ []) [] in
    ap (λ asks. accepted number asks (calls_of ports own_steps left).receipts) asked.asks_are ∙ asked.told.tasks ∙ ap (λ tasks. tasks ++ gone) asked.behind.tasks
    ∙ append_assoc (accepted number asked.commands asked.behind.rest) asked.behind.closings gone

pub owner-commands : (number ports : ℕ) (soft : List Bool) (own_steps : ProcessSteps) (left : ProcessLeft) (asked : OwnerAsked number ports soft own_steps left)
    → AreCommands (accepted number asked.commands asked.behind.rest)
owner-commands number ports soft own_steps left asked = tasks-all (λ s. is_plain_command s ≡ true) number asked.commands asked.behind.rest
    (weaker (IsOwn number) (λ (a : Asked). (a.port == number) ≡ true → is_plain_command a.signal ≡ true) asked.commands (λ a own same. (own same).0) asked.own)

pub owner-closings : (number ports : ℕ) (soft : List Bool) (own_steps : ProcessSteps) (left : ProcessLeft) (asked : OwnerAsked number ports soft own_steps left) → AreClosings (closings_of number ports soft own_steps left asked)
owner-closings number ports soft own_steps left asked =
    both _ asked.behind.closings (cond (is_put asked.told.end.outcome) (task_of (gone_ask asked.reason number) asked.told.end.outcome ∷ []) []) asked.behind.closings_are (gone (is_put asked.told.end.outcome))
  where
    gone : (b : Bool) → AreClosings (cond b (task_of (gone_ask asked.reason number) asked.told.end.outcome ∷ []) [])
    gone true = (refl, tt)
    gone false = tt

-- so where no call for the port was refused before the first that closes it, each of its commands was put
pub owner-put : (number ports : ℕ) (soft : List Bool) (own_steps : ProcessSteps) (left : ProcessLeft) (asked : OwnerAsked number ports soft own_steps left)
    → AreReceipts soft (calls_of ports own_steps left).asks (calls_of ports own_steps left).receipts → ArePut number (calls_of ports own_steps left)
    → ArePutCommands number (calls_of ports own_steps left).asks (calls_of ports own_steps left).receipts
owner-put number ports soft own_steps left asked are put =
    let gone = gone_asks asked.reason 0 ports in
    let later = gone ++ asked.closing in
    let receipts = (calls_of ports own_steps left).receipts in
    let same : (calls_of ports own_steps left).asks ≡ later ++ asked.commands = asked.asks_are ∙ sym (append_assoc gone asked.closing asked.commands) in
    let closing = both (λ (a : Asked). (a.port == number) ≡ true → is_closing a.signal ≡ true) gone asked.closing
    (weaker (λ (a : Asked). (a.port == number) ≡ true → is_gone a.signal ≡ true) (λ (a : Asked). (a.port == number) ≡ true → is_closing a.signal ≡ true) gone
    (λ a ends for. gone-closing a.signal (ends for)) (gone-ends asked.reason number ports))
    (weaker (IsCloseCall number) (λ (a : Asked). (a.port == number) ≡ true → is_closing a.signal ≡ true) asked.closing (λ a close for. close-closing a.signal (close for)) asked.close) in
    subst (λ asks. ArePutCommands number asks receipts) (sym same)
    (put-commands number soft later asked.commands receipts closing asked.own (subst (λ asks. AreReceipts soft asks receipts) same are) (subst (λ asks. EachBeforeClose number is_put asks receipts) same put))
