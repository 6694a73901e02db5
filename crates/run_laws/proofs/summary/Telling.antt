-- What the calls of a process with plain steps put into a port's lane: commands, and the end of the process for the reason `normal`.
use Rattle.std.proofs.Common.{◌≡◌, ℕ, zero, suc, ◌+◌, ◌<◌, ◌≤◌, List, [], ◌∷◌, ◌++◌, length, Bool, true, false, cond, eqb, ◌&&◌, Option, Some, None, refl, sym, ap, ◌∙◌, subst, arith, ⊎_elim}
use Rattle.std.specs.Prelude.{codes, drop, reverse}
use Rattle.std.specs.List.{All}
use Rattle.std.proofs.lemmas.Bool.{cases_eq, eq-eqb, false≢true, ne_eqb}
use Rattle.std.proofs.lemmas.List.{append-nil, reverse-append, reverse-reverse}
use Rattle.std.proofs.lemmas.List.Elements.{All-append, All-cons, All-head, All-nil, All-push, All-tail}
use Rattle.run_output.specs.script_input.run_opening.run_end.port_words.busy.Stat.{tells_closed}
use Rattle.port_model.specs.declared.signal.Signal.{Signal}
use Rattle.port_model.specs.declared.signal.Signal.TheVariants.{Command as CommandSignal, Gone}
use Rattle.port_model.specs.declared.signal.Sender.TheVariants.{Process}
use Rattle.port_model.specs.Tasks.{TaskView}
use Rattle.run_output.specs.script_input.run_opening.run_end.process_receipts.declared.receipt.Outcome.{Outcome}
use Rattle.run_output.specs.script_input.run_opening.run_end.process_receipts.declared.receipt.Outcome.TheVariants.{Accepted, Suspended}
use Rattle.run_output.specs.script_input.run_opening.run_end.process_receipts.declared.receipt.Receipt.{Receipt}
use Rattle.run_output.specs.script_input.run_opening.run_end.process_receipts.Asks.{Asked, task_of}
use Rattle.run_output.specs.script_input.run_opening.run_end.process_receipts.Receipts.{AreReceipts, HasCause, accepted, is_put}
use Rattle.run_output.specs.script_input.run_opening.run_end.process_end.Ended.{gone_ask, gone_asks}
use Rattle.run_output.specs.script_input.run_opening.run_end.process_job.Asks.{asks_of, calls_of, end_reason, ends_file, files_after, made_asks, made_of, made_of_step, next_content, reason_of}
use Rattle.run_output.specs.script_input.run_opening.run_end.process_job.Waits.{ShowsClosed, last_receipt, stat_shown}
use Rattle.script_plan.specs.declared.step.Step.{Step}
use Rattle.script_plan.specs.declared.step.Act.{Act}
use Rattle.script_plan.specs.declared.step.Act.TheVariants.{Command, Expect}
use Rattle.command_counts.specs.Rows.{IsQuiet}
use Rattle.run_laws.proofs.summary.Asking.{IsPlain, stays-alive}

-- the signal is a command that isn't in the owner's form, or tells the end for the reason `normal`
abbrev pub IsCommand : Signal → Type 0
IsCommand (CommandSignal payload) = Unit {0}
IsCommand signal = ⊥

abbrev pub IsMild : Signal → Type 0
IsMild (CommandSignal payload) = Unit {0}
IsMild (Gone reason) = reason ≡ codes "normal"
IsMild signal = ⊥

mild : (signal : Signal) → IsCommand signal → IsMild signal
mild (CommandSignal payload) is = tt
mild signal is = absurd is

pub commands-quiet : (owner process : ℕ) (signal : Signal) → IsCommand signal → IsQuiet owner (Process process) signal
commands-quiet owner process (CommandSignal payload) is = tt
commands-quiet owner process signal is = absurd is

pub mild-quiet : (owner process : ℕ) (signal : Signal) → eqb process owner ≡ false → IsMild signal → IsQuiet owner (Process process) signal
mild-quiet owner process (CommandSignal payload) apart is = tt
mild-quiet owner process (Gone reason) apart is = (apart, rw is refl)
mild-quiet owner process signal apart is = absurd is

abbrev AsksAre : (Signal → Type 0) → List Asked → Type 0
AsksAre P asks = All (λ (a : Asked). P a.signal) asks

abbrev TasksAre : (Signal → Type 0) → List TaskView → Type 0
TasksAre P tasks = All (λ (t : TaskView). P t.signal) tasks

-- the calls of plain steps are commands
step-commands : (line : ℕ) (act : Act) (content : List ℕ) → IsPlain act → AsksAre IsCommand (asks_of line act content)
step-commands line (Command port bytes false false) content plain = All-cons (λ (a : Asked). IsCommand a.signal) _ [] tt (All-nil (λ (a : Asked). IsCommand a.signal))
step-commands line (Command port bytes true nosuspend) content plain = absurd plain
step-commands line (Command port bytes false true) content plain = absurd plain
step-commands line (Expect port count) content plain = All-nil (λ (a : Asked). IsCommand a.signal)
step-commands line act content plain = absurd plain

made-are : (P : Signal → Type 0) (asks : List Asked) (receipts : List Receipt) → AsksAre P asks → AsksAre P (made_of_step asks receipts)
made-are P [] receipts are = are
made-are P (ask ∷ asks) [] are = All-nil (λ (a : Asked). P a.signal)
made-are P (ask ∷ asks) (receipt ∷ receipts) are =
    All-cons (λ (a : Asked). P a.signal) ask (cond (ends_file receipt.outcome) [] (made_of_step asks receipts)) (All-head (λ (a : Asked). P a.signal) ask asks are)
    (go (ends_file receipt.outcome) (made-are P asks receipts (All-tail (λ (a : Asked). P a.signal) ask asks are)))
  where
    go : (b : Bool) → AsksAre P (made_of_step asks receipts) → AsksAre P (cond b [] (made_of_step asks receipts))
    go true rest = All-nil (λ (a : Asked). P a.signal)
    go false rest = rest

pub made-commands : (steps : List Step) (files : List (List ℕ)) (receipts : List Receipt) → All (λ s. IsPlain s.act) steps → AsksAre IsCommand (made_of (calls_of steps files) receipts)
made-commands [] files receipts plain = All-nil (λ (a : Asked). IsCommand a.signal)
made-commands (step ∷ steps) files receipts plain =
    let own = All-head (λ (s : Step). IsPlain s.act) step steps plain in
    let asks = asks_of step.line step.act (next_content files) in
    let later = files_after step.act files in
    let rest = drop (length (made_of_step asks receipts)) receipts in
    subst (λ b. AsksAre IsCommand (made_of (cond b [] (asks ∷ calls_of steps later)) receipts)) (sym (stays-alive step.act own))
    (All-append (λ (a : Asked). IsCommand a.signal) (made_of_step asks receipts) (made_of (calls_of steps later) rest)
    (made-are IsCommand asks receipts (step-commands step.line step.act (next_content files) own))
    (made-commands steps later rest (All-tail (λ (s : Step). IsPlain s.act) step steps plain)))

-- they end for the reason `normal`
pub ends-normal : (steps : List Step) → All (λ s. IsPlain s.act) steps → end_reason steps ≡ codes "normal"
ends-normal [] plain = refl
ends-normal (step ∷ steps) plain = later step.act (All-head (λ (s : Step). IsPlain s.act) step steps plain) ∙ ends-normal steps (All-tail (λ (s : Step). IsPlain s.act) step steps plain)
  where
    later : (act : Act) → IsPlain act → reason_of act (end_reason steps) ≡ end_reason steps
    later (Command port bytes force nosuspend) is = refl
    later (Expect port count) is = refl
    later act is = absurd is

gone-mild : (reason : List ℕ) (from count : ℕ) → reason ≡ codes "normal" → AsksAre IsMild (gone_asks reason from count)
gone-mild reason from zero normal = All-nil (λ (a : Asked). IsMild a.signal)
gone-mild reason from (suc count) normal = All-cons (λ (a : Asked). IsMild a.signal) (gone_ask reason (from + count)) (gone_asks reason from count) normal (gone-mild reason from count normal)

pub All-reversed : {X : Type 0} (P : X → Type 0) (xs : List X) → All P xs → All P (reverse xs)
All-reversed P [] all = all
All-reversed P (x ∷ xs) all = subst (All P) (sym (reverse-append (x ∷ []) xs)) (All-push P (reverse xs) x (All-reversed P xs (All-tail P x xs all)) (All-head P x xs all))

-- all calls, newest first: those that tell the end, and the commands before them
pub calls-parts : (ports : ℕ) (steps : List Step) (files : List (List ℕ)) (receipts : List Receipt)
    → reverse (made_asks ports steps files receipts) ≡ gone_asks (end_reason steps) 0 ports ++ reverse (made_of (calls_of steps files) receipts)
calls-parts ports steps files receipts =
    reverse-append (made_of (calls_of steps files) receipts) (reverse (gone_asks (end_reason steps) 0 ports))
    ∙ ap (λ l. l ++ reverse (made_of (calls_of steps files) receipts)) (reverse-reverse (gone_asks (end_reason steps) 0 ports))

pub calls-mild : (ports : ℕ) (steps : List Step) (files : List (List ℕ)) (receipts : List Receipt) → All (λ s. IsPlain s.act) steps → AsksAre IsMild (reverse (made_asks ports steps files receipts))
calls-mild ports steps files receipts plain =
    let made = made_of (calls_of steps files) receipts in
    subst (AsksAre IsMild) (sym (calls-parts ports steps files receipts))
    (All-append (λ (a : Asked). IsMild a.signal) (gone_asks (end_reason steps) 0 ports) (reverse made) (gone-mild (end_reason steps) 0 ports (ends-normal steps plain))
    (All-reversed (λ (a : Asked). IsMild a.signal) made (weaker made (made-commands steps files receipts plain))))
  where
    weaker : (asks : List Asked) → AsksAre IsCommand asks → AsksAre IsMild asks
    weaker asks are k d below = mild _ (are k d below)

-- what holds of all calls holds of the tasks that were put
pub put-are : (P : Signal → Type 0) (port : ℕ) (asks : List Asked) (receipts : List Receipt) → AsksAre P asks → TasksAre P (accepted port asks receipts)
put-are P port [] receipts are = All-nil (λ (t : TaskView). P t.signal)
put-are P port (ask ∷ asks) [] are = All-nil (λ (t : TaskView). P t.signal)
put-are P port (ask ∷ asks) (receipt ∷ receipts) are =
    All-append (λ (t : TaskView). P t.signal) (accepted port asks receipts) (cond (eqb ask.port port && is_put receipt.outcome) (task_of ask receipt.outcome ∷ []) [])
    (put-are P port asks receipts (All-tail (λ (a : Asked). P a.signal) ask asks are)) (go (eqb ask.port port && is_put receipt.outcome))
  where
    go : (b : Bool) → TasksAre P (cond b (task_of ask receipt.outcome ∷ []) [])
    go true = All-cons (λ (t : TaskView). P t.signal) (task_of ask receipt.outcome) [] (All-head (λ (a : Asked). P a.signal) ask asks are) (All-nil (λ (t : TaskView). P t.signal))
    go false = All-nil (λ (t : TaskView). P t.signal)

-- a call that tells the end, and whose receipt shows the port closed, put nothing
closed-unput : (calls : ℕ) (soft : Bool) (reason : List ℕ) (port : ℕ) (outcome : Outcome) (stat msgq : Option ℕ) (s : ℕ) → HasCause calls soft (gone_ask reason port) outcome stat msgq → stat ≡ Some s → tells_closed s ≡ true
    → is_put outcome ≡ false
closed-unput calls soft reason port Accepted (Some stat) None s cause is closed = absurd (false≢true (sym cause.0.opened ∙ ap tells_closed (some-same stat s is) ∙ closed))
  where
    some-same : (a b : ℕ) → Some a ≡ Some b → a ≡ b
    some-same a b e = cc
closed-unput calls soft reason port Accepted (Some stat) (Some msgq) s cause is closed = absurd (let no = cause.1 in cc)
closed-unput calls soft reason port Accepted None (Some msgq) s cause is closed = absurd cause
closed-unput calls soft reason port Accepted None None s cause is closed = absurd cause
closed-unput calls soft reason port Suspended (Some stat) (Some msgq) s cause is closed = absurd (let no = cause.1 in cc)
closed-unput calls soft reason port Suspended (Some stat) None s cause is closed = absurd cause
closed-unput calls soft reason port Suspended None msgq s cause is closed = absurd cause
closed-unput calls soft reason port outcome stat msgq s cause is closed = refl

-- where the last receipt for a port shows it closed, none of the calls that tell the end is put there
pub unput-commands : (port : ℕ) (soft : List Bool) (reason : List ℕ) (count : ℕ) (asks : List Asked) (receipts : List Receipt) → AreReceipts soft (gone_asks reason 0 count ++ asks) receipts
    → port < count → ShowsClosed port receipts → AsksAre IsCommand asks → TasksAre IsCommand (accepted port (gone_asks reason 0 count ++ asks) receipts)
unput-commands port soft reason zero asks receipts are below closed commands = absurd (omega (arith, below))
unput-commands port soft reason (suc count) asks [] are below closed commands = absurd are
unput-commands port soft reason (suc count) asks (receipt ∷ receipts) are below closed commands = ⊎_elim
    (λ (here : 0 + count ≡ port).
    let last : last_receipt port (receipt ∷ receipts) ≡ Some receipt = ap (λ b. cond b (Some receipt) (last_receipt port receipts)) (eq-eqb receipt.port port (are.0.port ∙ here)) in
    let none = closed-unput _ _ reason (0 + count) receipt.outcome receipt.stat receipt.msgq closed.stat are.0.cause (sym (ap stat_shown last) ∙ closed.shown) closed.closed in
    drop-one (ap (λ b. eqb (0 + count) port && b) none ∙ and-false (eqb (0 + count) port)) (later-are count (let e : count ≤ port = omega (arith, here) in e) receipts are.1))
    (λ (apart : 0 + count ≡ port → ⊥).
    let differs : receipt.port ≡ port → ⊥ = λ e. apart (sym are.0.port ∙ e) in
    let last : last_receipt port (receipt ∷ receipts) ≡ last_receipt port receipts = ap (λ b. cond b (Some receipt) (last_receipt port receipts)) (ne_eqb receipt.port port differs) in
    drop-one (ap (λ b. b && is_put receipt.outcome) (ne_eqb (0 + count) port apart))
    (unput-commands port soft reason count asks receipts are.1 (let e : port < count = omega (arith, below, apart) in e)
    (record { stat = closed.stat; shown = sym (ap stat_shown last) ∙ closed.shown; closed = closed.closed }) commands))
    (cases_eq (0 + count) port)
  where
    and-false : (b : Bool) → (b && false) ≡ false
    and-false true = refl
    and-false false = refl

    drop-one : (eqb (0 + count) port && is_put receipt.outcome) ≡ false → TasksAre IsCommand (accepted port (gone_asks reason 0 count ++ asks) receipts)
        → TasksAre IsCommand (accepted port (gone_asks reason 0 (suc count) ++ asks) (receipt ∷ receipts))
    drop-one none tasks = subst (λ b. TasksAre IsCommand (accepted port (gone_asks reason 0 count ++ asks) receipts ++ cond b (task_of (gone_ask reason (0 + count)) receipt.outcome ∷ []) [])) (sym none)
        (subst (TasksAre IsCommand) (sym (append-nil (accepted port (gone_asks reason 0 count ++ asks) receipts))) tasks)

    -- ports below this one are told by other calls
    later-are : (n : ℕ) → n ≤ port → (rest : List Receipt) → AreReceipts soft (gone_asks reason 0 n ++ asks) rest → TasksAre IsCommand (accepted port (gone_asks reason 0 n ++ asks) rest)
    later-are zero past rest all = put-are IsCommand port asks rest commands
    later-are (suc n) past [] all = All-nil (λ (t : TaskView). IsCommand t.signal)
    later-are (suc n) past (r ∷ rest) all =
        subst (λ b. TasksAre IsCommand (accepted port (gone_asks reason 0 n ++ asks) rest ++ cond (b && is_put r.outcome) (task_of (gone_ask reason (0 + n)) r.outcome ∷ []) []))
        (sym (ne_eqb (0 + n) port (λ e. absurd (omega (arith, e, past)))))
        (subst (TasksAre IsCommand) (sym (append-nil (accepted port (gone_asks reason 0 n ++ asks) rest))) (later-are n (omega (arith, past)) rest all.1))
