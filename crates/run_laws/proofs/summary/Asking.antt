-- The calls of a process that sends plain commands and waits: which of its steps they come from, and which of them were put.
use Rattle.std.proofs.Common.{◌≡◌, ℕ, zero, suc, ◌+◌, List, [], ◌∷◌, ◌++◌, length, Bool, true, false, cond, eqb, ◌&&◌, refl, ap, ◌∙◌, arith}
use Rattle.std.specs.Prelude.{drop, reverse}
use Rattle.std.specs.List.{All, sum_by}
use Rattle.std.proofs.lemmas.List.{append-nil, reverse-append}
use Rattle.std.proofs.lemmas.List.Elements.{All-head, All-tail}
use Rattle.std.proofs.lemmas.List.Sums.{sum_by-append, sum_by-cons}
use Rattle.port_model.specs.declared.signal.Signal.{Signal}
use Rattle.port_model.specs.declared.signal.Signal.TheVariants.{Command as CommandSignal}
use Rattle.port_model.specs.Signals.{data_size, is_command}
use Rattle.port_model.specs.Tasks.{TaskView}
use Rattle.run_output.specs.script_input.run_opening.run_end.process_receipts.declared.receipt.Receipt.{Receipt}
use Rattle.run_output.specs.script_input.run_opening.run_end.process_receipts.Asks.{Asked, task_of}
use Rattle.run_output.specs.script_input.run_opening.run_end.process_receipts.Receipts.{accepted, is_put}
use Rattle.run_output.specs.script_input.run_opening.run_end.process_end.Ended.{gone_asks}
use Rattle.run_output.specs.script_input.run_opening.run_end.process_job.Asks.{vector_of, asks_of, calls_of, end_reason, ends_file, files_after, made_asks, made_of, made_of_step, next_content}
use Rattle.script_plan.specs.declared.step.Step.{Step}
use Rattle.script_plan.specs.declared.step.Act.{Act}
use Rattle.script_plan.specs.declared.step.Act.TheVariants.{Command, Expect}
use Rattle.script_plan.specs.Monitors.{is_die}
use Rattle.script_load.specs.Load.{commands_to, goes_to}
use Rattle.command_counts.specs.Rows.{command_size, one_command}
use Rattle.run_laws.specs.Summary.{bytes_to, command_bytes}
use Rattle.run_laws.proofs.summary.Sums.{IsBelow, below-add, below-same}

-- the sum of a number of each of these calls to a port
abbrev pub asks_sum : ℕ → (Signal → ℕ) → List Asked → ℕ
asks_sum port f [] = 0
asks_sum port f (ask ∷ asks) = asks_sum port f asks + cond (eqb ask.port port) (f ask.signal) 0

-- the same of tasks
abbrev pub tasks_sum : (Signal → ℕ) → List TaskView → ℕ
tasks_sum f tasks = sum_by (λ t. f t.signal) tasks

asks-append : (port : ℕ) (f : Signal → ℕ) (xs ys : List Asked) → asks_sum port f (xs ++ ys) ≡ asks_sum port f xs + asks_sum port f ys
asks-append port f [] ys = omega arith
asks-append port f (x ∷ xs) ys = let rest = asks-append port f xs ys in omega (arith, rest)

asks-reverse : (port : ℕ) (f : Signal → ℕ) (xs : List Asked) → asks_sum port f (reverse xs) ≡ asks_sum port f xs
asks-reverse port f [] = refl
asks-reverse port f (x ∷ xs) =
    let rest = asks-reverse port f xs in
    let parts = asks-append port f (reverse xs) (x ∷ []) in
    let turned : asks_sum port f (reverse (x ∷ xs)) ≡ asks_sum port f (reverse xs ++ x ∷ []) = ap (asks_sum port f) (reverse-append (x ∷ []) xs) in
    omega (arith, rest, parts, turned)

-- a call weighs what its signal weighs, or nothing
none-below : (b : Bool) (n : ℕ) → IsBelow 0 0 (cond b 1 0) (cond b n 0)
none-below true n = record { few = omega arith; same = λ e. absurd (omega (arith, e)) }
none-below false n = below-same 0 0

one-below : (port : ℕ) (ask : Asked) (b : Bool) → IsBelow 0 0 (cond b (one_command ask.signal) 0) (cond b (command_size ask.signal) 0)
one-below port ask true = none-below (is_command ask.signal) (data_size ask.signal)
one-below port ask false = below-same 0 0

unasked : (port : ℕ) (asks : List Asked) → IsBelow 0 0 (asks_sum port one_command asks) (asks_sum port command_size asks)
unasked port [] = below-same 0 0
unasked port (ask ∷ asks) =
    below-add 0 0 (asks_sum port one_command asks) (asks_sum port command_size asks) 0 0 (cond (eqb ask.port port) (one_command ask.signal) 0) (cond (eqb ask.port port) (command_size ask.signal) 0)
    (unasked port asks) (one-below port ask (eqb ask.port port))

put-sum : (f : Signal → ℕ) (tasks : List TaskView) (ask : Asked) (receipt : Receipt) (b : Bool)
    → tasks_sum f (tasks ++ cond b (task_of ask receipt.outcome ∷ []) []) ≡ tasks_sum f tasks + cond b (f ask.signal) 0
put-sum f tasks ask receipt true = sum_by-append (λ t. f t.signal) tasks (task_of ask receipt.outcome ∷ []) ∙ ap (λ n. tasks_sum f tasks + n) (sum_by-cons (λ t. f t.signal) (task_of ask receipt.outcome) [])
    ∙ (let e : tasks_sum f tasks + (f ask.signal + 0) ≡ tasks_sum f tasks + f ask.signal = omega arith in e)
put-sum f tasks ask receipt false = ap (tasks_sum f) (append-nil tasks) ∙ (let e : tasks_sum f tasks ≡ tasks_sum f tasks + 0 = omega arith in e)

put-below : (ask : Asked) (here put : Bool)
    → IsBelow (cond (here && put) (one_command ask.signal) 0) (cond (here && put) (command_size ask.signal) 0) (cond here (one_command ask.signal) 0) (cond here (command_size ask.signal) 0)
put-below ask true true = below-same (one_command ask.signal) (command_size ask.signal)
put-below ask true false = none-below (is_command ask.signal) (data_size ask.signal)
put-below ask false put = below-same 0 0

-- the commands that were put into a port's lane are among those that were asked
pub accepted-below : (port : ℕ) (asks : List Asked) (receipts : List Receipt)
    → IsBelow (tasks_sum one_command (accepted port asks receipts)) (tasks_sum command_size (accepted port asks receipts)) (asks_sum port one_command asks) (asks_sum port command_size asks)
accepted-below port [] receipts = below-same 0 0
accepted-below port (ask ∷ asks) [] = unasked port (ask ∷ asks)
accepted-below port (ask ∷ asks) (receipt ∷ receipts) =
    let b = eqb ask.port port && is_put receipt.outcome in
    let tasks = accepted port asks receipts in
    let one = put-sum one_command tasks ask receipt b in
    let size = put-sum command_size tasks ask receipt b in
    let below = below-add (tasks_sum one_command tasks) (tasks_sum command_size tasks) (asks_sum port one_command asks) (asks_sum port command_size asks)
    (cond b (one_command ask.signal) 0) (cond b (command_size ask.signal) 0) (cond (eqb ask.port port) (one_command ask.signal) 0) (cond (eqb ask.port port) (command_size ask.signal) 0)
    (accepted-below port asks receipts) (put-below ask (eqb ask.port port) (is_put receipt.outcome)) in
    let few = below.few in
    record { few = omega (arith, one, few); same = λ e. size ∙ below.same (omega (arith, one, e)) }

-- the step sends a plain command, or waits for messages
abbrev pub IsPlain : Act → Type 0
IsPlain (Command port bytes false false) = Unit {0}
IsPlain (Expect port count) = Unit {0}
IsPlain act = ⊥

pub stays-alive : (act : Act) → IsPlain act → is_die act ≡ false
stays-alive (Command port bytes force nosuspend) plain = refl
stays-alive (Expect port count) plain = refl
stays-alive act plain = absurd plain

vector-size : (bytes : List ℕ) → command_size (CommandSignal (vector_of bytes)) ≡ length bytes
vector-size [] = refl
vector-size (byte ∷ bytes) = ap length (append-nil (byte ∷ bytes))

none-first : (n : ℕ) → 0 + n ≡ n
none-first n = omega arith

-- the calls of a step weigh what the step does
step-sums : (port line : ℕ) (act : Act) (content : List ℕ) → IsPlain act
    → (asks_sum port one_command (asks_of line act content) ≡ cond (goes_to port act) 1 0) × (asks_sum port command_size (asks_of line act content) ≡ bytes_to port act)
step-sums port line (Command other bytes false false) content plain = (none-first (cond (eqb other port) 1 0), none-first (cond (eqb other port) (command_size (CommandSignal (vector_of bytes))) 0) ∙ ap (λ n. cond (eqb other port) n 0) (vector-size bytes))
step-sums port line (Command other bytes true nosuspend) content plain = absurd plain
step-sums port line (Command other bytes false true) content plain = absurd plain
step-sums port line (Expect other count) content plain = (refl, refl)
step-sums port line act content plain = absurd plain

-- those that were made of a step are among its calls
step-below : (port : ℕ) (asks : List Asked) (receipts : List Receipt)
    → IsBelow (asks_sum port one_command (made_of_step asks receipts)) (asks_sum port command_size (made_of_step asks receipts)) (asks_sum port one_command asks) (asks_sum port command_size asks)
step-below port [] receipts = below-same 0 0
step-below port (ask ∷ asks) [] = unasked port (ask ∷ asks)
step-below port (ask ∷ asks) (receipt ∷ receipts) = go (step-below port asks receipts) (ends_file receipt.outcome)
  where
    go : IsBelow (asks_sum port one_command (made_of_step asks receipts)) (asks_sum port command_size (made_of_step asks receipts)) (asks_sum port one_command asks) (asks_sum port command_size asks)
        → (b : Bool) → IsBelow (asks_sum port one_command (ask ∷ cond b [] (made_of_step asks receipts))) (asks_sum port command_size (ask ∷ cond b [] (made_of_step asks receipts)))
        (asks_sum port one_command (ask ∷ asks)) (asks_sum port command_size (ask ∷ asks))
    go rest true = below-add 0 0 (asks_sum port one_command asks) (asks_sum port command_size asks)
        (cond (eqb ask.port port) (one_command ask.signal) 0) (cond (eqb ask.port port) (command_size ask.signal) 0) (cond (eqb ask.port port) (one_command ask.signal) 0) (cond (eqb ask.port port) (command_size ask.signal) 0)
        (unasked port asks) (below-same (cond (eqb ask.port port) (one_command ask.signal) 0) (cond (eqb ask.port port) (command_size ask.signal) 0))
    go rest false = below-add (asks_sum port one_command (made_of_step asks receipts)) (asks_sum port command_size (made_of_step asks receipts)) (asks_sum port one_command asks) (asks_sum port command_size asks)
        (cond (eqb ask.port port) (one_command ask.signal) 0) (cond (eqb ask.port port) (command_size ask.signal) 0) (cond (eqb ask.port port) (one_command ask.signal) 0) (cond (eqb ask.port port) (command_size ask.signal) 0)
        rest (below-same (cond (eqb ask.port port) (one_command ask.signal) 0) (cond (eqb ask.port port) (command_size ask.signal) 0))

-- the commands that were made by plain steps are among those of the steps
made-below : (port : ℕ) (steps : List Step) (files : List (List ℕ)) (receipts : List Receipt) → All (λ s. IsPlain s.act) steps
    → IsBelow (asks_sum port one_command (made_of (calls_of steps files) receipts)) (asks_sum port command_size (made_of (calls_of steps files) receipts)) (commands_to port steps) (command_bytes port steps)
made-below port [] files receipts plain = below-same 0 0
made-below port (step ∷ steps) files receipts plain =
    let own = All-head (λ (s : Step). IsPlain s.act) step steps plain in
    let asks = asks_of step.line step.act (next_content files) in
    let later = files_after step.act files in
    let rest = drop (length (made_of_step asks receipts)) receipts in
    let made = made_of_step asks receipts in
    let others = made_of (calls_of steps later) rest in
    let sums = step-sums port step.line step.act (next_content files) own in
    let alive : made_of (calls_of (step ∷ steps) files) receipts ≡ made ++ others = ap (λ b. made_of (cond b [] (asks ∷ calls_of steps later)) receipts) (stays-alive step.act own) in
    let here = step-below port asks receipts in
    let behind = made-below port steps later rest (All-tail (λ (s : Step). IsPlain s.act) step steps plain) in
    let below = below-add _ _ _ _ _ _ _ _ here behind in
    let few = below.few in
    let ones = ap (asks_sum port one_command) alive ∙ asks-append port one_command made others in
    let sizes = ap (asks_sum port command_size) alive ∙ asks-append port command_size made others in
    let count : commands_to port (step ∷ steps) ≡ cond (goes_to port step.act) 1 0 + commands_to port steps = sum_by-cons (λ (s : Step). cond (goes_to port s.act) 1 0) step steps in
    let bytes : command_bytes port (step ∷ steps) ≡ bytes_to port step.act + command_bytes port steps = sum_by-cons (λ (s : Step). bytes_to port s.act) step steps in
    let one = sums.0 in
    let size = sums.1 in
    record {
      few = omega (arith, few, ones, count, one);
      same = λ e. let all = below.same (omega (arith, e, ones, count, one)) in omega (arith, all, sizes, bytes, size);
    }

-- who tells its end sends no command by it
gone-sum : (port : ℕ) (reason : List ℕ) (from count : ℕ) → (asks_sum port one_command (gone_asks reason from count) ≡ 0) × (asks_sum port command_size (gone_asks reason from count) ≡ 0)
gone-sum port reason from zero = (refl, refl)
gone-sum port reason from (suc count) =
    let rest = gone-sum port reason from count in
    let none = none-either (eqb (from + count) port) in
    let one = rest.0 in
    let size = rest.1 in (omega (arith, one, none), omega (arith, size, none))
  where
    none-either : (b : Bool) → ◌≡◌ {A = ℕ} (cond b 0 0) 0
    none-either true = refl
    none-either false = refl

-- all calls of a process with plain steps, newest first
pub asked-below : (port ports : ℕ) (steps : List Step) (files : List (List ℕ)) (receipts : List Receipt) → All (λ s. IsPlain s.act) steps
    → IsBelow (asks_sum port one_command (reverse (made_asks ports steps files receipts))) (asks_sum port command_size (reverse (made_asks ports steps files receipts))) (commands_to port steps) (command_bytes port steps)
asked-below port ports steps files receipts plain =
    let made = made_of (calls_of steps files) receipts in
    let gone = gone_asks (end_reason steps) 0 ports in
    let below = made-below port steps files receipts plain in
    let none = gone-sum port (end_reason steps) 0 ports in
    let sum : (f : Signal → ℕ) → asks_sum port f (reverse (made ++ reverse gone)) ≡ asks_sum port f made + asks_sum port f gone
    = λ f. asks-reverse port f (made ++ reverse gone) ∙ asks-append port f made (reverse gone) ∙ ap (λ n. asks_sum port f made + n) (asks-reverse port f gone) in
    let ones = sum one_command in
    let sizes = sum command_size in
    let few = below.few in
    let one = none.0 in
    let size = none.1 in
    record {
      few = omega (arith, few, ones, one);
      same = λ e. let all = below.same (omega (arith, e, ones, one)) in omega (arith, all, sizes, size);
    }
