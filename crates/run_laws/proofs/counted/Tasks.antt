-- How many commands a process put, counted in the rows of a port and in its receipts.
use Rattle.std.proofs.Common.{arith, ◌≡◌, ℕ, ◌+◌, ◌<◌, List, [], ◌∷◌, ◌++◌, reverse, Bool, true, false, ◌&&◌, eqb, cond, refl, sym, ap, ◌∙◌, inl, inr, ◌⊎◌}
use Rattle.std.specs.Prelude.{count_by}
use Rattle.std.specs.List.{AllByRecursion}
use Rattle.std.proofs.lemmas.Bool.{cases_Bool, eq-eqb, eqb-true, true≢false}
use Rattle.std.proofs.lemmas.List.{reverse-append}
use Rattle.std.proofs.lemmas.List.Sums.{sum_by-append, sum_by-cons}
use Rattle.port_history.specs.Opening.{is_process}
use Rattle.port_model.specs.Signals.{is_command}
use Rattle.port_model.specs.Tasks.{TaskView}
use Rattle.port_model.specs.declared.row.Row.{Row}
use Rattle.port_model.specs.declared.row.Row.TheVariants.{Handled, Late, Listed, Resumed, Mark}
use Rattle.port_model.specs.declared.signal.Sender.{Sender}
use Rattle.port_model.specs.declared.signal.Sender.TheVariants.{Process, Poller, Worker, Timer}
use Rattle.process_receipts.specs.Asks.{Asked, task_of}
use Rattle.process_receipts.specs.Receipts.{accepted, is_put, task_put}
use Rattle.process_receipts.specs.declared.receipt.Receipt.{Receipt}
use Rattle.run_output.specs.script_run.run_opening.port_body.LanePort.{rows_from, task_from}
use Rattle.run_report.specs.Processes.{is_command_of}
use Rattle.run_laws.specs.Counted.{commands_put}
use Rattle.run_laws.proofs.counted.Totals.{at_place, total, total-at, total-both, total-none, total-same}

-- the tasks that are commands
abbrev pub is_command_task : TaskView → Bool
is_command_task task = is_command task.signal

abbrev one : Bool → ℕ
one b = cond b 1 0

pub count-reversed : {X : Type 0} (p : X → Bool) (xs : List X) → count_by p (reverse xs) ≡ count_by p xs
count-reversed p [] = refl
count-reversed p (x ∷ xs) =
    let rest = count-reversed p xs in
    let turned : count_by p (reverse (x ∷ xs)) ≡ count_by p (reverse xs ++ x ∷ []) = ap (count_by p) (reverse-append (x ∷ []) xs) in
    let parts = sum_by-append (λ y. one (p y)) (reverse xs) (x ∷ []) in
    let last = sum_by-cons (λ y. one (p y)) x [] in
    let all = sum_by-cons (λ y. one (p y)) x xs in
    omega (arith, rest, turned, parts, last, all)

-- an element that is there or not
chosen : {X : Type 0} (p : X → Bool) (b : Bool) (x : X) → count_by p (cond b (x ∷ []) []) ≡ one (p x && b)
chosen p true x =
    let last = sum_by-cons (λ y. one (p y)) x [] in
    let same : one (p x) ≡ one (p x && true) = kept (p x) in
    omega (arith, last, same)
  where
    kept : (c : Bool) → one c ≡ one (c && true)
    kept true = refl
    kept false = refl
chosen p false x = none (p x) where
  none : (c : Bool) → 0 ≡ one (c && false)
  none true = refl
  none false = refl

turned-round : (a b : ℕ) → eqb a b ≡ eqb b a
turned-round a b = at (cases_Bool (eqb a b)) (cases_Bool (eqb b a)) where
  at : (eqb a b ≡ true) ⊎ (eqb a b ≡ false) → (eqb b a ≡ true) ⊎ (eqb b a ≡ false) → eqb a b ≡ eqb b a
  at (inl e) other = e ∙ sym (eq-eqb b a (sym (eqb-true a b e)))
  at (inr e) (inl f) = absurd (true≢false (sym (eq-eqb a b (sym (eqb-true b a f))) ∙ e))
  at (inr e) (inr f) = e ∙ sym f

row-is : (s : ℕ) (from : Sender) (task : TaskView) → count_by is_command_task (task_from (Process s) from task) ≡ one (is_command task.signal && is_process s from)
row-is s (Process o) task = chosen is_command_task (eqb s o) task ∙ ap (λ (b : Bool). one (is_command task.signal && b)) (turned-round s o)
row-is s Poller task = chosen is_command_task false task
row-is s (Worker worker) task = chosen is_command_task false task
row-is s Timer task = chosen is_command_task false task

rows-more : (s : ℕ) (from : Sender) (task : TaskView) (row : Row) (older : List Row) → one (is_command_of s row) ≡ one (is_command task.signal && is_process s from)
    → count_by (is_command_of s) older ≡ count_by is_command_task (rows_from (Process s) older)
    → count_by (is_command_of s) (row ∷ older) ≡ count_by is_command_task (rows_from (Process s) older ++ task_from (Process s) from task)
rows-more s from task row older same rest =
    let f : TaskView → ℕ = λ t. one (is_command_task t) in
    let g : Row → ℕ = λ r. one (is_command_of s r) in
    let cons = sum_by-cons g row older in
    let parts = sum_by-append f (rows_from (Process s) older) (task_from (Process s) from task) in
    let last = row-is s from task in
    omega (arith, same, rest, cons, parts, last)

rows-other : (s : ℕ) (row : Row) (older : List Row) → is_command_of s row ≡ false → count_by (is_command_of s) older ≡ count_by is_command_task (rows_from (Process s) older)
    → count_by (is_command_of s) (row ∷ older) ≡ count_by is_command_task (rows_from (Process s) older)
rows-other s row older none rest =
    let cons = sum_by-cons (λ r. one (is_command_of s r)) row older in
    let here : one (is_command_of s row) ≡ 0 = ap (λ (b : Bool). one b) none in
    omega (arith, cons, here, rest)

-- the commands of a process that have a row are those among its tasks that have one
pub rows-count : (s : ℕ) (history : List Row) → count_by (is_command_of s) history ≡ count_by is_command_task (rows_from (Process s) history)
rows-count s [] = refl
rows-count s (Handled from seq task outside effects ∷ older) = rows-more s from task (Handled from seq task outside effects) older refl (rows-count s older)
rows-count s (Late from seq task ∷ older) = rows-more s from task (Late from seq task) older refl (rows-count s older)
rows-count s (Listed from seq ∷ older) = rows-other s (Listed from seq) older refl (rows-count s older)
rows-count s (Resumed from seq word ∷ older) = rows-other s (Resumed from seq word) older refl (rows-count s older)
rows-count s (Mark kind ∷ older) = rows-other s (Mark kind) older refl (rows-count s older)

-- a command of the process goes to one of so many ports
abbrev pub IsToPort : ℕ → Asked → Type 0
IsToPort ports ask = is_command ask.signal ≡ true → ask.port < ports

-- of a call the port that it names has its command, and no other
put-at : (ask : Asked) (receipt : Receipt) (k : ℕ) → count_by is_command_task (task_put k ask receipt) ≡ at_place ask.port (one (is_command ask.signal && is_put receipt.outcome)) k
put-at ask receipt k = chosen is_command_task (eqb ask.port k && is_put receipt.outcome) (task_of ask receipt.outcome) ∙ parted (is_command ask.signal) (eqb ask.port k) (is_put receipt.outcome) where
  parted : (a b c : Bool) → one (a && (b && c)) ≡ cond b (one (a && c)) 0
  parted true true c = refl
  parted true false c = refl
  parted false true c = refl
  parted false false c = refl

put-total : (ports : ℕ) (ask : Asked) (receipt : Receipt) → IsToPort ports ask
    → total (λ k. count_by is_command_task (task_put k ask receipt)) 0 ports ≡ one (is_command ask.signal && is_put receipt.outcome)
put-total ports ask receipt to =
    total-same (λ k. count_by is_command_task (task_put k ask receipt)) (at_place ask.port (one (is_command ask.signal && is_put receipt.outcome))) (put-at ask receipt) 0 ports
    ∙ at (is_command ask.signal) refl
  where
    nothing : (b : Bool) → cond {A = ℕ} b 0 0 ≡ 0
    nothing true = refl
    nothing false = refl

    at : (b : Bool) → is_command ask.signal ≡ b → total (at_place ask.port (one (b && is_put receipt.outcome))) 0 ports ≡ one (b && is_put receipt.outcome)
    at true is =
        let within = to is in
        total-at ask.port (one (is_put receipt.outcome)) 0 ports (omega arith) (omega (arith, within))
    at false is = total-none (at_place ask.port 0) (λ k. nothing (eqb ask.port k)) 0 ports

-- over all ports, the commands among the tasks that the calls put are those that the receipts show put
pub accepted-total : (ports : ℕ) (asks : List Asked) (receipts : List Receipt) → AllByRecursion (IsToPort ports) asks
    → total (λ k. count_by is_command_task (accepted k asks receipts)) 0 ports ≡ commands_put asks receipts
accepted-total ports [] receipts all = total-none (λ k. 0) (λ k. refl) 0 ports
accepted-total ports (ask ∷ asks) [] all = total-none (λ k. 0) (λ k. refl) 0 ports
accepted-total ports (ask ∷ asks) (receipt ∷ receipts) all =
    let older : ℕ → ℕ = λ k. count_by is_command_task (accepted k asks receipts) in
    let here : ℕ → ℕ = λ k. count_by is_command_task (task_put k ask receipt) in
    let parts = total-same (λ k. count_by is_command_task (accepted k (ask ∷ asks) (receipt ∷ receipts))) (λ k. older k + here k)
    (λ k. sum_by-append (λ t. one (is_command_task t)) (accepted k asks receipts) (task_put k ask receipt)) 0 ports in
    let both = total-both older here 0 ports in
    let rest = accepted-total ports asks receipts all.1 in
    let last = put-total ports ask receipt all.0 in
    omega (arith, parts, both, rest, last)
