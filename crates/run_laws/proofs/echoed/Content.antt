-- Where no command for a port is refused, what its owner's commands carry is all that its steps send.
use Rattle.std.proofs.Common.{◌≡◌, ℕ, ◌+◌, ◌==◌, ◌<◌, ◌≤◌, ◌&&◌, zero, suc, Bool, true, false, cond, List, [], ◌∷◌, ◌++◌, length, map, take, drop, refl, sym, ap, ◌∙◌, subst, arith, inl, inr, ◌⊎◌, ⊎_elim, append_assoc}
use Rattle.std.specs.Prelude.{reverse}
use Rattle.std.specs.List.{AllByRecursion, concat, flat_map}
use Rattle.std.proofs.lemmas.Bool.{eqb-true, eq-eqb, ne_eqb, cases_eq}
use Rattle.std.proofs.lemmas.List.{append-nil, length-drop, length-reverse, map-append, reverse-append, reverse-reverse, take-append-drop}
use Rattle.std.proofs.lemmas.List.Concat.{flat_map-append}
use Rattle.process_end.specs.Ended.{gone_ask, gone_asks}
use Rattle.run_output.specs.script_run.run_opening.run_end.process_job.Asks.{asks_of, calls_of, command_ask, end_reason, ends_file, files_after, how_of, made_asks, made_of, made_of_step, next_content, pieces, pieces_up_to, vector_of}
use Rattle.process_end.specs.process_receipts.Asks.{Asked, task_of}
use Rattle.echoed_history.specs.port_history.port_model.Tasks.{TaskView}
use Rattle.process_end.specs.process_receipts.Receipts.{AreReceipts, accepted, is_put, task_put}
use Rattle.process_end.specs.process_receipts.declared.receipt.Outcome.{Outcome}
use Rattle.process_end.specs.process_receipts.declared.receipt.Outcome.TheVariants as outcome
use Rattle.process_end.specs.process_receipts.declared.receipt.Receipt.{Receipt}
use Rattle.run_output.specs.script_run.run_opening.run_end.process_job.script_plan.declared.step.Step.{Step}
use Rattle.run_output.specs.script_run.run_opening.run_end.process_job.script_plan.declared.step.Act.{Act}
use Rattle.run_output.specs.script_run.run_opening.run_end.process_job.script_plan.declared.step.Act.TheVariants.{Command, File, Send, Control, Call, Close, Connect, SendClose, SendConnect, Link, Unlink, Monitor, Demonitor, Exit}
use Rattle.run_output.specs.script_run.run_opening.run_end.process_job.script_plan.Monitors.{is_die}
use Rattle.run_output.specs.script_run.run_opening.run_end.process_job.script_plan.Plan.{IsWithin}
use Rattle.echoed_history.specs.port_history.port_model.declared.signal.Signal.{Signal}
use Rattle.echoed_history.specs.port_history.port_model.declared.signal.Signal.TheVariants.{Command as CommandSignal}
use Rattle.echoed_history.specs.Commands.{command_data, is_closing, is_plain_command, task_data}
use Rattle.run_laws.specs.Echoed.{EachBeforeClose}
use Rattle.run_laws.specs.Sending.{all_sent_by, sent_by}
use Rattle.run_laws.proofs.echoed.Answered.{IsOwn, as-many, own-none}
use Rattle.run_laws.proofs.echoed.Asked.{made-newest, step-made}

-- the data of a call for the port
abbrev pub ask_data : ℕ → Asked → List ℕ
ask_data number ask = cond (ask.port == number) (command_data ask.signal) []

-- each of these calls that makes a command for the port put it
abbrev pub ArePutCommands : ℕ → List Asked → List Receipt → Type 0
ArePutCommands number [] receipts = Unit {0}
ArePutCommands number (ask ∷ asks) [] = Unit {0}
ArePutCommands number (ask ∷ asks) (r ∷ receipts) = ((ask.port == number) ≡ true → is_plain_command ask.signal ≡ true → is_put r.outcome ≡ true) × ArePutCommands number asks receipts

not-closing : (signal : Signal) → is_plain_command signal ≡ true → is_closing signal ≡ true → ⊥
not-closing (CommandSignal payload) is closing = absurd cc
not-closing signal is closing = absurd cc

own-put : (number : ℕ) (soft : List Bool) (commands : List Asked) (receipts : List Receipt) → AllByRecursion (IsOwn number) commands → AreReceipts soft commands receipts
    → EachBeforeClose number is_put commands receipts → ArePutCommands number commands receipts
own-put number soft [] receipts own are put = tt
own-put number soft (ask ∷ commands) [] own are put = tt
own-put number soft (ask ∷ commands) (r ∷ receipts) own are put = (
  λ same is. put.0 (are.0.port ∙ eqb-true ask.port number same) (own-none number (ask ∷ commands) own),
  own-put number soft commands receipts own.1 are.1 put.1,
)

-- so it is where each call before any that closes the port put its signal, and behind the commands stand calls alone that close it, or tell of the end
pub put-commands : (number : ℕ) (soft : List Bool) (later commands : List Asked) (receipts : List Receipt)
    → AllByRecursion (λ (a : Asked). (a.port == number) ≡ true → is_closing a.signal ≡ true) later → AllByRecursion (IsOwn number) commands → AreReceipts soft (later ++ commands) receipts
    → EachBeforeClose number is_put (later ++ commands) receipts → ArePutCommands number (later ++ commands) receipts
put-commands number soft [] commands receipts closing own are put = own-put number soft commands receipts own are put
put-commands number soft (ask ∷ later) commands [] closing own are put = tt
put-commands number soft (ask ∷ later) commands (r ∷ receipts) closing own are put =
    (λ same is. absurd (not-closing ask.signal is (closing.0 same)), put-commands number soft later commands receipts closing.1 own are.1 put.1)

-- the data of calls that stand newest first, oldest first
abbrev pub data_of : ℕ → List Asked → List ℕ
data_of number [] = []
data_of number (ask ∷ asks) = data_of number asks ++ ask_data number ask

no-command : (signal : Signal) → is_plain_command signal ≡ false → command_data signal ≡ []
no-command (CommandSignal payload) is = absurd cc
no-command signal is = refl

put-data : (number : ℕ) (ask : Asked) (receipt : Receipt) → ((ask.port == number) ≡ true → is_plain_command ask.signal ≡ true → is_put receipt.outcome ≡ true)
    → flat_map task_data (task_put number ask receipt) ≡ ask_data number ask
put-data number ask receipt put = by (ask.port == number) (is_plain_command ask.signal) refl refl
  where
    task : List TaskView
    task = task_of ask receipt.outcome ∷ []

    none : (p : Bool) → command_data ask.signal ≡ [] → flat_map task_data (cond p task []) ≡ command_data ask.signal
    none true empty = append-nil (command_data ask.signal)
    none false empty = sym empty

    by : (b c : Bool) → (ask.port == number) ≡ b → is_plain_command ask.signal ≡ c → flat_map task_data (cond (b && is_put receipt.outcome) task []) ≡ cond b (command_data ask.signal) []
    by true true same is = ap (λ p. flat_map task_data (cond p task [])) (put same is) ∙ append-nil (command_data ask.signal)
    by true false same is = none (is_put receipt.outcome) (no-command ask.signal is)
    by false c same is = refl

-- what was put for the port is the data of all calls
pub accepted-data : (number : ℕ) (soft : List Bool) (asks : List Asked) (receipts : List Receipt) → AreReceipts soft asks receipts → ArePutCommands number asks receipts
    → flat_map task_data (accepted number asks receipts) ≡ data_of number asks
accepted-data number soft [] [] are put = refl
accepted-data number soft [] (r ∷ receipts) are put = absurd are
accepted-data number soft (ask ∷ asks) [] are put = absurd are
accepted-data number soft (ask ∷ asks) (r ∷ receipts) are put =
    flat_map-append task_data (accepted number asks receipts) (task_put number ask r) ∙ (λ i. accepted-data number soft asks receipts are.1 put.1 i ++ put-data number ask r put.0 i)

data-append : (number : ℕ) (xs ys : List Asked) → data_of number (xs ++ ys) ≡ data_of number ys ++ data_of number xs
data-append number [] ys = sym (append-nil (data_of number ys))
data-append number (x ∷ xs) ys = ap (λ bytes. bytes ++ ask_data number x) (data-append number xs ys) ∙ append_assoc (data_of number ys) (data_of number xs) (ask_data number x)

data-oldest : (number : ℕ) (asks : List Asked) → data_of number (reverse asks) ≡ flat_map (ask_data number) asks
data-oldest number [] = refl
data-oldest number (ask ∷ asks) = ap (data_of number) (reverse-append (ask ∷ []) asks) ∙ data-append number (reverse asks) (ask ∷ []) ∙ ap (λ bytes. ask_data number ask ++ bytes) (data-oldest number asks)

gone-data : (number : ℕ) (reason : List ℕ) (count : ℕ) → data_of number (gone_asks reason 0 count) ≡ []
gone-data number reason zero = refl
gone-data number reason (suc count) = (λ i. gone-data number reason count i ++ none (0 + count == number) i)
  where
    none : (b : Bool) → cond {A = List ℕ} b [] [] ≡ []
    none true = refl
    none false = refl

-- the calls that were made and then those of the end have the data of the former
pub asks-data : (number : ℕ) (reason : List ℕ) (count : ℕ) (made : List Asked) → data_of number (gone_asks reason 0 count ++ reverse made) ≡ flat_map (ask_data number) made
asks-data number reason count made =
    data-append number (gone_asks reason 0 count) (reverse made)
    ∙ (λ i. data-oldest number made i ++ gone-data number reason count i)
    ∙ append-nil (flat_map (ask_data number) made)

-- the ports of calls, and of receipts
abbrev pub ask_ports : List Asked → List ℕ
ask_ports asks = map (λ (a : Asked). a.port) asks

abbrev pub receipt_ports : List Receipt → List ℕ
receipt_ports receipts = map (λ (r : Receipt). r.port) receipts

no-data : (number : ℕ) (asks : List Asked) → AllByRecursion (λ (a : Asked). ask_data number a ≡ []) asks → flat_map (ask_data number) asks ≡ []
no-data number [] none = refl
no-data number (ask ∷ asks) none = (λ i. none.0 i ++ no-data number asks none.1 i)

put-goes-on : (o : Outcome) → is_put o ≡ true → ends_file o ≡ false
put-goes-on outcome.Accepted put = refl
put-goes-on outcome.Suspended put = refl
put-goes-on o put = absurd cc

-- a command for the port
abbrev pub IsFor : ℕ → Asked → Type 0
IsFor number ask = (ask.port ≡ number) × (is_plain_command ask.signal ≡ true)

-- of a step that makes commands for the port all were made
all-made : (number : ℕ) (asks : List Asked) (receipts : List Receipt) (next : ℕ) (rest : List ℕ) → AllByRecursion (IsFor number) asks → ArePutCommands number (made_of_step asks receipts) receipts
    → receipt_ports receipts ≡ ask_ports (made_of_step asks receipts) ++ next ∷ rest → made_of_step asks receipts ≡ asks
all-made number [] receipts next rest for put same = refl
all-made number (ask ∷ asks) [] next rest for put same = absurd cc
all-made number (ask ∷ asks) (r ∷ receipts) next rest for put same =
    let on = put-goes-on r.outcome (put.0 (eq-eqb ask.port number for.0.0) for.0.1) in
    let more : cond (ends_file r.outcome) [] (made_of_step asks receipts) ≡ made_of_step asks receipts = ap (λ b. cond b [] (made_of_step asks receipts)) on in
    let tail : receipt_ports receipts ≡ ask_ports (cond (ends_file r.outcome) [] (made_of_step asks receipts)) ++ next ∷ rest = cc in
    ap (λ made. ask ∷ made)
    (more
    ∙ all-made number asks receipts next rest for.1 (subst (λ made. ArePutCommands number made receipts) more put.1) (tail ∙ ap (λ made. ask_ports made ++ next ∷ rest) more))

dropped-ports : (asks : List Asked) (receipts : List Receipt) (rest : List ℕ) → receipt_ports receipts ≡ ask_ports asks ++ rest → receipt_ports (drop (length asks) receipts) ≡ rest
dropped-ports [] receipts rest same = same
dropped-ports (ask ∷ asks) [] rest same = absurd cc
dropped-ports (ask ∷ asks) (r ∷ receipts) rest same = let tail : receipt_ports receipts ≡ ask_ports asks ++ rest = cc in dropped-ports asks receipts rest tail

-- the front of calls, and those behind them
front-put : (number : ℕ) (first later : List Asked) (receipts : List Receipt) → ArePutCommands number (first ++ later) receipts → ArePutCommands number first receipts
front-put number [] later receipts put = tt
front-put number (ask ∷ first) later [] put = tt
front-put number (ask ∷ first) later (r ∷ receipts) put = (put.0, front-put number first later receipts put.1)

none-put : (number : ℕ) (asks : List Asked) → ArePutCommands number asks []
none-put number [] = tt
none-put number (ask ∷ asks) = tt

dropped-put : (number : ℕ) (first later : List Asked) (receipts : List Receipt) → ArePutCommands number (first ++ later) receipts → ArePutCommands number later (drop (length first) receipts)
dropped-put number [] later receipts put = put
dropped-put number (ask ∷ first) later [] put = none-put number later
dropped-put number (ask ∷ first) later (r ∷ receipts) put = dropped-put number first later receipts put.1

-- one step makes commands for the port, or calls that carry no data for it
abbrev pub OneStep : ℕ → List Asked → Type 0
OneStep number asks = AllByRecursion (λ (a : Asked). ask_data number a ≡ []) asks ⊎ AllByRecursion (IsFor number) asks

step-data : (number : ℕ) (asks : List Asked) (receipts : List Receipt) (next : ℕ) (rest : List ℕ) → OneStep number asks → ArePutCommands number (made_of_step asks receipts) receipts
    → receipt_ports receipts ≡ ask_ports (made_of_step asks receipts) ++ next ∷ rest → flat_map (ask_data number) (made_of_step asks receipts) ≡ flat_map (ask_data number) asks
step-data number asks receipts next rest one put same = ⊎_elim
    (λ (none : AllByRecursion (λ (a : Asked). ask_data number a ≡ []) asks).
    no-data number (made_of_step asks receipts) (step-made (λ (a : Asked). ask_data number a ≡ []) asks receipts none) ∙ sym (no-data number asks none))
    (λ (for : AllByRecursion (IsFor number) asks). ap (flat_map (ask_data number)) (all-made number asks receipts next rest for put same))
    one

more-ports : (xs ys : List ℕ) (next : ℕ) (rest : List ℕ) → (first : ℕ) × (later : List ℕ) × (xs ++ next ∷ rest ≡ first ∷ later)
more-ports [] ys next rest = (next, rest, refl)
more-ports (x ∷ xs) ys next rest = (x, xs ++ next ∷ rest, refl)

-- so the calls that were made have the data of all
pub made-data : (number : ℕ) (calls : List (List Asked)) (receipts : List Receipt) (next : ℕ) (rest : List ℕ) → AllByRecursion (OneStep number) calls → ArePutCommands number (made_of calls receipts) receipts
    → receipt_ports receipts ≡ ask_ports (made_of calls receipts) ++ next ∷ rest → flat_map (ask_data number) (made_of calls receipts) ≡ flat_map (flat_map (ask_data number)) calls
made-data number [] receipts next rest one put same = refl
made-data number (asks ∷ later) receipts next rest one put same =
    let made = made_of_step asks receipts in
    let behind = drop (length made) receipts in
    let others = made_of later behind in
    let apart : receipt_ports receipts ≡ ask_ports made ++ (ask_ports others ++ next ∷ rest) =
    same ∙ ap (λ ps. ps ++ next ∷ rest) (map-append (λ (a : Asked). a.port) made others) ∙ append_assoc (ask_ports made) (ask_ports others) (next ∷ rest) in
    let first = more-ports (ask_ports others) [] next rest in
    flat_map-append (ask_data number) made others
    ∙ (λ i. step-data number asks receipts first.0 first.1 one.0 (front-put number made others receipts put) (apart ∙ ap (λ ps. ask_ports made ++ ps) first.2) i
    ++ made-data number later behind next rest one.1 (dropped-put number made others receipts put) (dropped-ports made receipts (ask_ports others ++ next ∷ rest) apart) i)

-- a content is its pieces joined
joined : (size count : ℕ) (bytes : List ℕ) → 1 ≤ size → length bytes ≤ count → flat_map (λ (x : List ℕ). x) (pieces_up_to count size bytes) ≡ bytes
joined size zero [] some fits = refl
joined size zero (b ∷ bytes) some fits = absurd (omega (arith, fits))
joined size (suc count) [] some fits = refl
joined size (suc count) (b ∷ bytes) some fits =
    let less = length-drop size (b ∷ bytes) in
    ap (λ rest. take size (b ∷ bytes) ++ rest) (joined size count (drop size (b ∷ bytes)) some (omega (arith, less, fits, some))) ∙ take-append-drop size (b ∷ bytes)

pub vector-data : (bytes : List ℕ) → concat (vector_of bytes) ≡ bytes
vector-data [] = refl
vector-data (b ∷ bytes) = append-nil (b ∷ bytes)

-- the data of a command that isn't in the owner's form
how-data : (line port : ℕ) (force nosuspend : Bool) (bytes : List ℕ) → command_data (command_ask line port (how_of force nosuspend) bytes).signal ≡ bytes
how-data line port false false bytes = vector-data bytes
how-data line port false true bytes = vector-data bytes
how-data line port true false bytes = vector-data bytes
how-data line port true true bytes = vector-data bytes

pieces-data : (number line port : ℕ) (force nosuspend : Bool) (ps : List (List ℕ)) → flat_map (ask_data number) (map (command_ask line port (how_of force nosuspend)) ps) ≡ cond (port == number) (flat_map (λ (x : List ℕ). x) ps) []
pieces-data number line port force nosuspend ps = by (port == number) refl ps
  where
    by : (b : Bool) → (port == number) ≡ b → (xs : List (List ℕ)) → flat_map (ask_data number) (map (command_ask line port (how_of force nosuspend)) xs) ≡ cond b (flat_map (λ (x : List ℕ). x) xs) []
    by true is [] = refl
    by true is (x ∷ xs) = (λ i. cond (is i) (how-data line port force nosuspend x i) [] ++ by true is xs i)
    by false is [] = refl
    by false is (x ∷ xs) = (λ i. cond (is i) (command_data (command_ask line port (how_of force nosuspend) x).signal) [] ++ by false is xs i)

nothing : (b : Bool) → cond {A = List ℕ} b [] [] ≡ []
nothing true = refl
nothing false = refl

neither : (b : Bool) → cond {A = List ℕ} b [] [] ++ [] ≡ []
neither true = refl
neither false = refl

-- what a step sends to the port
act-data : (number processes ports line : ℕ) (act : Act) (content : List ℕ) → IsWithin processes ports act → flat_map (ask_data number) (asks_of line act content) ≡ sent_by number act content
act-data number processes ports line (Command port bytes force nosuspend) content is =
    append-nil (cond (port == number) (command_data (command_ask line port (how_of force nosuspend) bytes).signal) []) ∙ ap (λ x. cond (port == number) x []) (how-data line port force nosuspend bytes)
act-data number processes ports line (File port size file force nosuspend) content is =
    pieces-data number line port force nosuspend (pieces size content) ∙ ap (λ x. cond (port == number) x []) (joined size (length content) content is.1 (omega arith))
act-data number processes ports line (Send port bytes) content is = neither (port == number)
act-data number processes ports line (Control port op bytes) content is = neither (port == number)
act-data number processes ports line (Call port op bytes) content is = neither (port == number)
act-data number processes ports line (Close port) content is = neither (port == number)
act-data number processes ports line (Connect port to) content is = neither (port == number)
act-data number processes ports line (SendClose port) content is = neither (port == number)
act-data number processes ports line (SendConnect port to) content is = neither (port == number)
act-data number processes ports line (Link port) content is = neither (port == number)
act-data number processes ports line (Unlink port) content is = neither (port == number)
act-data number processes ports line (Monitor port name) content is = neither (port == number)
act-data number processes ports line (Demonitor port name) content is = neither (port == number)
act-data number processes ports line (Exit port reason) content is = neither (port == number)
act-data number processes ports line act content is = refl

pub calls-data : (number processes ports : ℕ) (steps : List Step) (files : List (List ℕ)) → AllByRecursion (λ (s : Step). IsWithin processes ports s.act) steps
    → flat_map (flat_map (ask_data number)) (calls_of steps files) ≡ all_sent_by number steps files
calls-data number processes ports [] files within = refl
calls-data number processes ports (step ∷ steps) files within = by (is_die step.act) (calls-data number processes ports steps (files_after step.act files) within.1)
  where
    rest : List (List Asked)
    rest = calls_of steps (files_after step.act files)

    by : (b : Bool) → flat_map (flat_map (ask_data number)) rest ≡ all_sent_by number steps (files_after step.act files)
        → flat_map (flat_map (ask_data number)) (cond b [] (asks_of step.line step.act (next_content files) ∷ rest))
        ≡ cond b [] (sent_by number step.act (next_content files) ++ all_sent_by number steps (files_after step.act files))
    by true later = refl
    by false later = (λ i. act-data number processes ports step.line step.act (next_content files) within.0 i ++ later i)

-- each step makes commands for the port, or none
how-plain : (line port : ℕ) (force nosuspend : Bool) (bytes : List ℕ) → is_plain_command (command_ask line port (how_of force nosuspend) bytes).signal ≡ true
how-plain line port false false bytes = refl
how-plain line port false true bytes = refl
how-plain line port true false bytes = refl
how-plain line port true true bytes = refl

pieces-step : (number line port : ℕ) (force nosuspend : Bool) (ps : List (List ℕ)) → OneStep number (map (command_ask line port (how_of force nosuspend)) ps)
pieces-step number line port force nosuspend ps = ⊎_elim (λ (own : port ≡ number). inr (commands own ps)) (λ (apart : port ≡ number → ⊥). inl (others apart ps)) (cases_eq port number)
  where
    commands : port ≡ number → (xs : List (List ℕ)) → AllByRecursion (IsFor number) (map (command_ask line port (how_of force nosuspend)) xs)
    commands own [] = tt
    commands own (x ∷ xs) = ((own, how-plain line port force nosuspend x), commands own xs)

    others : (port ≡ number → ⊥) → (xs : List (List ℕ)) → AllByRecursion (λ (a : Asked). ask_data number a ≡ []) (map (command_ask line port (how_of force nosuspend)) xs)
    others apart [] = tt
    others apart (x ∷ xs) = (ap (λ b. cond b (command_data (command_ask line port (how_of force nosuspend) x).signal) []) (ne_eqb port number apart), others apart xs)

act-step : (number line : ℕ) (act : Act) (content : List ℕ) → OneStep number (asks_of line act content)
act-step number line (Command port bytes force nosuspend) content = pieces-step number line port force nosuspend (bytes ∷ [])
act-step number line (File port size file force nosuspend) content = pieces-step number line port force nosuspend (pieces size content)
act-step number line (Send port bytes) content = inl (nothing (port == number), tt)
act-step number line (Control port op bytes) content = inl (nothing (port == number), tt)
act-step number line (Call port op bytes) content = inl (nothing (port == number), tt)
act-step number line (Close port) content = inl (nothing (port == number), tt)
act-step number line (Connect port to) content = inl (nothing (port == number), tt)
act-step number line (SendClose port) content = inl (nothing (port == number), tt)
act-step number line (SendConnect port to) content = inl (nothing (port == number), tt)
act-step number line (Link port) content = inl (nothing (port == number), tt)
act-step number line (Unlink port) content = inl (nothing (port == number), tt)
act-step number line (Monitor port name) content = inl (nothing (port == number), tt)
act-step number line (Demonitor port name) content = inl (nothing (port == number), tt)
act-step number line (Exit port reason) content = inl (nothing (port == number), tt)
act-step number line act content = inl tt

pub one-steps : (number : ℕ) (steps : List Step) (files : List (List ℕ)) → AllByRecursion (OneStep number) (calls_of steps files)
one-steps number [] files = tt
one-steps number (step ∷ steps) files = by (is_die step.act) (one-steps number steps (files_after step.act files))
  where
    by : (b : Bool) → AllByRecursion (OneStep number) (calls_of steps (files_after step.act files))
        → AllByRecursion (OneStep number) (cond b [] (asks_of step.line step.act (next_content files) ∷ calls_of steps (files_after step.act files)))
    by true later = tt
    by false later = (act-step number step.line step.act (next_content files), later)

-- the ports of receipts are those of their calls, in the order of the calls
same-ports : (soft : List Bool) (asks : List Asked) (receipts : List Receipt) → AreReceipts soft asks receipts → receipt_ports receipts ≡ ask_ports asks
same-ports soft [] [] are = refl
same-ports soft [] (r ∷ receipts) are = absurd are
same-ports soft (ask ∷ asks) [] are = absurd are
same-ports soft (ask ∷ asks) (r ∷ receipts) are = (λ i. are.0.port i ∷ same-ports soft asks receipts are.1 i)

map-reverse : {X : Type 0} (f : X → ℕ) (xs : List X) → map f (reverse xs) ≡ reverse (map f xs)
map-reverse f [] = refl
map-reverse f (x ∷ xs) =
    ap (map f) (reverse-append (x ∷ []) xs) ∙ map-append f (reverse xs) (x ∷ []) ∙ ap (λ ys. ys ++ f x ∷ []) (map-reverse f xs) ∙ sym (reverse-append (f x ∷ []) (map f xs))

oldest-ports : (soft : List Bool) (asks : List Asked) (receipts : List Receipt) → AreReceipts soft (reverse asks) (reverse receipts) → receipt_ports receipts ≡ ask_ports asks
oldest-ports soft asks receipts are =
    sym (reverse-reverse (receipt_ports receipts))
    ∙ ap reverse (sym (map-reverse (λ (r : Receipt). r.port) receipts) ∙ same-ports soft (reverse asks) (reverse receipts) are ∙ map-reverse (λ (a : Asked). a.port) asks)
    ∙ reverse-reverse (ask_ports asks)

gone-some : (reason : List ℕ) (count : ℕ) → 0 < count → (next : ℕ) × (rest : List ℕ) × (ask_ports (reverse (gone_asks reason 0 count)) ≡ next ∷ rest)
gone-some reason zero some = absurd (omega (arith, some))
gone-some reason (suc count) some =
    let older = gone_asks reason 0 count in
    let ports = more-ports (ask_ports (reverse older)) [] (0 + count) [] in
    (ports.0, ports.1, ap ask_ports (reverse-append (gone_ask reason (0 + count) ∷ []) older) ∙ map-append (λ (a : Asked). a.port) (reverse older) (gone_ask reason (0 + count) ∷ []) ∙ ports.2)

-- of calls and receipts that stand newest first, those that stand oldest first
apart-put : (number : ℕ) (first later : List Asked) (receipts others : List Receipt) → length first ≡ length receipts → ArePutCommands number (first ++ later) (receipts ++ others)
    → ArePutCommands number first receipts × ArePutCommands number later others
apart-put number [] later [] others same put = (tt, put)
apart-put number [] later (r ∷ receipts) others same put = absurd (omega (arith, same))
apart-put number (ask ∷ first) later [] others same put = absurd (omega (arith, same))
apart-put number (ask ∷ first) later (r ∷ receipts) others same put =
    let rest = apart-put number first later receipts others (omega (arith, same)) put.1 in
    ((put.0, rest.0), rest.1)

oldest-put : (number : ℕ) (asks : List Asked) (receipts : List Receipt) → length asks ≡ length receipts → ArePutCommands number (reverse asks) (reverse receipts) → ArePutCommands number asks receipts
oldest-put number [] receipts same put = tt
oldest-put number (ask ∷ asks) [] same put = tt
oldest-put number (ask ∷ asks) (r ∷ receipts) same put =
    let asked : ArePutCommands number (reverse asks ++ ask ∷ []) (reverse (r ∷ receipts)) = subst (λ xs. ArePutCommands number xs (reverse (r ∷ receipts))) (reverse-append (ask ∷ []) asks) put in
    let long = length-reverse asks in
    let many = length-reverse receipts in
    let less : length asks ≡ length receipts = omega (arith, same) in
    let parts = apart-put number (reverse asks) (ask ∷ []) (reverse receipts) (r ∷ []) (omega (arith, long, many, less))
    (subst (λ rs. ArePutCommands number (reverse asks ++ ask ∷ []) rs) (reverse-append (r ∷ []) receipts) asked) in
    (parts.1.0, oldest-put number asks receipts less parts.0)

-- where each command for the port was put, the commands have what the steps send
pub all-data : (number processes ports : ℕ) (soft : List Bool) (steps : List Step) (files : List (List ℕ)) (receipts : List Receipt) → 0 < ports
    → AreReceipts soft (reverse (made_asks ports steps files receipts)) (reverse receipts) → AllByRecursion (λ (s : Step). IsWithin processes ports s.act) steps
    → ArePutCommands number (reverse (made_asks ports steps files receipts)) (reverse receipts)
    → flat_map task_data (accepted number (reverse (made_asks ports steps files receipts)) (reverse receipts)) ≡ all_sent_by number steps files
all-data number processes ports soft steps files receipts some are within put =
    let made = made_of (calls_of steps files) receipts in
    let gone = reverse (gone_asks (end_reason steps) 0 ports) in
    let end = gone-some (end_reason steps) ports some in
    let same : receipt_ports receipts ≡ ask_ports made ++ end.0 ∷ end.1 =
    oldest-ports soft (made ++ gone) receipts are ∙ map-append (λ (a : Asked). a.port) made gone ∙ ap (λ ps. ask_ports made ++ ps) end.2 in
    let long = length-reverse (made ++ gone) in
    let many = length-reverse receipts in
    let each = as-many soft (reverse (made ++ gone)) (reverse receipts) are in
    let put' = front-put number made gone receipts (oldest-put number (made ++ gone) receipts (omega (arith, long, many, each)) put) in
    accepted-data number soft (reverse (made_asks ports steps files receipts)) (reverse receipts) are put
    ∙ ap (data_of number) (made-newest ports steps files receipts)
    ∙ asks-data number (end_reason steps) ports made
    ∙ made-data number (calls_of steps files) receipts end.0 end.1 (one-steps number steps files) put' same
    ∙ calls-data number processes ports steps files within
