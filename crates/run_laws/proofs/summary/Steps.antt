-- The steps of a load: plain commands, and the waits of the first four processes.
use Rattle.std.proofs.Common.{◌≡◌, ℕ, zero, suc, ◌+◌, ◌*◌, ◌/◌, ◌^◌, ◌<◌, ◌≤◌, ◌⊎◌, List, [], ◌∷◌, ◌++◌, length, map, take, drop, Bool, true, false, cond, eqb, Some, refl, sym, ap, ◌∙◌, subst, append_assoc, arith, inl, inr}
use Rattle.std.specs.Prelude.{filter, nat_lt, reverse}
use Rattle.std.specs.List.{All, flat_map}
use Rattle.std.proofs.lemmas.List.{append-nil, reverse-append, take-append-drop}
use Rattle.std.proofs.lemmas.List.Elements.{All-append, All-cons, All-filter, All-head, All-nil, All-tail, filter-append}
use Rattle.std.proofs.lemmas.List.Sums.{sum_by-cons}
use Rattle.std.proofs.lemmas.Nat.{mod_below}
use Rattle.port_model.specs.declared.mail.Mail.{Mail}
use Rattle.run_output.specs.script_input.run_opening.run_end.process_receipts.declared.receipt.Receipt.{Receipt}
use Rattle.run_output.specs.script_input.run_opening.run_end.process_job.Asks.{asks_of, files_after, made_of_step, next_content}
use Rattle.run_output.specs.script_input.run_opening.run_end.process_job.Mails.{bytes_of, messages_of}
use Rattle.run_output.specs.script_input.run_opening.run_end.process_job.Waits.{ShowsClosed, StaysClosed, WaitIsShown, WaitsAreShown, last_receipt, stat_shown}
use Rattle.run_output.specs.script_input.StepsDealt.{steps_of as steps_by}
use Rattle.script_plan.specs.declared.step.Step.{Step}
use Rattle.script_plan.specs.declared.step.Act.{Act}
use Rattle.script_plan.specs.declared.step.Act.TheVariants.{Bytes, Expect}
use Rattle.script_load.specs.Load.{command_count, commands, commands_to, first_line, load_plan, port_of, port_with, ports, process_of, processes, steps_of, values, waits}
use Rattle.script_load.proofs.Plans.{counts-all}
use Rattle.script_load.proofs.Values.{length-values}
use Rattle.run_laws.proofs.summary.Asking.{IsPlain, stays-alive}
use Rattle.run_laws.proofs.summary.Rows.{All-first, All-second}

abbrev StepIsPlain : Step → Type 0
StepIsPlain step = IsPlain step.act

commands-plain : (line process : ℕ) (xs : List ℕ) → All StepIsPlain (commands line process xs)
commands-plain line process [] = All-nil StepIsPlain
commands-plain line process (x ∷ xs) = All-cons StepIsPlain _ (commands (line + 1) process xs) tt (commands-plain (line + 1) process xs)

waits-plain : (line process : ℕ) (xs : List ℕ) → All StepIsPlain (waits line process xs)
waits-plain line process xs = go (nat_lt process 4)
  where
    go : (b : Bool) → All StepIsPlain (cond b (record { line = line; process = process; act = Expect process (command_count process xs) } ∷ []) [])
    go true = All-cons StepIsPlain _ [] tt (All-nil StepIsPlain)
    go false = All-nil StepIsPlain

all-plain : (xs ps : List ℕ) → All StepIsPlain (flat_map (steps_of xs) ps)
all-plain xs [] = All-nil StepIsPlain
all-plain xs (p ∷ ps) =
    All-append StepIsPlain (steps_of xs p) (flat_map (steps_of xs) ps)
    (All-append StepIsPlain (commands (first_line p) p (take 2000 (drop (2000 * p) xs))) (waits (first_line p + 2000) p xs)
    (commands-plain (first_line p) p (take 2000 (drop (2000 * p) xs))) (waits-plain (first_line p + 2000) p xs))
    (all-plain xs ps)

-- what a load's plan has
pub plan-ports : (number : ℕ) → (load_plan number).ports ≡ map port_with ports
unfolding load_plan
plan-ports number = refl

pub plan-processes : (number : ℕ) → (load_plan number).processes ≡ map process_of processes
unfolding load_plan
plan-processes number = refl

plan-steps : (number : ℕ) → (load_plan number).steps ≡ flat_map (steps_of (values 16000 number)) processes
unfolding load_plan
plan-steps number = refl

pub plan-plain : (number : ℕ) → All StepIsPlain (load_plan number).steps
plan-plain number = subst (All StepIsPlain) (sym (plan-steps number)) (all-plain (values 16000 number) processes)

pub own-steps-plain : (number process : ℕ) → All StepIsPlain (steps_by process (load_plan number).steps)
own-steps-plain number process = All-filter (λ (s : Step). eqb s.process process) StepIsPlain (load_plan number).steps (plan-plain number)

-- the mail has so much data of the port, or the port is closed by its last receipt, of which the newest stand first
abbrev pub WaitShows : List Mail → List Receipt → Act → Type 0
WaitShows mails newest (Expect port count) = (count ≤ messages_of port mails) ⊎ ShowsClosed port newest
WaitShows mails newest (Bytes port count) = (count ≤ bytes_of port mails) ⊎ ShowsClosed port newest
WaitShows mails newest _ = Unit {0}

-- the last receipt for a port is among those that came last
last-front : (port : ℕ) (receipts older : List Receipt) (stat : ℕ) → stat_shown (last_receipt port receipts) ≡ Some stat → stat_shown (last_receipt port (receipts ++ older)) ≡ Some stat
last-front port [] older stat shown = absurd (cc)
last-front port (receipt ∷ receipts) older stat shown = at (eqb receipt.port port) (last-front port receipts older stat) shown
  where
    at : (b : Bool) → (stat_shown (last_receipt port receipts) ≡ Some stat → stat_shown (last_receipt port (receipts ++ older)) ≡ Some stat)
        → stat_shown (cond b (Some receipt) (last_receipt port receipts)) ≡ Some stat → stat_shown (cond b (Some receipt) (last_receipt port (receipts ++ older))) ≡ Some stat
    at true later e = e
    at false later e = later e

closes-more : (port : ℕ) (receipts older : List Receipt) → StaysClosed port receipts → ShowsClosed port (reverse receipts ++ older)
closes-more port receipts older stays =
    record { stat = stays.last.stat; shown = last-front port (reverse receipts) older stays.last.stat stays.last.shown; closed = stays.last.closed }

wait-shows : (mails : List Mail) (receipts older : List Receipt) (act : Act) → WaitIsShown mails receipts act → WaitShows mails (reverse receipts ++ older) act
wait-shows mails receipts older (Expect port count) (inl had) = inl had
wait-shows mails receipts older (Expect port count) (inr stays) = inr (closes-more port receipts older stays)
wait-shows mails receipts older (Bytes port count) (inl had) = inl had
wait-shows mails receipts older (Bytes port count) (inr stays) = inr (closes-more port receipts older stays)
wait-shows mails receipts older _ shown = tt

-- receipts of which the first stand apart
parted : (n : ℕ) (receipts older : List Receipt) → reverse (drop n receipts) ++ (reverse (take n receipts) ++ older) ≡ reverse receipts ++ older
parted n receipts older =
    sym (append_assoc (reverse (drop n receipts)) (reverse (take n receipts)) older)
    ∙ ap (λ l. l ++ older) (sym (reverse-append (take n receipts) (drop n receipts)) ∙ ap reverse (take-append-drop n receipts))

-- what the waits of a process show, step by step: `receipts` are those from these steps on, and `older` those before them
each-shows : (mails : List Mail) (receipts older whole : List Receipt) (steps : List Step) (files : List (List ℕ)) → reverse receipts ++ older ≡ whole → All StepIsPlain steps
    → WaitsAreShown mails receipts steps files → All (λ (s : Step). WaitShows mails whole s.act) steps
each-shows mails receipts older whole [] files is plain shown = All-nil (λ (s : Step). WaitShows mails whole s.act)
each-shows mails receipts older whole (step ∷ steps) files is plain shown =
    let n = length (made_of_step (asks_of step.line step.act (next_content files)) receipts) in
    All-cons (λ (s : Step). WaitShows mails whole s.act) step steps
    (subst (λ l. WaitShows mails l step.act) is (wait-shows mails receipts older step.act shown.0))
    (each-shows mails (drop n receipts) (reverse (take n receipts) ++ older) whole steps (files_after step.act files) (parted n receipts older ∙ is) (All-tail StepIsPlain step steps plain)
    (shown.1 (stays-alive step.act (All-head StepIsPlain step steps plain))))

-- each of the first four processes waits for the commands of its own port
module _ (P : Step → Type 0) (xs : List ℕ) where
  abbrev wait_of : ℕ → Step
  wait_of process = record { line = first_line process + 2000; process = process; act = Expect process (command_count process xs) }

  front : (process p : ℕ) (ps : List ℕ) → All P (filter (λ (s : Step). eqb s.process process) (flat_map (steps_of xs) (p ∷ ps))) → All P (filter (λ (s : Step). eqb s.process process) (steps_of xs p))
  front process p ps all = All-first P (filter (λ (s : Step). eqb s.process process) (steps_of xs p)) (filter (λ (s : Step). eqb s.process process) (flat_map (steps_of xs) ps))
      (subst (All P) (filter-append (λ (s : Step). eqb s.process process) (steps_of xs p) (flat_map (steps_of xs) ps)) all)

  later : (process p : ℕ) (ps : List ℕ) → All P (filter (λ (s : Step). eqb s.process process) (flat_map (steps_of xs) (p ∷ ps))) → All P (filter (λ (s : Step). eqb s.process process) (flat_map (steps_of xs) ps))
  later process p ps all = All-second P (filter (λ (s : Step). eqb s.process process) (steps_of xs p)) (filter (λ (s : Step). eqb s.process process) (flat_map (steps_of xs) ps))
      (subst (All P) (filter-append (λ (s : Step). eqb s.process process) (steps_of xs p) (flat_map (steps_of xs) ps)) all)

  behind : (process p : ℕ) → All P (filter (λ (s : Step). eqb s.process process) (steps_of xs p)) → All P (filter (λ (s : Step). eqb s.process process) (waits (first_line p + 2000) p xs))
  behind process p all =
      let sent = commands (first_line p) p (take 2000 (drop (2000 * p) xs)) in
      All-second P (filter (λ (s : Step). eqb s.process process) sent) (filter (λ (s : Step). eqb s.process process) (waits (first_line p + 2000) p xs))
      (subst (All P) (filter-append (λ (s : Step). eqb s.process process) sent (waits (first_line p + 2000) p xs)) all)

  abbrev last4 : List ℕ
  last4 = 4 ∷ 5 ∷ 6 ∷ 7 ∷ []

  wait-there : (process : ℕ) → process < 4 → All P (filter (λ (s : Step). eqb s.process process) (flat_map (steps_of xs) processes)) → P (wait_of process)
  wait-there zero below all = All-head P (wait_of 0) [] (behind 0 0 (front 0 0 (1 ∷ 2 ∷ 3 ∷ last4) all))
  wait-there (suc zero) below all = All-head P (wait_of 1) [] (behind 1 1 (front 1 1 (2 ∷ 3 ∷ last4) (later 1 0 (1 ∷ 2 ∷ 3 ∷ last4) all)))
  wait-there (suc (suc zero)) below all = All-head P (wait_of 2) [] (behind 2 2 (front 2 2 (3 ∷ last4) (later 2 1 (2 ∷ 3 ∷ last4) (later 2 0 (1 ∷ 2 ∷ 3 ∷ last4) all))))
  wait-there (suc (suc (suc zero))) below all =
      All-head P (wait_of 3) [] (behind 3 3 (front 3 3 last4 (later 3 2 (3 ∷ last4) (later 3 1 (2 ∷ 3 ∷ last4) (later 3 0 (1 ∷ 2 ∷ 3 ∷ last4) all)))))
  wait-there (suc (suc (suc (suc n)))) below all = absurd (omega (arith, below))

-- the wait of a port's owner
pub owner-waits : (number process : ℕ) (mails : List Mail) (receipts : List Receipt) (files : List (List ℕ)) → process < 4
    → WaitsAreShown mails receipts (steps_by process (load_plan number).steps) files → WaitShows mails (reverse receipts) (Expect process (commands_to process (load_plan number).steps))
owner-waits number process mails receipts files below shown =
    let xs = values 16000 number in
    let P : Step → Type 0 = λ s. WaitShows mails (reverse receipts) s.act in
    subst (λ n. WaitShows mails (reverse receipts) (Expect process n)) (sym (counts-all number process))
    (wait-there P xs process below (subst (λ l. All P (filter (λ (s : Step). eqb s.process process) l)) (plan-steps number)
    (each-shows mails receipts [] (reverse receipts) (steps_by process (load_plan number).steps) files (append-nil (reverse receipts)) (own-steps-plain number process) shown)))

-- all commands go to some port
port-below : (x : ℕ) → port_of x < 4
port-below x = mod_below (x / 2 ^ 33) 4 (omega arith)

one-port : (p : ℕ) → p < 4 → cond (eqb p 0) 1 0 + cond (eqb p 1) 1 0 + cond (eqb p 2) 1 0 + cond (eqb p 3) 1 0 ≡ 1
one-port zero below = refl
one-port (suc zero) below = refl
one-port (suc (suc zero)) below = refl
one-port (suc (suc (suc zero))) below = refl
one-port (suc (suc (suc (suc n)))) below = absurd (omega (arith, below))

all-counted : (xs : List ℕ) → command_count 0 xs + command_count 1 xs + command_count 2 xs + command_count 3 xs ≡ length xs
all-counted [] = refl
all-counted (x ∷ xs) =
    let rest = all-counted xs in
    let one = one-port (port_of x) (port-below x) in
    let a = sum_by-cons (λ y. cond (eqb (port_of y) 0) 1 0) x xs in
    let b = sum_by-cons (λ y. cond (eqb (port_of y) 1) 1 0) x xs in
    let c = sum_by-cons (λ y. cond (eqb (port_of y) 2) 1 0) x xs in
    let d = sum_by-cons (λ y. cond (eqb (port_of y) 3) 1 0) x xs in
    omega (arith, rest, one, a, b, c, d)

pub all-commands : (number : ℕ)
    → commands_to 0 (load_plan number).steps + commands_to 1 (load_plan number).steps + commands_to 2 (load_plan number).steps + commands_to 3 (load_plan number).steps ≡ 16000
all-commands number =
    let xs = values 16000 number in
    let a = counts-all number 0 in
    let b = counts-all number 1 in
    let c = counts-all number 2 in
    let d = counts-all number 3 in
    let all = all-counted xs in
    let many = length-values 16000 number in
    omega (arith, a, b, c, d, all, many)
