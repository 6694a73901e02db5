-- The steps of a process.
use Rattle.std.proofs.Common.{◌≡◌, ℕ, ◌+◌, ◌*◌, ◌<◌, List, [], ◌∷◌, ◌++◌, length, take, drop, false, refl, sym, ap, ◌∙◌, arith}
use Rattle.std.proofs.lemmas.List.{append_assoc, length-take-le}
use Rattle.script_plan.specs.declared.step.Step.{Step}
use Rattle.script_plan.specs.declared.step.Act.TheVariants.{Command}
use Rattle.script_load.specs.Load.{port_of, bytes_of, commands, waits, first_line, steps_of}

-- one command
abbrev pub command : ℕ → ℕ → ℕ → Step
command line process x = record { line = line; process = process; act = Command (port_of x) (bytes_of process x) false false }

pub commands-push : (line process : ℕ) (xs : List ℕ) (x : ℕ) → commands line process (xs ++ x ∷ []) ≡ commands line process xs ++ command (line + length xs) process x ∷ []
commands-push line process [] x = ap (λ l. command l process x ∷ []) (omega arith)
commands-push line process (y ∷ xs) x =
    let same : line + 1 + length xs ≡ line + length (y ∷ xs) = omega arith in
    ap (λ ss. command line process y ∷ ss) (commands-push (line + 1) process xs x ∙ ap (λ l. commands (line + 1) process xs ++ command l process x ∷ []) same)

-- behind one more command
pub pushed-command : (old items : List Step) (line process place x port : ℕ) (bytes xs : List ℕ) → items ≡ old ++ commands line process (take place xs) → port ≡ port_of x → bytes ≡ bytes_of process x
    → place < length xs → take (place + 1) xs ≡ take place xs ++ x ∷ []
    → items ++ record { line = line + place; process = process; act = Command port bytes false false } ∷ [] ≡ old ++ commands line process (take (place + 1) xs)
pushed-command old items line process place x port bytes xs e f g within h =
    let step : Step = record { line = line + place; process = process; act = Command port bytes false false } in
    let same : step ≡ command (line + place) process x = rw (f, g) refl in
    let count : length (take place xs) ≡ place = length-take-le place xs (omega arith) in
    ap (λ (ss : List Step). ss ++ step ∷ []) e
    ∙ ap (λ (s : Step). (old ++ commands line process (take place xs)) ++ s ∷ []) same
    ∙ append_assoc old (commands line process (take place xs)) (command (line + place) process x ∷ [])
    ∙ ap (λ (n : ℕ). old ++ (commands line process (take place xs) ++ command (line + n) process x ∷ [])) (sym count)
    ∙ ap (λ (ss : List Step). old ++ ss) (sym (commands-push line process (take place xs) x))
    ∙ ap (λ (ys : List ℕ). old ++ commands line process ys) (sym h)

-- the commands of a process and its wait
pub joined : (old mid new : List Step) (xs : List ℕ) (process line count : ℕ) → line ≡ first_line process → count ≡ 2000 → mid ≡ old ++ commands line process (take count (drop (2000 * process) xs))
    → new ≡ mid ++ waits (line + 2000) process xs → new ≡ old ++ steps_of xs process
joined old mid new xs process line count e f g h =
    h ∙ ap (λ (ss : List Step). ss ++ waits (line + 2000) process xs) g
    ∙ append_assoc old (commands line process (take count (drop (2000 * process) xs))) (waits (line + 2000) process xs)
    ∙ ap (λ (l : ℕ). old ++ (commands l process (take count (drop (2000 * process) xs)) ++ waits (l + 2000) process xs)) e
    ∙ ap (λ (n : ℕ). old ++ (commands (first_line process) process (take n (drop (2000 * process) xs)) ++ waits (first_line process + 2000) process xs)) f
