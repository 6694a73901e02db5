-- The script of the load generator is a plan, and its waits count its commands.
use Rattle.std.proofs.Common.{◌≡◌, ℕ, suc, ◌+◌, ◌*◌, ◌/◌, ◌^◌, ◌<◌, ◌≤◌, List, [], ◌∷◌, ◌++◌, length, take, drop, Bool, true, false, cond, refl, sym, ap, ◌∙◌, arith, map, None}
use Rattle.std.specs.Prelude.{nat_lt, ◌==◌}
use Rattle.std.specs.List.{All, list_all, flat_map}
use Rattle.std.proofs.lemmas.Bool.{and_parts, ltb-true}
use Rattle.std.proofs.lemmas.List.{length-append, length-take, take-append-drop, drop-drop, drop_all}
use Rattle.std.proofs.lemmas.List.Sums.{sum_by-append}
use Rattle.std.proofs.lemmas.List.Elements.{All-nil, All-cons, All-append, All-weaker}
use Rattle.std.proofs.lemmas.Nat.{mod_below}
use Rattle.port_config.specs.Config.{is_config}
use Rattle.script_plan.specs.declared.decl.ProcessDecl.{ProcessDecl}
use Rattle.script_plan.specs.declared.decl.PortDecl.{PortDecl}
use Rattle.script_plan.specs.declared.decl.SaveDecl.{SaveDecl}
use Rattle.script_plan.specs.declared.step.Step.{Step}
use Rattle.script_plan.specs.declared.step.Act.TheVariants.{Expect}
use Rattle.script_plan.specs.Monitors.{NumberBelow, monitor_count}
use Rattle.script_plan.specs.Plan.{Plan, IsPlan, IsWithin, SaveWithin}
use Rattle.script_load.specs.Load.{values, port_of, commands, command_count, waits, first_line, steps_of, processes, ports, process_of, port_with, load_plan, goes_to, commands_to}
use Rattle.script_load.proofs.Values.{length-values}
use Rattle.script_load.proofs.Commands.{command}

-- what is so of each step
pub record IsLoadStep (s : Step) : Type 0 where
  pub process : s.process < 8
  pub within : IsWithin 8 4 s.act
  pub numbered : (count : ℕ) → NumberBelow count s.act

port_below : (x : ℕ) → port_of x < 4
port_below x = mod_below (x / 2 ^ 33) 4 (omega arith)

commands-fine : (line process : ℕ) (xs : List ℕ) → process < 8 → All IsLoadStep (commands line process xs)
commands-fine line process [] h = All-nil IsLoadStep
commands-fine line process (x ∷ xs) h =
    All-cons IsLoadStep (command line process x) (commands (line + 1) process xs) (record { process = h; within = port_below x; numbered = λ count. tt }) (commands-fine (line + 1) process xs h)

wait : ℕ → ℕ → List ℕ → Step
wait line process xs = record { line = line; process = process; act = Expect process (command_count process xs) }

wait-fine : (line process : ℕ) (xs : List ℕ) → process < 8 → (b : Bool) → nat_lt process 4 ≡ b → All IsLoadStep (cond b (wait line process xs ∷ []) [])
unfolding wait
wait-fine line process xs h true e =
    All-cons IsLoadStep (wait line process xs) [] (record { process = h; within = ltb-true process 4 e; numbered = λ count. tt }) (All-nil IsLoadStep)
wait-fine line process xs h false e = All-nil IsLoadStep

waits-fine : (line process : ℕ) (xs : List ℕ) → process < 8 → All IsLoadStep (waits line process xs)
unfolding wait
waits-fine line process xs h = wait-fine line process xs h (nat_lt process 4) refl

steps_of-fine : (xs : List ℕ) (process : ℕ) → process < 8 → All IsLoadStep (steps_of xs process)
steps_of-fine xs process h =
    let own = take 2000 (drop (2000 * process) xs) in
    All-append IsLoadStep (commands (first_line process) process own) (waits (first_line process + 2000) process xs)
    (commands-fine (first_line process) process own h) (waits-fine (first_line process + 2000) process xs h)

all-fine : (xs ps : List ℕ) → list_all (λ p. nat_lt p 8) ps ≡ true → All IsLoadStep (flat_map (steps_of xs) ps)
all-fine xs [] e = All-nil IsLoadStep
all-fine xs (p ∷ ps) e =
    let h = and_parts (nat_lt p 8) (list_all (λ p. nat_lt p 8) ps) e in
    All-append IsLoadStep (steps_of xs p) (flat_map (steps_of xs) ps) (steps_of-fine xs p (ltb-true p 8 h.0)) (all-fine xs ps h.1)

length-commands : (line process : ℕ) (xs : List ℕ) → length (commands line process xs) ≡ length xs
length-commands line process [] = refl
length-commands line process (x ∷ xs) = ap suc (length-commands (line + 1) process xs)

wait-few : (line process : ℕ) (xs : List ℕ) (b : Bool) → length (cond b (wait line process xs ∷ []) []) ≤ 1
wait-few line process xs true = omega arith
wait-few line process xs false = omega arith

steps_of-few : (xs : List ℕ) (process : ℕ) → length (steps_of xs process) ≤ 2001
unfolding wait
steps_of-few xs process =
    let own = take 2000 (drop (2000 * process) xs) in
    let parts = length-append (commands (first_line process) process own) (waits (first_line process + 2000) process xs) in
    let few = wait-few (first_line process + 2000) process xs (nat_lt process 4) in
    omega (arith, parts, few, length-commands (first_line process) process own, length-take 2000 (drop (2000 * process) xs))

all-few : (xs ps : List ℕ) → length (flat_map (steps_of xs) ps) ≤ 2001 * length ps
all-few xs [] = omega arith
all-few xs (p ∷ ps) = omega (arith, length-append (steps_of xs p) (flat_map (steps_of xs) ps), steps_of-few xs p, all-few xs ps)

four : (P : PortDecl → Type 0) → P (port_with 0) → P (port_with 1) → P (port_with 2) → P (port_with 3) → All P (map port_with ports)
four P a b c d =
    All-cons P (port_with 0) (port_with 1 ∷ port_with 2 ∷ port_with 3 ∷ []) a
    (All-cons P (port_with 1) (port_with 2 ∷ port_with 3 ∷ []) b (All-cons P (port_with 2) (port_with 3 ∷ []) c (All-cons P (port_with 3) [] d (All-nil P))))

pub IsPlan-load : (number : ℕ) → IsPlan (load_plan number)
unfolding load_plan
IsPlan-load number =
    let xs = values 16000 number in
    let steps = flat_map (steps_of xs) processes in
    let fine = all-fine xs processes refl in
    record {
      few_processes = omega arith;
      few_ports = omega arith;
      few_steps = omega (arith, all-few xs processes);
      owners = four (λ p. p.owner < 8) (omega arith) (omega arith) (omega arith) (omega arith);
      configs = four (λ p. is_config p.config ≡ true) refl refl refl refl;
      saved = All-nil (SaveWithin 8 4);
      senders = All-weaker IsLoadStep (λ s. s.process < 8) (λ s f. f.process) steps fine;
      named = All-weaker IsLoadStep (λ s. IsWithin 8 4 s.act) (λ s f. f.within) steps fine;
      numbered = All-weaker IsLoadStep (λ s. NumberBelow (monitor_count s.process steps) s.act) (λ s f. f.numbered (monitor_count s.process steps)) steps fine;
    }

-- the plan of these lists
pub of_parts : (ps : List ProcessDecl) (qs : List PortDecl) (saves : List SaveDecl) (steps : List Step) (number : ℕ) → ps ≡ map process_of processes → qs ≡ map port_with ports → saves ≡ [] → steps ≡ flat_map (steps_of (values 16000 number)) processes
    → ◌≡◌ {A = Plan} (record { processes = ps; ports = qs; saves = saves; journal = None; steps = steps }) (load_plan number)
unfolding load_plan
of_parts ps qs saves steps number a b c d = rw (a, b, c, d) refl

-- ---- the counts

count-append : (port : ℕ) (ss ts : List Step) → commands_to port (ss ++ ts) ≡ commands_to port ss + commands_to port ts
count-append port ss ts = sum_by-append (λ s. cond (goes_to port s.act) 1 0) ss ts

count-commands : (port line process : ℕ) (xs : List ℕ) → commands_to port (commands line process xs) ≡ command_count port xs
count-commands port line process [] = refl
count-commands port line process (x ∷ xs) =
    count-append port (command line process x ∷ []) (commands (line + 1) process xs)
    ∙ ap (λ n. commands_to port (command line process x ∷ []) + n) (count-commands port (line + 1) process xs)
    ∙ sym (sum_by-append (λ x. cond (port_of x == port) 1 0) (x ∷ []) xs)

count-wait : (port line process : ℕ) (xs : List ℕ) (b : Bool) → commands_to port (cond b (wait line process xs ∷ []) []) ≡ 0
unfolding wait
count-wait port line process xs true = refl
count-wait port line process xs false = refl

-- the commands of a process and of those behind it
behind : (port process : ℕ) (xs : List ℕ) (rest : List Step) → commands_to port rest ≡ command_count port (drop (2000 * (process + 1)) xs)
    → commands_to port (steps_of xs process ++ rest) ≡ command_count port (drop (2000 * process) xs)
unfolding wait
behind port process xs rest e =
    let line = first_line process in
    let left = drop (2000 * process) xs in
    let own = take 2000 left in
    let both = count-append port (steps_of xs process) rest in
    let mine = count-append port (commands line process own) (waits (line + 2000) process xs) in
    let commanded = count-commands port line process own in
    let waited = count-wait port (line + 2000) process xs (nat_lt process 4) in
    let next : 2000 * (process + 1) ≡ 2000 * process + 2000 = omega arith in
    let others : command_count port (drop (2000 * (process + 1)) xs) ≡ command_count port (drop 2000 left) =
    ap (λ n. command_count port (drop n xs)) next ∙ ap (command_count port) (sym (drop-drop 2000 (2000 * process) xs)) in
    let parted : command_count port left ≡ command_count port own + command_count port (drop 2000 left) =
    ap (command_count port) (sym (take-append-drop 2000 left)) ∙ sum_by-append (λ x. cond (port_of x == port) 1 0) own (drop 2000 left) in
    omega (arith, both, mine, commanded, waited, e, others, parted)

pub counts-all : (number port : ℕ) → commands_to port (load_plan number).steps ≡ command_count port (values 16000 number)
unfolding load_plan
counts-all number port =
    let xs = values 16000 number in
    let none : command_count port (drop (2000 * 8) xs) ≡ 0 = ap (command_count port) (drop_all 16000 xs (omega (arith, length-values 16000 number))) in
    let f = steps_of xs in
    behind port 0 xs (f 1 ++ (f 2 ++ (f 3 ++ (f 4 ++ (f 5 ++ (f 6 ++ (f 7 ++ [])))))))
    (behind port 1 xs (f 2 ++ (f 3 ++ (f 4 ++ (f 5 ++ (f 6 ++ (f 7 ++ []))))))
    (behind port 2 xs (f 3 ++ (f 4 ++ (f 5 ++ (f 6 ++ (f 7 ++ [])))))
    (behind port 3 xs (f 4 ++ (f 5 ++ (f 6 ++ (f 7 ++ []))))
    (behind port 4 xs (f 5 ++ (f 6 ++ (f 7 ++ [])))
    (behind port 5 xs (f 6 ++ (f 7 ++ []))
    (behind port 6 xs (f 7 ++ [])
    (behind port 7 xs [] (sym none))))))))
