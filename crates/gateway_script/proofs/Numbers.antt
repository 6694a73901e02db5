-- The numbers of monitors.
use Rattle.std.proofs.Common.{◌≡◌, ℕ, ◌<◌, ◌≤◌, List, [], ◌∷◌, ◌++◌, length, true, false, eqb, cond, Option, Some, None, refl, sym, subst, arith, inl, inr}
use Rattle.std.specs.List.{All, filter_map}
use Rattle.std.proofs.lemmas.Bool.{eq-eqb}
use Rattle.std.proofs.lemmas.Bool.Decides.{eqb_tells}
use Rattle.std.proofs.lemmas.List.Elements.{All-nil, All-cons, All-head, All-tail, All-append, All-push, All-weaker, All-get_or, filter_map-append}
use Rattle.std.proofs.lemmas.List.{length_push}
use Rattle.std.proofs.lemmas.Option.{slice_get_within, get_or_from_slice_get}
use Rattle.script_plan.specs.declared.step.Step.{Step}
use Rattle.script_plan.specs.declared.step.Act.{Act}
use Rattle.script_plan.specs.declared.step.Act.TheVariants.{Monitor, Demonitor}
use Rattle.script_plan.specs.Plan.{Plan, IsPlan, IsWithin}
use Rattle.script_plan.specs.Monitors.{monitor_count, monitors_of, begun_monitor, ended, oldest_monitor, NumberBelow, NumberNext, IsNumbered}
use Rattle.gateway_script.proofs.Kept.{monitor_count-push, listed, filter_map-one}

count_grows : (p : ℕ) (steps : List Step) (s : Step) → monitor_count p steps ≤ monitor_count p (steps ++ s ∷ [])
count_grows p steps s = rw (monitor_count-push p steps s) (omega arith)

NumberBelow-more : (a : Act) (m n : ℕ) → m ≤ n → NumberBelow m a → NumberBelow n a
NumberBelow-more (Monitor port number) m n le h = omega arith
NumberBelow-more (Demonitor port number) m n le h = omega arith
NumberBelow-more _ m n le h = tt

NumberBelow-last : (steps : List Step) (line process : ℕ) (a : Act) → NumberNext (monitor_count process steps) a
    → NumberBelow (monitor_count process (steps ++ record { line = line; process = process; act = a } ∷ [])) a
NumberBelow-last steps line process (Monitor port number) h =
    let s : Step = record { line = line; process = process; act = Monitor port number } in
    rw (monitor_count-push process steps s, eq-eqb process process refl) (omega arith)
NumberBelow-last steps line process (Demonitor port number) h =
    let s : Step = record { line = line; process = process; act = Demonitor port number } in
    omega (arith, count_grows process steps s)
NumberBelow-last steps line process _ h = tt

pub IsNumbered-push : (steps : List Step) (line process : ℕ) (a : Act) → IsNumbered steps → NumberNext (monitor_count process steps) a → IsNumbered (steps ++ record { line = line; process = process; act = a } ∷ [])
IsNumbered-push steps line process a numbered next =
    let s : Step = record { line = line; process = process; act = a } in
    All-push (λ t. NumberBelow (monitor_count t.process (steps ++ s ∷ [])) t.act) steps s
    (All-weaker (λ t. NumberBelow (monitor_count t.process steps) t.act) (λ t. NumberBelow (monitor_count t.process (steps ++ s ∷ [])) t.act)
    (λ t h. NumberBelow-more t.act (monitor_count t.process steps) (monitor_count t.process (steps ++ s ∷ [])) (count_grows t.process steps s) h) steps numbered)
    (NumberBelow-last steps line process a next)

-- the number that an act begins, if it is one of this process and port
begun_below : (n q : ℕ) (a : Act) → NumberBelow n a → All (λ k. k < n) (listed (begun_monitor q a))
begun_below n q (Monitor other number) h = elim (eqb other q) as (λ b. All (λ k. k < n) (listed (cond b (Some number) None))) [
  | true ↦ All-cons (λ k. k < n) number [] h (All-nil (λ k. k < n))
  | false ↦ All-nil (λ k. k < n)
]
begun_below n q _ h = All-nil (λ k. k < n)

monitors_below : (count : ℕ → ℕ) (p q : ℕ) (steps : List Step) → All (λ s. NumberBelow (count s.process) s.act) steps → All (λ k. k < count p) (monitors_of p q steps)
monitors_below count p q [] all = All-nil (λ k. k < count p)
monitors_below count p q (s ∷ steps) all =
    let begun : Step → Option ℕ = λ s. cond (eqb s.process p) (begun_monitor q s.act) None in
    let here : All (λ k. k < count p) (listed (begun s)) = elim (eqb_tells s.process p) [
      | inl (t, e) ↦ rw t (begun_below (count p) q s.act (subst (λ (r : ℕ). NumberBelow (count r) s.act) e (All-head (λ s. NumberBelow (count s.process) s.act) s steps all)))
      | inr (t, e) ↦ rw t (All-nil (λ k. k < count p))
    ] in
    subst (λ (ns : List ℕ). All (λ k. k < count p) ns) (sym (filter_map-append begun (s ∷ []) steps))
    (All-append (λ k. k < count p) (filter_map begun (s ∷ [])) (filter_map begun steps)
    (subst (λ (ns : List ℕ). All (λ k. k < count p) ns) (sym (filter_map-one begun s)) here)
    (monitors_below count p q steps (All-tail (λ s. NumberBelow (count s.process) s.act) s steps all)))

pub oldest_below : (p q number : ℕ) (steps : List Step) → IsNumbered steps → oldest_monitor p q steps ≡ Some number → number < monitor_count p steps
oldest_below p q number steps numbered e =
    let numbers = monitors_of p q steps in
    let k = ended p q steps in
    let all = monitors_below (λ r. monitor_count r steps) p q steps numbered in
    subst (λ (n : ℕ). n < monitor_count p steps) (get_or_from_slice_get numbers k number number e)
    (All-get_or (λ n. n < monitor_count p steps) numbers k number (slice_get_within numbers k number e) all)

-- a script with one more step
pub IsPlan-step : (plan : Plan) (line process : ℕ) (a : Act) → IsPlan plan → length plan.steps < 131072 → process < length plan.processes → IsWithin (length plan.processes) (length plan.ports) a
    → NumberNext (monitor_count process plan.steps) a → IsPlan (record plan { steps = plan.steps ++ record { line = line; process = process; act = a } ∷ [] })
IsPlan-step plan line process a is few sender within next =
    let s : Step = record { line = line; process = process; act = a } in
    record {
      few_processes = is.few_processes;
      few_ports = is.few_ports;
      few_steps = omega (arith, length_push plan.steps s);
      owners = is.owners;
      configs = is.configs;
      saved = is.saved;
      senders = All-push (λ t. t.process < length plan.processes) plan.steps s is.senders sender;
      named = All-push (λ t. IsWithin (length plan.processes) (length plan.ports) t.act) plan.steps s is.named within;
      numbered = IsNumbered-push plan.steps line process a is.numbered next;
    }
