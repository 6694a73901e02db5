-- Which seat runs.
use Rattle.std.proofs.Common.{◌≡◌, ℕ, suc, ◌≤◌, eqb, List, [], ◌∷◌, get_or, sym, refl, ap, ◌∙◌, arith, Option, Some, None}
use Rattle.std.specs.List.{sum_by}
use Rattle.std.proofs.lemmas.List.Sums.{sum_by-cons}
use mathlib.Core.Option as seat
use mathlib.Core.Logic.{dite}
use native.Mathlib.Decide.{ℕ_discrete}
use lib.ListN.{get_elem?}
use Rattle.atomic_table.specs.Table.{State}
use Rattle.port_words.specs.sums.Counts.{one_if}
use Rattle.port_words.proofs.lemmas.sums.Counting.{same_number, other_number, is_one, once_below-not, once_below-le}
use Rattle.port_words.proofs.lemmas.sums.Totals.{sum_at, sum_at_two, sum_by-at_most}
use Rattle.port_words.specs.declared.home.view.HomeView.{HomeView}
use Rattle.port_words.specs.home.Home.{IsHome, running, queued, runs_at, runs_in, begun_in, used_in, begun_of}
use Rattle.port_words.specs.home.Laws.{OneRuns, RunsSomewhere, TurnsBeginOnce}

-- a sum that is not 0 has a part that is not 0
some_part : {V : Type 0} (f : V → ℕ) (views : List V) → 1 ≤ sum_by f views → (i : ℕ) × (v : V) × (get_elem? views i ≡ seat.some v) × (1 ≤ f v)
some_part f [] more = absurd (omega arith)
some_part f (x ∷ xs) more =
    let parts = sum_by-cons f x xs in
    dite (ℕ_discrete (f x) 0)
    (λ none. let rest = some_part f xs (omega arith) in (suc rest.0, rest.1, rest.2, rest.3))
    (λ some. (0, x, refl, omega arith))

runs_one : (turn : ℕ) (o : Option ℕ) → o ≡ Some turn → runs_at turn o ≡ 1
runs_one turn o is = ap (runs_at turn) is ∙ same_number turn turn refl

runs_is : (turn : ℕ) (o : Option ℕ) → 1 ≤ runs_at turn o → o ≡ Some turn
runs_is turn None h = absurd (omega arith)
runs_is turn (Some other) h = ap (λ n. Some n) (is_one other turn h)

at_most_one : (a b : ℕ) → one_if (eqb a b) ≤ 1
at_most_one a b = dite (ℕ_discrete a b) (λ same. let is = same_number a b same in omega arith) (λ differ. let no = other_number a b differ in omega arith)

module _ {B N : Type 0} (name : B → N) where
  run_is : (was : B) (seats : ℕ) (s : State (Option B) (HomeView B)) → IsHome name was seats s → (i turn : ℕ) (v : HomeView B) → get_elem? s.views i ≡ seat.some v → v.running ≡ Some turn
      → get_or s.words 0 0 ≡ running turn
  run_is was seats s rule i turn v at runs =
      let part = sum_at (runs_in turn) s.views i v at in
      let one : runs_in turn v ≡ 1 = runs_one turn v.running runs in
      let all = rule.one_runs turn in
      is_one (get_or s.words 0 0) (running turn) (omega arith)

  pub one_runs : OneRuns name
  one_runs was seats s rule i j turn other v w at at' runs runs' =
      let run = run_is was seats s rule i turn v at runs in
      let run' = run_is was seats s rule j other w at' runs' in
      let same : turn ≡ other = omega arith in
      dite (ℕ_discrete i j)
      (λ one. (one, same, run))
      (λ two.
      let parts = sum_at_two (runs_in turn) s.views i j v w at at' two in
      let first : runs_in turn v ≡ 1 = runs_one turn v.running runs in
      let second : runs_in turn w ≡ 1 = runs_one turn w.running (runs' ∙ ap (λ n. Some n) (sym same)) in
      let all = rule.one_runs turn in
      let most = at_most_one (get_or s.words 0 0) (running turn) in
      absurd (omega arith))

  pub runs_somewhere : RunsSomewhere name
  runs_somewhere was seats s rule turn is =
      let one = same_number (get_or s.words 0 0) (running turn) is in
      let all = rule.one_runs turn in
      let part = some_part (runs_in turn) s.views (omega arith) in
      (part.0, part.1, part.2, runs_is turn part.1.running part.3)

  pub turns_begin_once : TurnsBeginOnce name
  turns_begin_once was seats s rule turn =
      let run : ℕ = get_or s.words 0 0 in
      let begun = rule.turns turn in
      let most = once_below-le (begun_of run) turn in
      let tickets = rule.tickets turn in
      let used = sum_by-at_most (used_in turn) (begun_in turn) (λ u. omega arith) s.views in
      (omega arith, dite (ℕ_discrete run (queued turn)) (λ same. let one = same_number run (queued turn) same in let none = once_below-not (begun_of run) turn (omega arith) in omega arith) (λ differ. let no = other_number run (queued turn) differ in omega arith))
