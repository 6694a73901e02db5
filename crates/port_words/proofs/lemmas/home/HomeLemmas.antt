-- Each kind of step on RUN keeps the rule of a home, and tells what the step's `Play` says.
use Rattle.std.proofs.Common.{◌≡◌, ◌≢◌, ℕ, zero, suc, ◌+◌, ◌-◌, ◌^◌, ◌<◌, ◌≤◌, eqb, List, [], ◌∷◌, ◌++◌, get_or, set, sym, refl, ap, ◌∙◌, subst, arith, Option, Some, None, get_or-set_same, length-set, lt_of_not-le, replicate}
use Rattle.std.specs.List.{All, sum_by}
use Rattle.std.specs.Prelude.{MatchOption}
use Rattle.std.proofs.lemmas.List.Elements.{All-head, All-tail, All-nil, All-set, All-push, All-append, All-weaker}
use Rattle.std.specs.declared.snapshot.Snapshot.{Snapshot}
use mathlib.Core.Option.{none, some}
use mathlib.Core.Logic.{dite}
use native.Mathlib.Decide.{dec_le, ℕ_discrete}
use lib.ListN.{get_elem?}
use prog.Atomic.{either}
use Rattle.atomic_table.proofs.Lists.{set_else, exchanged}
use Rattle.atomic_table.specs.Table.{State, Me, Act, Allows, Splits, Joins, keeps, takes, gives, opening, rest, homes_after, carried_after, Valid, put_back}
use Rattle.port_words.specs.sums.Counts.{times, once_below, one_if}
use Rattle.port_words.proofs.lemmas.sums.Counting.{same_number, other_number, once_below-yes, once_below-not, once_below-step, once_below-le, same_test, is_one, times-push, times-append}
use Rattle.port_words.proofs.lemmas.sums.Totals.{sum_set, sum_split, sum_join, sum_at, sum_alone_where, sum_by-at_most, all_at}
use Rattle.port_words.specs.declared.home.view.HomeView.{HomeView}
use Rattle.port_words.specs.home.Seats.{HomeKnown}
use Rattle.port_words.specs.home.Home.{idle, queued, running, turn_of, kind_of, begun_of, runs_at, RunsIn, fresh_view, spent, shares_in, made_in, used_in, begun_in, runs_in, IsHomeView, IsSlot, IsHome, TellsHome, IsBodyOf, IsNamed, HasBegunNone, IsLastBody, looked, scheduled, claimed_view, stale_view, begun_view, withdrawn_view, ended_view, joined, one_share, other_shares, Looks, Queues, TakesBody, Claims, Begins, Withdraws, Ends}

runs_told : (run : ℕ) (o : Option ℕ) → ((turn : ℕ) → runs_at turn o ≤ one_if (eqb run (running turn))) → RunsIn run o
runs_told run None h = tt
runs_told run (Some turn) h = is_one run (running turn) (let own = same_number turn turn refl in let k = h turn in omega arith)

module _ {B N : Type 0} (name : B → N) (was : B) (seats : ℕ) where
  blank_made : (views : List (HomeView B)) (run turn : ℕ) → All (IsHomeView was seats run) views → All (λ u. shares_in u ≡ 0 → made_in turn u ≡ 0) views
  blank_made views run turn known = All-weaker (IsHomeView was seats run) (λ u. shares_in u ≡ 0 → made_in turn u ≡ 0) (λ u k none'. ap (times turn) (k.blank none').made) views known

  blank_used : (views : List (HomeView B)) (run turn : ℕ) → All (IsHomeView was seats run) views → All (λ u. shares_in u ≡ 0 → used_in turn u ≡ 0) views
  blank_used views run turn known = All-weaker (IsHomeView was seats run) (λ u. shares_in u ≡ 0 → used_in turn u ≡ 0)
      (λ u k none'. let a : times turn u.claimed ≡ 0 = ap (times turn) (k.blank none').claimed in let b : times turn u.withdrawn ≡ 0 = ap (times turn) (k.blank none').withdrawn in omega arith) views known

  blank_begun : (views : List (HomeView B)) (run turn : ℕ) → All (IsHomeView was seats run) views → All (λ u. shares_in u ≡ 0 → begun_in turn u ≡ 0) views
  blank_begun views run turn known = All-weaker (IsHomeView was seats run) (λ u. shares_in u ≡ 0 → begun_in turn u ≡ 0)
      (λ u k none'. let a : times turn u.claimed ≡ 0 = ap (times turn) (k.blank none').claimed in let b : times turn u.withdrawn ≡ 0 = ap (times turn) (k.blank none').withdrawn in let d : times turn u.idle ≡ 0 = ap (times turn) (k.blank none').idle in omega arith) views known

  blank_runs : (views : List (HomeView B)) (run turn : ℕ) → All (IsHomeView was seats run) views → All (λ u. shares_in u ≡ 0 → runs_in turn u ≡ 0) views
  blank_runs views run turn known = All-weaker (IsHomeView was seats run) (λ u. shares_in u ≡ 0 → runs_in turn u ≡ 0) (λ u k none'. ap (runs_at turn) (k.blank none').running) views known

  -- what the word found tells
  tells : (s : State (Option B) (HomeView B)) (id : ℕ) (v : HomeView B) → 0 < v.shares → IsHome name was seats s → get_elem? s.views id ≡ some v → TellsHome v (get_or s.words 0 0)
  tells s id v own rule at =
      let run : ℕ = get_or s.words 0 0 in
      let mine = all_at (IsHomeView was seats run) s.views id v rule.known at in
      let every : v.shares ≡ v.seats → sum_by shares_in s.views ≡ shares_in v = λ all. rule.shares ∙ sym (mine.made_with own).0 ∙ sym all in
      record {
        kind = rule.kind;
        last = rule.last;
        rises = mine.found;
        runs = runs_told run v.running (λ turn. let part = sum_at (runs_in turn) s.views id v at in let all = rule.one_runs turn in omega arith);
        one_ticket = (λ turn.
            let part = sum_at (made_in turn) s.views id v at in
            let tickets = rule.tickets turn in
            let used = sum_by-at_most (used_in turn) (begun_in turn) (λ u. omega arith) s.views in
            let begun = rule.turns turn in
            let most = once_below-le (begun_of run) turn in
            dite (ℕ_discrete run (queued turn))
            (λ same. let one = same_number run (queued turn) same in let none' = once_below-not (begun_of run) turn (omega arith) in omega arith)
            (λ differ. let no = other_number run (queued turn) differ in omega arith));
        begun_once = (λ turn. let part = sum_at (begun_in turn) s.views id v at in let all = rule.turns turn in omega arith);
        every_turn = (λ all turn. sym (sum_alone_where (begun_in turn) shares_in s.views id v (blank_begun s.views run turn rule.known) at (every all)) ∙ rule.turns turn);
        every_ticket = (λ all turn.
            let made = sum_alone_where (made_in turn) shares_in s.views id v (blank_made s.views run turn rule.known) at (every all) in
            let used = sum_alone_where (used_in turn) shares_in s.views id v (blank_used s.views run turn rule.known) at (every all) in
            let tickets = rule.tickets turn in
            omega arith);
        nobody_runs = (λ all idle' is.
            let mine' = sum_alone_where (runs_in (turn_of run)) shares_in s.views id v (blank_runs s.views run (turn_of run) rule.known) at (every all) in
            let none' : runs_in (turn_of run) v ≡ 0 = ap (runs_at (turn_of run)) idle' in
            let word = rule.one_runs (turn_of run) in
            let one = same_number run (running (turn_of run)) (omega arith) in
            absurd (omega arith));
      }

  -- a move of RUN from m to n, and of the seat's view from v to w
  record Moves (m n : ℕ) (v w : HomeView B) : Type 0 where
    later : m ≤ n
    kind : kind_of n ≤ 2
    last : (turn_of n ≤ 2 ^ 61) × (kind_of n ≡ 1 → turn_of n < 2 ^ 61)
    tickets : (turn : ℕ) → made_in turn w + used_in turn v + one_if (eqb m (queued turn)) ≡ made_in turn v + used_in turn w + one_if (eqb n (queued turn))
    turns : (turn : ℕ) → begun_in turn w + once_below (begun_of m) turn ≡ begun_in turn v + once_below (begun_of n) turn
    one_runs : (turn : ℕ) → runs_in turn w + one_if (eqb m (running turn)) ≡ runs_in turn v + one_if (eqb n (running turn))
    shares : w.shares ≡ v.shares
    made_with : (w.seats ≡ v.seats) × (w.body ≡ v.body)
    found : w.found ≡ v.found ++ m ∷ []

  moved : (s : State (Option B) (HomeView B)) (id : ℕ) (v w : HomeView B) (n : ℕ) (homes : List (mathlib.Core.Option.Option (Option B))) → 0 < v.shares → IsHome name was seats s → get_elem? s.views id ≡ some v
      → Moves (get_or s.words 0 0) n v w → IsSlot name was n homes
      → IsHome name was seats record { words = set s.words 0 n; homes = homes; views = set s.views id w }
  moved s id v w n homes own rule at to slot =
      let m : ℕ = get_or s.words 0 0 in
      let mine = all_at (IsHomeView was seats m) s.views id v rule.known at in
      let one = rule.one_word in
      let is : get_or (set s.words 0 n) 0 0 ≡ n = get_or-set_same s.words 0 n 0 (omega arith) in
      let later = to.later in
      record {
        one_word = length-set s.words 0 n ∙ rule.one_word;
        kind = subst (λ (k : ℕ). kind_of k ≤ 2) (sym is) to.kind;
        last = subst (λ (k : ℕ). (turn_of k ≤ 2 ^ 61) × (kind_of k ≡ 1 → turn_of k < 2 ^ 61)) (sym is) to.last;
        tickets = (λ turn.
            let made = sum_set (made_in turn) s.views id v w at in
            let used = sum_set (used_in turn) s.views id v w at in
            let before = rule.tickets turn in
            let step = to.tickets turn in
            let word : one_if (eqb (get_or (set s.words 0 n) 0 0) (queued turn)) ≡ one_if (eqb n (queued turn)) = ap (λ (k : ℕ). one_if (eqb k (queued turn))) is in
            omega arith);
        turns = (λ turn.
            let begun = sum_set (begun_in turn) s.views id v w at in
            let before = rule.turns turn in
            let step = to.turns turn in
            let word : once_below (begun_of (get_or (set s.words 0 n) 0 0)) turn ≡ once_below (begun_of n) turn = ap (λ (k : ℕ). once_below (begun_of k) turn) is in
            omega arith);
        one_runs = (λ turn.
            let runs = sum_set (runs_in turn) s.views id v w at in
            let before = rule.one_runs turn in
            let step = to.one_runs turn in
            let word : one_if (eqb (get_or (set s.words 0 n) 0 0) (running turn)) ≡ one_if (eqb n (running turn)) = ap (λ (k : ℕ). one_if (eqb k (running turn))) is in
            omega arith);
        shares = (let sums = sum_set shares_in s.views id v w at in let before = rule.shares in let same = to.shares in omega arith);
        slot = subst (λ (k : ℕ). IsSlot name was k homes) (sym is) slot;
        known = subst (λ (k : ℕ). All (IsHomeView was seats k) (set s.views id w)) (sym is)
            (All-set (IsHomeView was seats n) s.views id w
            (record {
              found = subst (All (λ k. k ≤ n)) (sym to.found) (All-push (λ k. k ≤ n) v.found m (All-weaker (λ k. k ≤ m) (λ k. k ≤ n) (λ k h. omega arith) v.found mine.found) later);
              made_with = (λ h. (to.made_with.0 ∙ (mine.made_with own).0, subst (λ b. MatchOption b ⊥ (λ x. x.value ≡ was)) (sym to.made_with.1) (mine.made_with own).1));
              blank = (λ h. let same = to.shares in absurd (omega arith));
            })
            (All-weaker (IsHomeView was seats m) (IsHomeView was seats n)
            (λ u k. record { found = All-weaker (λ i. i ≤ m) (λ i. i ≤ n) (λ i h. omega arith) u.found k.found; made_with = k.made_with; blank = k.blank })
            s.views rule.known));
      }

  looks_move : (m : ℕ) (v : HomeView B) → kind_of m ≤ 2 → (turn_of m ≤ 2 ^ 61) × (kind_of m ≡ 1 → turn_of m < 2 ^ 61) → Moves m m v (looked v (m ∷ []))
  looks_move m v kind last = record { later = omega arith; kind = kind; last = last; tickets = (λ turn. refl); turns = (λ turn. refl); one_runs = (λ turn. refl); shares = refl; made_with = (refl, refl); found = refl }

  stale_move : (m turn' : ℕ) (v : HomeView B) → kind_of m ≤ 2 → (turn_of m ≤ 2 ^ 61) × (kind_of m ≡ 1 → turn_of m < 2 ^ 61) → Moves m m v (stale_view v turn' m)
  stale_move m turn' v kind last = record { later = omega arith; kind = kind; last = last; tickets = (λ turn. refl); turns = (λ turn. refl); one_runs = (λ turn. refl); shares = refl; made_with = (refl, refl); found = refl }

  queue_move : (m n turn : ℕ) (v : HomeView B) → m ≡ idle turn → n ≡ queued turn → turn < 2 ^ 61 → Moves m n v (scheduled v turn)
  queue_move m n turn v from to below = record {
    later = omega arith;
    kind = omega arith;
    last = (omega arith, λ k. omega arith);
    tickets = (λ other.
        let push = times-push other v.made turn in
        let test = same_test turn other n (queued other) (λ e. omega arith) (λ e. omega arith) in
        let no = other_number m (queued other) (λ e. absurd (omega arith)) in
        omega arith);
    turns = (λ other. let bound : once_below (begun_of m) other ≡ once_below (begun_of n) other = ap (λ k. once_below k other) (omega arith) in omega arith);
    one_runs = (λ other. let a = other_number m (running other) (λ e. absurd (omega arith)) in let b = other_number n (running other) (λ e. absurd (omega arith)) in omega arith);
    shares = refl;
    made_with = (refl, refl);
    found = ap (λ k. v.found ++ k ∷ []) (sym from);
  }

  claim_move : (m n turn : ℕ) (v : HomeView B) → m ≡ queued turn → n ≡ running turn → turn ≤ 2 ^ 61 → v.running ≡ None → Moves m n v (claimed_view v turn)
  claim_move m n turn v from to below idle' = record {
    later = omega arith;
    kind = omega arith;
    last = (omega arith, λ k. omega arith);
    tickets = (λ other.
        let push = times-push other v.claimed turn in
        let test = same_test turn other m (queued other) (λ e. omega arith) (λ e. omega arith) in
        let no = other_number n (queued other) (λ e. absurd (omega arith)) in
        omega arith);
    turns = (λ other.
        let push = times-push other v.claimed turn in
        let before : once_below (begun_of m) other ≡ once_below turn other = ap (λ k. once_below k other) (omega arith) in
        let after : once_below (begun_of n) other ≡ once_below (turn + 1) other = ap (λ k. once_below k other) (omega arith) in
        let step = once_below-step turn other in
        omega arith);
    one_runs = (λ other.
        let none' : runs_at other v.running ≡ 0 = ap (runs_at other) idle' in
        let a = other_number m (running other) (λ e. absurd (omega arith)) in
        let b = same_test turn other n (running other) (λ e. omega arith) (λ e. omega arith) in
        omega arith);
    shares = refl;
    made_with = (refl, refl);
    found = ap (λ k. v.found ++ k ∷ []) (sym from);
  }

  withdraw_move : (m n turn : ℕ) (v : HomeView B) → m ≡ queued turn → n ≡ running turn → turn ≤ 2 ^ 61 → v.running ≡ None → Moves m n v (withdrawn_view v turn)
  withdraw_move m n turn v from to below idle' = record {
    later = omega arith;
    kind = omega arith;
    last = (omega arith, λ k. omega arith);
    tickets = (λ other.
        let push = times-push other v.withdrawn turn in
        let test = same_test turn other m (queued other) (λ e. omega arith) (λ e. omega arith) in
        let no = other_number n (queued other) (λ e. absurd (omega arith)) in
        omega arith);
    turns = (λ other.
        let push = times-push other v.withdrawn turn in
        let before : once_below (begun_of m) other ≡ once_below turn other = ap (λ k. once_below k other) (omega arith) in
        let after : once_below (begun_of n) other ≡ once_below (turn + 1) other = ap (λ k. once_below k other) (omega arith) in
        let step = once_below-step turn other in
        omega arith);
    one_runs = (λ other.
        let none' : runs_at other v.running ≡ 0 = ap (runs_at other) idle' in
        let a = other_number m (running other) (λ e. absurd (omega arith)) in
        let b = same_test turn other n (running other) (λ e. omega arith) (λ e. omega arith) in
        omega arith);
    shares = refl;
    made_with = (refl, refl);
    found = ap (λ k. v.found ++ k ∷ []) (sym from);
  }

  begin_move : (m n turn : ℕ) (v : HomeView B) → m ≡ idle turn → n ≡ running turn → turn ≤ 2 ^ 61 → v.running ≡ None → Moves m n v (begun_view v turn)
  begin_move m n turn v from to below idle' = record {
    later = omega arith;
    kind = omega arith;
    last = (omega arith, λ k. omega arith);
    tickets = (λ other. let a = other_number m (queued other) (λ e. absurd (omega arith)) in let b = other_number n (queued other) (λ e. absurd (omega arith)) in omega arith);
    turns = (λ other.
        let push = times-push other v.idle turn in
        let before : once_below (begun_of m) other ≡ once_below turn other = ap (λ k. once_below k other) (omega arith) in
        let after : once_below (begun_of n) other ≡ once_below (turn + 1) other = ap (λ k. once_below k other) (omega arith) in
        let step = once_below-step turn other in
        omega arith);
    one_runs = (λ other.
        let none' : runs_at other v.running ≡ 0 = ap (runs_at other) idle' in
        let a = other_number m (running other) (λ e. absurd (omega arith)) in
        let b = same_test turn other n (running other) (λ e. omega arith) (λ e. omega arith) in
        omega arith);
    shares = refl;
    made_with = (refl, refl);
    found = ap (λ k. v.found ++ k ∷ []) (sym from);
  }

  end_move : (m n turn : ℕ) (v : HomeView B) → m ≡ running turn → n ≡ idle (turn + 1) → turn < 2 ^ 61 → v.running ≡ Some turn → Moves m n v (ended_view v turn)
  end_move m n turn v from to below runs = record {
    later = omega arith;
    kind = omega arith;
    last = (omega arith, λ k. omega arith);
    tickets = (λ other. let a = other_number m (queued other) (λ e. absurd (omega arith)) in let b = other_number n (queued other) (λ e. absurd (omega arith)) in omega arith);
    turns = (λ other. let bound : once_below (begun_of m) other ≡ once_below (begun_of n) other = ap (λ k. once_below k other) (omega arith) in omega arith);
    one_runs = (λ other.
        let mine : runs_at other v.running ≡ one_if (eqb turn other) = ap (runs_at other) runs in
        let a = same_test turn other m (running other) (λ e. omega arith) (λ e. omega arith) in
        let b = other_number n (running other) (λ e. absurd (omega arith)) in
        omega arith);
    shares = refl;
    made_with = (refl, refl);
    found = ap (λ k. v.found ++ k ∷ []) (sym from);
  }

  pub looks : (slots id : ℕ) (me : Me (Option B) (HomeView B)) → 0 < me.0.shares → Allows (IsHome name was seats) slots id me 0 (λ n. n) (Looks me)
  looks slots id me own s rule room at below =
      let m : ℕ = get_or s.words 0 0 in
      (looked me.0 (m ∷ []), keeps, tt, moved s id me.0 (looked me.0 (m ∷ [])) m s.homes own rule at (looks_move m me.0 rule.kind rule.last) rule.slot, (refl, tells s id me.0 own rule at))

  -- a slot at home stays so when a turn is queued
  slot_queued : (m n : ℕ) (homes : List (mathlib.Core.Option.Option (Option B))) → kind_of m ≢ 2 → kind_of n ≢ 2 → m ≤ n → IsSlot name was m homes → IsSlot name was n homes
  slot_queued m n homes before after later slot = ((λ k. absurd (after k)), (λ k. let x = slot.1 before in (x.0, x.1, x.2, λ h. x.3 (omega arith))))

  pub queues : (slots id : ℕ) (me : Me (Option B) (HomeView B)) (expected new : ℕ) → 0 < me.0.shares → kind_of expected ≡ 0 → expected < 2 ^ 63 → new ≡ expected + 1
      → Allows (IsHome name was seats) slots id me 0 (λ n. either (eqb n expected) new n) (Queues expected me)
  queues slots id me expected new own is_idle before next s rule room at below =
      let v = me.0 in
      let m : ℕ = get_or s.words 0 0 in
      let told = tells s id v own rule at in
      exchanged m expected new
      (λ k. (w : HomeView B) × (a : Act (Option B)) × Valid s.homes me.1 a × IsHome name was seats record { words = set s.words 0 k; homes = homes_after s.homes me.1 a; views = set s.views id w } × Queues expected me m (w, carried_after me.1 a))
      (λ hit. (
        scheduled v (turn_of m),
        keeps,
        tt,
        moved s id v (scheduled v (turn_of m)) new s.homes own rule at (queue_move m new (turn_of m) v (omega arith) (omega arith) (omega arith)) (slot_queued m new s.homes (λ k. absurd (omega arith)) (λ k. absurd (omega arith)) (omega arith) rule.slot),
        ((λ e. refl), (λ ne. absurd (ne hit)), told),
      ))
      (λ miss. (
        looked v (m ∷ []),
        keeps,
        tt,
        moved s id v (looked v (m ∷ [])) m s.homes own rule at (looks_move m v rule.kind rule.last) rule.slot,
        ((λ e. absurd (miss e)), (λ ne. refl), told),
      ))

  none_runs : (run : ℕ) (o : Option ℕ) → RunsIn run o → kind_of run ≢ 2 → o ≡ None
  none_runs run None runs ne = refl
  none_runs run (Some turn) runs ne = absurd (ne (let e : run ≡ running turn = runs in omega arith))

  body_of : (o : Option (Snapshot B)) (turn : ℕ) (x : B) → MatchOption o ⊥ (λ b. b.value ≡ was) → name x ≡ name was → (turn ≡ 0 → x ≡ was) → IsBodyOf name o turn x
  body_of None turn x with' named first = absurd with'
  body_of (Some b) turn x with' named first = (named ∙ ap name (sym with'), λ z. first z ∙ sym with')

  -- a step by which the seat begins to run takes the body out
  takes_body : (s : State (Option B) (HomeView B)) (id : ℕ) (me : Me (Option B) (HomeView B)) (n turn : ℕ) (w : HomeView B) → 0 < me.0.shares → me.1 ≡ [] → IsHome name was seats s → get_elem? s.views id ≡ some me.0
      → kind_of (get_or s.words 0 0) ≢ 2 → kind_of n ≡ 2 → turn ≡ turn_of (get_or s.words 0 0) → Moves (get_or s.words 0 0) n me.0 w
      → (a : Act (Option B)) × Valid s.homes me.1 a × IsHome name was seats record { words = set s.words 0 n; homes = homes_after s.homes me.1 a; views = set s.views id w } × TakesBody name me w turn (w, carried_after me.1 a)
  takes_body s id me n turn w own empty rule at before after same move =
      let m : ℕ = get_or s.words 0 0 in
      let x = rule.slot.1 before in
      let mine = all_at (IsHomeView was seats m) s.views id me.0 rule.known at in
      let out : set s.homes 0 none ≡ none ∷ [] = ap (λ (h : List (mathlib.Core.Option.Option (Option B))). set h 0 none) x.1 in (
        takes 0 (Some x.0),
        ap (λ (h : List (mathlib.Core.Option.Option (Option B))). get_elem? h 0) x.1,
        moved s id me.0 w n (set s.homes 0 none) own rule at move ((λ k. out), (λ k. absurd (k after))),
        (x.0, (λ i. (w, (0, Some x.0) ∷ empty i)), body_of me.0.body turn x.0 (mine.made_with own).1 x.2 (λ z. x.3 (omega arith))),
      )

  pub claims : (slots id : ℕ) (me : Me (Option B) (HomeView B)) (held' : Option ℕ → List (ℕ × Option B)) (turn expected new : ℕ) → held' None ≡ [] → me.1 ≡ held' me.0.running → 0 < me.0.shares → expected ≡ queued turn → new ≡ running turn
      → Allows (IsHome name was seats) slots id me 0 (λ n. either (eqb n expected) new n) (Claims name expected me)
  claims slots id me held' turn expected new none_held holds own from to s rule room at below =
      let v = me.0 in
      let m : ℕ = get_or s.words 0 0 in
      let told = tells s id v own rule at in
      exchanged m expected new
      (λ k. (w : HomeView B) × (a : Act (Option B)) × Valid s.homes me.1 a × IsHome name was seats record { words = set s.words 0 k; homes = homes_after s.homes me.1 a; views = set s.views id w } × Claims name expected me m (w, carried_after me.1 a))
      (λ hit.
      let idle' = none_runs m v.running told.runs (λ k. absurd (omega arith)) in
      let last = rule.last.0 in
      let taken = takes_body s id me new (turn_of m) (claimed_view v (turn_of m)) own (holds ∙ ap held' idle' ∙ none_held) rule at (λ k. absurd (omega arith)) (omega arith) refl (claim_move m new (turn_of m) v (omega arith) (omega arith) last idle') in
      (claimed_view v (turn_of m), taken.0, taken.1, taken.2, ((λ e. taken.3), (λ ne. absurd (ne hit)), told)))
      (λ miss. (
        stale_view v (turn_of expected) m,
        keeps,
        tt,
        moved s id v (stale_view v (turn_of expected) m) m s.homes own rule at (stale_move m (turn_of expected) v rule.kind rule.last) rule.slot,
        ((λ e. absurd (miss e)), (λ ne. refl), told),
      ))

  pub begins : (slots id : ℕ) (me : Me (Option B) (HomeView B)) (held' : Option ℕ → List (ℕ × Option B)) (expected new : ℕ) → held' None ≡ [] → me.1 ≡ held' me.0.running → 0 < me.0.shares → kind_of expected ≡ 0 → new ≡ expected + 2
      → Allows (IsHome name was seats) slots id me 0 (λ n. either (eqb n expected) new n) (Begins name expected me)
  begins slots id me held' expected new none_held holds own is_idle next s rule room at below =
      let v = me.0 in
      let m : ℕ = get_or s.words 0 0 in
      let told = tells s id v own rule at in
      exchanged m expected new
      (λ k. (w : HomeView B) × (a : Act (Option B)) × Valid s.homes me.1 a × IsHome name was seats record { words = set s.words 0 k; homes = homes_after s.homes me.1 a; views = set s.views id w } × Begins name expected me m (w, carried_after me.1 a))
      (λ hit.
      let idle' = none_runs m v.running told.runs (λ k. absurd (omega arith)) in
      let last = rule.last.0 in
      let taken = takes_body s id me new (turn_of m) (begun_view v (turn_of m)) own (holds ∙ ap held' idle' ∙ none_held) rule at (λ k. absurd (omega arith)) (omega arith) refl (begin_move m new (turn_of m) v (omega arith) (omega arith) last idle') in
      (begun_view v (turn_of m), taken.0, taken.1, taken.2, ((λ e. taken.3), (λ ne. absurd (ne hit)), told)))
      (λ miss. (
        looked v (m ∷ []),
        keeps,
        tt,
        moved s id v (looked v (m ∷ [])) m s.homes own rule at (looks_move m v rule.kind rule.last) rule.slot,
        ((λ e. absurd (miss e)), (λ ne. refl), told),
      ))

  pub withdraws : (slots id : ℕ) (me : Me (Option B) (HomeView B)) (held' : Option ℕ → List (ℕ × Option B)) (expected new : ℕ) → held' None ≡ [] → me.1 ≡ held' me.0.running → 0 < me.0.shares → kind_of expected ≡ 1 → new ≡ expected + 1
      → Allows (IsHome name was seats) slots id me 0 (λ n. either (eqb n expected) new n) (Withdraws name expected me)
  withdraws slots id me held' expected new none_held holds own is_queued next s rule room at below =
      let v = me.0 in
      let m : ℕ = get_or s.words 0 0 in
      let told = tells s id v own rule at in
      exchanged m expected new
      (λ k. (w : HomeView B) × (a : Act (Option B)) × Valid s.homes me.1 a × IsHome name was seats record { words = set s.words 0 k; homes = homes_after s.homes me.1 a; views = set s.views id w } × Withdraws name expected me m (w, carried_after me.1 a))
      (λ hit.
      let idle' = none_runs m v.running told.runs (λ k. absurd (omega arith)) in
      let last = rule.last.0 in
      let taken = takes_body s id me new (turn_of m) (withdrawn_view v (turn_of m)) own (holds ∙ ap held' idle' ∙ none_held) rule at (λ k. absurd (omega arith)) (omega arith) refl (withdraw_move m new (turn_of m) v (omega arith) (omega arith) last idle') in
      (withdrawn_view v (turn_of m), taken.0, taken.1, taken.2, ((λ e. taken.3), (λ ne. absurd (ne hit)), told)))
      (λ miss. (
        looked v (m ∷ []),
        keeps,
        tt,
        moved s id v (looked v (m ∷ [])) m s.homes own rule at (looks_move m v rule.kind rule.last) rule.slot,
        ((λ e. absurd (miss e)), (λ ne. refl), told),
      ))

  named_was : (o : Option (Snapshot B)) (x : B) → MatchOption o ⊥ (λ b. b.value ≡ was) → IsNamed name o x → name x ≡ name was
  named_was None x with' named = absurd with'
  named_was (Some b) x with' named = named ∙ ap name with'

  -- the step by which the turn ends gives the body back
  pub ends : (slots id : ℕ) (me : Me (Option B) (HomeView B)) (turn : ℕ) (x : B) → 0 < me.0.shares → me.0.running ≡ Some turn → turn < 2 ^ 61 → me.1 ≡ (0, Some x) ∷ [] → IsNamed name me.0.body x
      → Allows (IsHome name was seats) slots id me 0 (λ n. idle (turn + 1)) (Ends me)
  ends slots id me turn x own runs below_last holds named s rule room at below =
      let v = me.0 in
      let m : ℕ = get_or s.words 0 0 in
      let told = tells s id v own rule at in
      let mine = all_at (IsHomeView was seats m) s.views id v rule.known at in
      let word : m ≡ running turn = subst (RunsIn m) runs told.runs in
      let same : turn ≡ turn_of m = omega arith in
      let out = rule.slot.0 (omega arith) in
      let n : ℕ = idle (turn + 1) in
      let back : homes_after s.homes me.1 gives ≡ some (Some x) ∷ [] = (λ i. put_back (out i) (holds i)) in (
        ended_view v (turn_of m),
        gives,
        tt,
        moved s id v (ended_view v (turn_of m)) n (homes_after s.homes me.1 gives) own rule at (end_move m n (turn_of m) v (omega arith) (omega arith) (omega arith) (runs ∙ ap Some same))
            ((λ k. absurd (omega arith)), (λ k. (x, back, named_was v.body x (mine.made_with own).1 named, λ h. absurd (omega arith)))),
        ((λ i. (ended_view v (turn_of m), rest (holds i))), told),
      )

  pub cuts : (id : ℕ) (v : HomeView B) → 1 < v.shares → Splits (IsHome name was seats) id v (other_shares v) (one_share v)
  cuts id v more s rule at =
      let m : ℕ = get_or s.words 0 0 in
      let mine = all_at (IsHomeView was seats m) s.views id v rule.known at in
      record {
        one_word = rule.one_word;
        kind = rule.kind;
        last = rule.last;
        tickets = (λ turn. let made = sum_split (made_in turn) s.views id v (other_shares v) (one_share v) at in let used = sum_split (used_in turn) s.views id v (other_shares v) (one_share v) at in let before = rule.tickets turn in omega arith);
        turns = (λ turn. let begun = sum_split (begun_in turn) s.views id v (other_shares v) (one_share v) at in let before = rule.turns turn in omega arith);
        one_runs = (λ turn. let runs = sum_split (runs_in turn) s.views id v (other_shares v) (one_share v) at in let before = rule.one_runs turn in omega arith);
        shares = (let sums = sum_split shares_in s.views id v (other_shares v) (one_share v) at in let before = rule.shares in omega arith);
        slot = rule.slot;
        known = All-push (IsHomeView was seats m) (set s.views id (other_shares v)) (one_share v)
            (All-set (IsHomeView was seats m) s.views id (other_shares v) (record { found = mine.found; made_with = (λ h. mine.made_with (omega arith)); blank = (λ h. absurd (omega arith)) }) rule.known)
            (record { found = All-nil (λ k. k ≤ m); made_with = (λ h. mine.made_with (omega arith)); blank = (λ h. absurd (omega arith)) });
      }

  pub joins : (id other : ℕ) (v w : HomeView B) → 0 < v.shares → w.running ≡ None → Joins (IsHome name was seats) id v other w (joined v w) spent
  joins id other v w own idle' s rule at apart there =
      let m : ℕ = get_or s.words 0 0 in
      let mine = all_at (IsHomeView was seats m) s.views id v rule.known at in
      let theirs = all_at (IsHomeView was seats m) s.views other w rule.known (sym (set_else s.views id other (joined v w) apart) ∙ there) in
      record {
        one_word = rule.one_word;
        kind = rule.kind;
        last = rule.last;
        tickets = (λ turn.
            let made = sum_join (made_in turn) s.views id v (joined v w) other w spent at there in
            let used = sum_join (used_in turn) s.views id v (joined v w) other w spent at there in
            let before = rule.tickets turn in
            let a = times-append turn v.made w.made in
            let b = times-append turn v.claimed w.claimed in
            let d = times-append turn v.withdrawn w.withdrawn in
            omega arith);
        turns = (λ turn.
            let begun = sum_join (begun_in turn) s.views id v (joined v w) other w spent at there in
            let before = rule.turns turn in
            let a = times-append turn v.idle w.idle in
            let b = times-append turn v.claimed w.claimed in
            let d = times-append turn v.withdrawn w.withdrawn in
            omega arith);
        one_runs = (λ turn.
            let runs = sum_join (runs_in turn) s.views id v (joined v w) other w spent at there in
            let before = rule.one_runs turn in
            let none' : runs_in turn w ≡ 0 = ap (runs_at turn) idle' in
            omega arith);
        shares = (let sums = sum_join shares_in s.views id v (joined v w) other w spent at there in let before = rule.shares in omega arith);
        slot = rule.slot;
        known = All-set (IsHomeView was seats m) (set s.views id (joined v w)) other spent
            (record { found = All-nil (λ k. k ≤ m); made_with = (λ h. absurd (omega arith)); blank = (λ h. record { made = refl; claimed = refl; idle = refl; withdrawn = refl; running = refl }) })
            (All-set (IsHomeView was seats m) s.views id (joined v w)
            (record { found = All-append (λ k. k ≤ m) v.found w.found mine.found theirs.found; made_with = (λ h. mine.made_with own); blank = (λ h. absurd (omega arith)) }) rule.known);
      }

  pub opens : (b : Snapshot B) (x : B) → x ≡ was → b.value ≡ was → IsHome name was seats (opening (0 ∷ []) (Some x ∷ []) (fresh_view (Some b) seats seats))
  opens b x first made = record {
    one_word = refl;
    kind = omega arith;
    last = (omega arith, λ k. omega arith);
    tickets = (λ turn. let no = other_number 0 (queued turn) (λ e. absurd (omega arith)) in omega arith);
    turns = (λ turn. let none' = once_below-not 0 turn (omega arith) in omega arith);
    one_runs = (λ turn. let no = other_number 0 (running turn) (λ e. absurd (omega arith)) in omega arith);
    shares = omega arith;
    slot = ((λ k. absurd (omega arith)), (λ k. (x, refl, ap name first, λ h. first)));
    known = All-push (IsHomeView was seats 0) [] (fresh_view (Some b) seats seats) (All-nil (IsHomeView was seats 0))
        (record { found = All-nil (λ k. k ≤ 0); made_with = (λ h. (refl, made)); blank = (λ h. record { made = refl; claimed = refl; idle = refl; withdrawn = refl; running = refl }) });
  }

all_right : {X : Type 0} (P : X → Type 0) (xs ys : List X) → All P (xs ++ ys) → All P ys
all_right P [] ys all = all
all_right P (x ∷ xs) ys all = all_right P xs ys (All-tail P x (xs ++ ys) all)

-- a word found after another one is greater, and words end
pub fewer_left : {B : Type 0} (v known : HomeView B) (ns : List ℕ) (run n : ℕ) → known ≡ looked v (ns ++ run ∷ []) → TellsHome known n → n ≢ run → 2 ^ 63 + 3 - n < 2 ^ 63 + 3 - run
fewer_left v known ns run n is told differ =
    let seen : All (λ k. k ≤ n) (v.found ++ (ns ++ run ∷ [])) = subst (λ u. All (λ k. k ≤ n) u.found) is told.rises in
    let later : run ≤ n = All-head (λ k. k ≤ n) run [] (all_right (λ k. k ≤ n) ns (run ∷ []) (all_right (λ k. k ≤ n) v.found (ns ++ run ∷ []) seen)) in
    let kind = told.kind in
    let last = told.last.0 in
    omega arith

no_turn : {B : Type 0} (v : HomeView B) (run : ℕ) → HasBegunNone v → begun_in 0 v ≡ once_below (begun_of run) 0 → turn_of run ≡ 0
no_turn v run none' every =
    let a : times 0 v.claimed ≡ 0 = ap (times 0) none'.claimed in
    let b : times 0 v.withdrawn ≡ 0 = ap (times 0) none'.withdrawn in
    let d : times 0 v.idle ≡ 0 = ap (times 0) none'.idle in
    dite (dec_le (begun_of run) 0) (λ le. omega arith) (λ gt. let lt = lt_of_not-le gt in let one = once_below-yes (begun_of run) 0 lt in absurd (omega arith))

-- the body of a turn that a seat with every share began is the last one
pub last_body : {B N : Type 0} (name : B → N) (v known : HomeView B) (ns : List ℕ) (run : ℕ) (x : B) → v.shares ≡ v.seats → known ≡ looked v ns → IsBodyOf name known.body (turn_of run) x → TellsHome known run → IsLastBody name v x
last_body name v known ns run x all same is told =
    let told' : TellsHome (looked v ns) run = subst (λ u. TellsHome u run) same told in
    let is' : IsBodyOf name v.body (turn_of run) x = subst (λ u. IsBodyOf name u.body (turn_of run) x) same is in
    (is'.0, λ none'. is'.1 (no_turn v run none' (told'.every_turn all 0)))

-- a seat with every share, which does not run, finds a word by which nobody runs
pub not_running : {B : Type 0} (v : HomeView B) (run : ℕ) → v.shares ≡ v.seats → v.running ≡ None → TellsHome v run → (kind_of run ≤ 1) × (run ≤ 2 ^ 63)
not_running v run all idle' told =
    let kind = told.kind in
    let last = told.last.0 in
    let not_two = told.nobody_runs all idle' in
    dite (ℕ_discrete (kind_of run) 1)
    (λ queued'. let below = told.last.1 queued' in (omega arith, omega arith))
    (λ other. (omega arith, omega arith))

pub one_seat_more : {B : Type 0} (n : ℕ) (x : HomeKnown B) → replicate n x ++ x ∷ [] ≡ replicate (suc n) x
one_seat_more zero x = refl
one_seat_more (suc n) x = ap (λ l. x ∷ l) (one_seat_more n x)
