-- Each kind of step on the word keeps the rule, and tells what the step's `Play` says.
use Rattle.std.proofs.Common.{◌≡◌, ℕ, zero, suc, ◌+◌, ◌-◌, ◌%◌, ◌^◌, ◌<◌, ◌≤◌, Bool, true, false, ◌&&◌, eqb, min, List, [], ◌∷◌, ◌++◌, length, get_or, set, take, drop, sym, refl, ap, ◌∙◌, subst, arith, Option, Some, get_or-set_same, length-set, add-zero, lt_of_not-le}
use Rattle.std.specs.List.{All, count_by}
use Rattle.std.specs.Option.{is_some}
use Rattle.std.proofs.lemmas.List.Sums.{sum_by-cons, sum_by-append, count_by-le-length}
use Rattle.std.proofs.lemmas.List.Elements.{All-nil, All-set, All-push, All-append, All-weaker}
use Rattle.std.proofs.lemmas.Bool.{lt-ltb}
use mathlib.Core.Logic.{dite}
use native.Mathlib.Decide.{dec_le}
use mathlib.Core.Option.{some}
use lib.ListN.{get_elem?}
use Rattle.std.proofs.Common.{length-append}
use Rattle.atomic_table.proofs.Lists.{set_else}
use Rattle.atomic_table.specs.Seated.{TableId}
use Rattle.atomic_table.specs.Table.{State, Me, Allows, Splits, Joins, keeps, opening}
use Rattle.port_words.specs.sums.Counts.{once_below, one_if}
use Rattle.port_words.proofs.lemmas.sums.Counting.{other_number, once_below-yes, once_below-not, once_below-step}
use Rattle.port_words.proofs.lemmas.sums.Totals.{sum_set, sum_split, sum_join, sum_at, sum_alone, sum_by-at_most, all_at}
use Rattle.port_words.specs.declared.over.view.OverSize.{OverSize}
use Rattle.port_words.specs.declared.over.view.OverPlace.{OverPlace}
use Rattle.port_words.specs.declared.over.view.OverView.{OverView}
use Rattle.port_words.specs.over.Over.{finished_part, stopped_part, over_view, fresh_place, fresh_from, is_counted, is_finished, found_no_stop, is_first_stop, seats_in, numbered, counted_in, finished_in, stops_in, first_stops_in, NoMore, IsOverView, IsOver, TellsOver, finish, stop_at, HasToFinish, HasNotStopped, looked, finished_view, stopped_view, joined, spent, own_place, other_places, Looks, Finishes, Stops, OverKnown, over_known, fresh_seat, fresh_seats}

-- counts that no more pass are no greater
both_at_most : (a b : Bool) → one_if (a && b) ≤ one_if b
both_at_most true true = omega arith
both_at_most true false = omega arith
both_at_most false true = omega arith
both_at_most false false = omega arith

finished-counted : (counted : ℕ) (u : OverView) → finished_in counted u ≤ counted_in counted u
finished-counted counted u = sum_by-at_most (λ p. one_if (is_finished counted p)) (λ p. one_if (is_counted counted p)) (λ p. both_at_most p.finished (is_counted counted p)) u.places

nobody : (test : OverPlace → Bool) (u : OverView) → seats_in u ≡ 0 → count_by test u.places ≡ 0
nobody test u none = let most = count_by-le-length test u.places in omega arith

-- what the word found tells
pub tells : (s : State (Unit {0}) OverView) (id : ℕ) (v : OverView) → IsOver v.size s → get_elem? s.views id ≡ some v → TellsOver v (get_or s.words 0 0)
tells s id v rule at = record {
  finished_at_least = (let own = sum_at (finished_in v.size.counted) s.views id v at in let all = rule.finished in omega arith);
  finished_at_most = (let most = sum_by-at_most (finished_in v.size.counted) (counted_in v.size.counted) (finished-counted v.size.counted) s.views in let all = rule.finished in let seats = rule.counted in omega arith);
  stopped_at_least = (let own = sum_at stops_in s.views id v at in let all = rule.stopped in omega arith);
  stopped_at_most = (let most = sum_by-at_most stops_in seats_in (λ u. count_by-le-length (λ p. is_some p.stopped) u.places) s.views in let all = rule.stopped in let seats = rule.seats in omega arith);
  finished_exactly = (λ every. rule.finished ∙ sum_alone (finished_in v.size.counted) seats_in (nobody (is_finished v.size.counted)) s.views id v at (rule.seats ∙ sym every));
  stopped_exactly = (λ every. rule.stopped ∙ sum_alone stops_in seats_in (nobody (λ p. is_some p.stopped)) s.views id v at (rule.seats ∙ sym every));
  one_first_stop = (λ every. sym (sum_alone first_stops_in seats_in (nobody is_first_stop) s.views id v at (rule.seats ∙ sym every)) ∙ rule.first);
  rises = (all_at (IsOverView v.size (get_or s.words 0 0)) s.views id v rule.known at).found;
}

no_more_along : (a b c : ℕ) → NoMore b a → NoMore c b → NoMore c a
no_more_along a b c p q = (omega arith, omega arith)

NoMore-refl : (n : ℕ) → NoMore n n
NoMore-refl n = (omega arith, omega arith)

-- a step that makes the word n, and the view v of the seat w
changed : (s : State (Unit {0}) OverView) (id : ℕ) (v w : OverView) (n : ℕ) → IsOver v.size s → get_elem? s.views id ≡ some v
    → w.size ≡ v.size → ((k : ℕ) → numbered k w ≡ numbered k v) → seats_in w ≡ seats_in v → counted_in v.size.counted w ≡ counted_in v.size.counted v
    → finished_part n + finished_in v.size.counted v ≡ finished_part (get_or s.words 0 0) + finished_in v.size.counted w
    → stopped_part n + stops_in v ≡ stopped_part (get_or s.words 0 0) + stops_in w
    → min 1 (stopped_part n) + first_stops_in v ≡ min 1 (stopped_part (get_or s.words 0 0)) + first_stops_in w
    → NoMore n (get_or s.words 0 0) → All (NoMore n) w.found
    → IsOver v.size record { words = set s.words 0 n; homes = s.homes; views = set s.views id w }
changed s id v w n rule at same numbers seats counted finishes stops first rises found =
    let one = rule.one_word in
    let x : ℕ = get_or (set s.words 0 n) 0 0 in
    let is : x ≡ n = get_or-set_same s.words 0 n 0 (omega arith) in
    record {
      one_word = length-set s.words 0 n ∙ rule.one_word;
      few = rule.few;
      numbers = (λ k. let sums = sum_set (numbered k) s.views id v w at in let kept = numbers k in let before = rule.numbers k in omega arith);
      seats = (let sums = sum_set seats_in s.views id v w at in let before = rule.seats in omega arith);
      counted = (let sums = sum_set (counted_in v.size.counted) s.views id v w at in let before = rule.counted in omega arith);
      finished = ap finished_part is ∙ (let sums = sum_set (finished_in v.size.counted) s.views id v w at in let before = rule.finished in omega arith);
      stopped = ap stopped_part is ∙ (let sums = sum_set stops_in s.views id v w at in let before = rule.stopped in omega arith);
      first = (let sums = sum_set first_stops_in s.views id v w at in let before = rule.first in let after = ap (λ (m : ℕ). min 1 (stopped_part m)) is in omega arith);
      known = subst (λ (m : ℕ). All (IsOverView v.size m) (set s.views id w)) (sym is)
          (All-set (IsOverView v.size n) s.views id w (record { size_known = (λ some. same); found = found })
          (All-weaker (IsOverView v.size (get_or s.words 0 0)) (IsOverView v.size n)
          (λ u k. record { size_known = k.size_known; found = All-weaker (NoMore (get_or s.words 0 0)) (NoMore n) (λ m p. no_more_along m (get_or s.words 0 0) n p rises) u.found k.found })
          s.views rule.known));
    }

-- the rule for the size that the view names
own_size : (size : OverSize) (s : State (Unit {0}) OverView) (id : ℕ) (v : OverView) → 0 < length v.places → IsOver size s → get_elem? s.views id ≡ some v → v.size ≡ size
own_size size s id v some' rule at = (all_at (IsOverView size (get_or s.words 0 0)) s.views id v rule.known at).size_known some'

pub looks : (size : OverSize) (slots id : ℕ) (me : Me (Unit {0}) OverView) → 0 < length me.0.places
    → Allows (IsOver size) slots id me 0 (λ n. n) (Looks me)
looks size slots id me some' s rule room at below =
    let v = me.0 in
    let e = own_size size s id v some' rule at in
    let own : IsOver v.size s = subst (λ z. IsOver z s) (sym e) rule in
    let n : ℕ = get_or s.words 0 0 in
    let told = tells s id v own at in
    let kept : IsOver v.size record { words = set s.words 0 n; homes = s.homes; views = set s.views id (looked v n) } =
    changed s id v (looked v n) n own at refl (λ k. refl) refl refl refl refl refl (NoMore-refl n)
    (All-append (NoMore n) v.found (n ∷ []) told.rises (All-push (NoMore n) [] n (All-nil (NoMore n)) (NoMore-refl n))) in
    (looked v n, keeps, tt, subst (λ z. IsOver z record { words = set s.words 0 n; homes = s.homes; views = set s.views id (looked v n) }) e kept, (refl, told))

-- one more that has finished
one_more_finished : (n : ℕ) → n < 2 ^ 64 → finished_part n ≤ 1023 → stopped_part n ≤ 1024 → (finished_part ((n + 1) % 2 ^ 64) ≡ finished_part n + 1) × (stopped_part ((n + 1) % 2 ^ 64) ≡ stopped_part n)
one_more_finished n below few stops = (omega arith, omega arith)

-- one more stop
one_more_stop : (n : ℕ) → n < 2 ^ 64 → finished_part n ≤ 1024 → stopped_part n ≤ 1023 → (finished_part ((n + 2 ^ 32) % 2 ^ 64) ≡ finished_part n) × (stopped_part ((n + 2 ^ 32) % 2 ^ 64) ≡ stopped_part n + 1)
one_more_stop n below few stops = (omega arith, omega arith)

count_head : (test : OverPlace → Bool) (p : OverPlace) (ps : List OverPlace) → count_by test (p ∷ ps) ≡ one_if (test p) + count_by test ps
count_head test p ps = sum_by-cons (λ q. one_if (test q)) p ps

finished_once : (counted : ℕ) (places : List OverPlace) → HasToFinish counted places → count_by (is_finished counted) (finish places) ≡ count_by (is_finished counted) places + 1
finished_once counted [] h = absurd h
finished_once counted (p ∷ ps) h =
    let before = count_head (is_finished counted) p ps in
    let after : count_by (is_finished counted) (finish (p ∷ ps)) ≡ one_if (is_counted counted p) + count_by (is_finished counted) ps = count_head (is_finished counted) (record p { finished = true }) ps in
    let not_yet : one_if (is_finished counted p) ≡ 0 = ap (λ b. one_if (b && is_counted counted p)) h.1 in
    let now : one_if (is_counted counted p) ≡ 1 = ap (λ b. one_if b) (lt-ltb p.number counted h.0) in
    omega arith

numbers_finish : (k : ℕ) (places : List OverPlace) → count_by (λ p. eqb p.number k) (finish places) ≡ count_by (λ p. eqb p.number k) places
numbers_finish k [] = refl
numbers_finish k (p ∷ ps) = refl

counted_finish : (counted : ℕ) (places : List OverPlace) → count_by (is_counted counted) (finish places) ≡ count_by (is_counted counted) places
counted_finish counted [] = refl
counted_finish counted (p ∷ ps) = refl

stops_finish : (test : Option ℕ → Bool) (places : List OverPlace) → count_by (λ p. test p.stopped) (finish places) ≡ count_by (λ p. test p.stopped) places
stops_finish test [] = refl
stops_finish test (p ∷ ps) = refl

length_finish : (places : List OverPlace) → length (finish places) ≡ length places
length_finish [] = refl
length_finish (p ∷ ps) = refl

some_to_finish : (counted : ℕ) (places : List OverPlace) → HasToFinish counted places → 0 < length places
some_to_finish counted [] h = absurd h
some_to_finish counted (p ∷ ps) h = omega arith

pub finishes : (size : OverSize) (slots id : ℕ) (me : Me (Unit {0}) OverView) → HasToFinish me.0.size.counted me.0.places
    → Allows (IsOver size) slots id me 0 (λ n. (n + 1) % 2 ^ 64) (Finishes me)
finishes size slots id me has s rule room at below =
    let v = me.0 in
    let some' = some_to_finish v.size.counted v.places has in
    let e = own_size size s id v some' rule at in
    let own : IsOver v.size s = subst (λ z. IsOver z s) (sym e) rule in
    let n : ℕ = get_or s.words 0 0 in
    let w = finished_view v n in
    let told = tells s id v own at in
    let once = finished_once v.size.counted v.places has in
    let sums = sum_set (finished_in v.size.counted) s.views id v w at in
    let all = own.finished in
    let most = sum_by-at_most (finished_in v.size.counted) (counted_in v.size.counted) (finished-counted v.size.counted) (set s.views id w) in
    let counts = sum_set (counted_in v.size.counted) s.views id v w at in
    let same = counted_finish v.size.counted v.places in
    let counted = own.counted in
    let few = own.few in
    let stops = told.stopped_at_most in
    let more = one_more_finished n below (omega arith) (omega arith) in
    let more0 = more.0 in
    let more1 = more.1 in
    let n' : ℕ = (n + 1) % 2 ^ 64 in
    let kept : IsOver v.size record { words = set s.words 0 n'; homes = s.homes; views = set s.views id w } =
    changed s id v w n' own at refl (λ k. numbers_finish k v.places) (length_finish v.places) same (omega arith)
    (let stopped = stops_finish is_some v.places in omega arith)
    (let first = stops_finish found_no_stop v.places in let capped = ap (λ (m : ℕ). min 1 m) more1 in omega arith)
    (omega arith, omega arith)
    (All-append (NoMore n') v.found (n ∷ []) (All-weaker (NoMore n) (NoMore n') (λ m p. no_more_along m n n' p (omega arith, omega arith)) v.found told.rises)
    (All-push (NoMore n') [] n (All-nil (NoMore n')) (omega arith, omega arith))) in
    (w, keeps, tt, subst (λ z. IsOver z record { words = set s.words 0 n'; homes = s.homes; views = set s.views id w }) e kept, (refl, told))

stopped_once : (word : ℕ) (places : List OverPlace) → HasNotStopped places → count_by (λ p. is_some p.stopped) (stop_at word places) ≡ count_by (λ p. is_some p.stopped) places + 1
stopped_once word [] h = absurd h
stopped_once word (p ∷ ps) h =
    let before = count_head (λ p. is_some p.stopped) p ps in
    let after : count_by (λ q. is_some q.stopped) (stop_at word (p ∷ ps)) ≡ 1 + count_by (λ q. is_some q.stopped) ps = count_head (λ q. is_some q.stopped) (record p { stopped = Some word }) ps in
    let not_yet : one_if (is_some p.stopped) ≡ 0 = ap (λ o. one_if (is_some o)) h in
    omega arith

first_once : (word : ℕ) (places : List OverPlace) → HasNotStopped places → count_by is_first_stop (stop_at word places) ≡ count_by is_first_stop places + one_if (eqb (stopped_part word) 0)
first_once word [] h = absurd h
first_once word (p ∷ ps) h =
    let before = count_head is_first_stop p ps in
    let after : count_by is_first_stop (stop_at word (p ∷ ps)) ≡ one_if (eqb (stopped_part word) 0) + count_by is_first_stop ps = count_head is_first_stop (record p { stopped = Some word }) ps in
    let not_yet : one_if (is_first_stop p) ≡ 0 = ap (λ o. one_if (found_no_stop o)) h in
    omega arith

one_is_first : (stops : ℕ) → min 1 (stops + 1) ≡ min 1 stops + one_if (eqb stops 0)
one_is_first zero = refl
one_is_first (suc k) = let none = other_number (suc k) 0 (λ e. absurd (omega arith)) in omega arith

numbers_stop : (test : OverPlace → Bool) (word : ℕ) (places : List OverPlace) → ((p : OverPlace) → test (record p { stopped = Some word }) ≡ test p) → count_by test (stop_at word places) ≡ count_by test places
numbers_stop test word [] same = refl
numbers_stop test word (p ∷ ps) same =
    let before = count_head test p ps in
    let after : count_by test (stop_at word (p ∷ ps)) ≡ one_if (test (record p { stopped = Some word })) + count_by test ps = count_head test (record p { stopped = Some word }) ps in
    let here = ap (λ b. one_if b) (same p) in
    omega arith

length_stop : (word : ℕ) (places : List OverPlace) → length (stop_at word places) ≡ length places
length_stop word [] = refl
length_stop word (p ∷ ps) = refl

some_to_stop : (places : List OverPlace) → HasNotStopped places → 0 < length places
some_to_stop [] h = absurd h
some_to_stop (p ∷ ps) h = omega arith

pub stops : (size : OverSize) (slots id : ℕ) (me : Me (Unit {0}) OverView) → HasNotStopped me.0.places
    → Allows (IsOver size) slots id me 0 (λ n. (n + 2 ^ 32) % 2 ^ 64) (Stops me)
stops size slots id me has s rule room at below =
    let v = me.0 in
    let some' = some_to_stop v.places has in
    let e = own_size size s id v some' rule at in
    let own : IsOver v.size s = subst (λ z. IsOver z s) (sym e) rule in
    let n : ℕ = get_or s.words 0 0 in
    let w = stopped_view v n in
    let told = tells s id v own at in
    let once = stopped_once n v.places has in
    let first = first_once n v.places has in
    let sums = sum_set stops_in s.views id v w at in
    let all = own.stopped in
    let most = sum_by-at_most stops_in seats_in (λ u. count_by-le-length (λ p. is_some p.stopped) u.places) (set s.views id w) in
    let counts = sum_set seats_in s.views id v w at in
    let same = length_stop n v.places in
    let seats = own.seats in
    let few = own.few in
    let finished = told.finished_at_most in
    let more = one_more_stop n below (let k = own.finished in let m = sum_by-at_most (finished_in v.size.counted) (counted_in v.size.counted) (finished-counted v.size.counted) s.views in let c = own.counted in omega arith) (omega arith) in
    let more0 = more.0 in
    let more1 = more.1 in
    let n' : ℕ = (n + 2 ^ 32) % 2 ^ 64 in
    let kept : IsOver v.size record { words = set s.words 0 n'; homes = s.homes; views = set s.views id w } =
    changed s id v w n' own at refl (λ k. numbers_stop (λ p. eqb p.number k) n v.places (λ p. refl)) same (numbers_stop (is_counted v.size.counted) n v.places (λ p. refl))
    (let f = numbers_stop (is_finished v.size.counted) n v.places (λ p. refl) in omega arith)
    (omega arith)
    (let capped = ap (λ (m : ℕ). min 1 m) more1 in let one = one_is_first (stopped_part n) in omega arith)
    (omega arith, omega arith)
    (All-append (NoMore n') v.found (n ∷ []) (All-weaker (NoMore n) (NoMore n') (λ m p. no_more_along m n n' p (omega arith, omega arith)) v.found told.rises)
    (All-push (NoMore n') [] n (All-nil (NoMore n')) (omega arith, omega arith))) in
    (w, keeps, tt, subst (λ z. IsOver z record { words = set s.words 0 n'; homes = s.homes; views = set s.views id w }) e kept, (refl, told))

-- what is cut off and what is left have together what there was
cut_count : (test : OverPlace → Bool) (places : List OverPlace) → count_by test (drop 1 places) + count_by test (take 1 places) ≡ count_by test places
cut_count test [] = refl
cut_count test (p ∷ ps) = let parts = count_head test p ps in omega arith

cut_length : (places : List OverPlace) → length (drop 1 places) + length (take 1 places) ≡ length places
cut_length [] = refl
cut_length (p ∷ ps) = omega arith

pub cuts : (size : OverSize) (id : ℕ) (v : OverView) → 0 < length v.places → Splits (IsOver size) id v (other_places v) (own_place v)
cuts size id v some' s rule at =
    let word : ℕ = get_or s.words 0 0 in
    let mine = all_at (IsOverView size word) s.views id v rule.known at in
    record {
      one_word = rule.one_word;
      few = rule.few;
      numbers = (λ k. let sums = sum_split (numbered k) s.views id v (other_places v) (own_place v) at in let parts = cut_count (λ p. eqb p.number k) v.places in let before = rule.numbers k in omega arith);
      seats = (let sums = sum_split seats_in s.views id v (other_places v) (own_place v) at in let parts = cut_length v.places in let before = rule.seats in omega arith);
      counted = (let sums = sum_split (counted_in size.counted) s.views id v (other_places v) (own_place v) at in let parts = cut_count (is_counted size.counted) v.places in let before = rule.counted in omega arith);
      finished = (let sums = sum_split (finished_in size.counted) s.views id v (other_places v) (own_place v) at in let parts = cut_count (is_finished size.counted) v.places in let before = rule.finished in omega arith);
      stopped = (let sums = sum_split stops_in s.views id v (other_places v) (own_place v) at in let parts = cut_count (λ p. is_some p.stopped) v.places in let before = rule.stopped in omega arith);
      first = (let sums = sum_split first_stops_in s.views id v (other_places v) (own_place v) at in let parts = cut_count is_first_stop v.places in let before = rule.first in omega arith);
      known = All-push (IsOverView size word) (set s.views id (other_places v)) (own_place v)
          (All-set (IsOverView size word) s.views id (other_places v) (record { size_known = (λ h. mine.size_known some'); found = mine.found }) rule.known)
          (record { size_known = (λ h. mine.size_known some'); found = All-nil (NoMore word) });
    }

join_count : (test : OverPlace → Bool) (ps qs : List OverPlace) → count_by test (ps ++ qs) ≡ count_by test ps + count_by test qs
join_count test ps qs = sum_by-append (λ p. one_if (test p)) ps qs

pub joins : (size : OverSize) (id other : ℕ) (v w : OverView) → 0 < length v.places → Joins (IsOver size) id v other w (joined v w) spent
joins size id other v w some' s rule at apart there =
    let word : ℕ = get_or s.words 0 0 in
    let mine = all_at (IsOverView size word) s.views id v rule.known at in
    let both = All-set (IsOverView size word) s.views id (joined v w) in
    let theirs = (let k = all_at (IsOverView size word) s.views other w rule.known (sym (set_else s.views id other (joined v w) apart) ∙ there) in k) in
    record {
      one_word = rule.one_word;
      few = rule.few;
      numbers = (λ k. let sums = sum_join (numbered k) s.views id v (joined v w) other w spent at there in let parts = join_count (λ p. eqb p.number k) v.places w.places in let before = rule.numbers k in omega arith);
      seats = (let sums = sum_join seats_in s.views id v (joined v w) other w spent at there in let parts = length-append v.places w.places in let before = rule.seats in omega arith);
      counted = (let sums = sum_join (counted_in size.counted) s.views id v (joined v w) other w spent at there in let parts = join_count (is_counted size.counted) v.places w.places in let before = rule.counted in omega arith);
      finished = (let sums = sum_join (finished_in size.counted) s.views id v (joined v w) other w spent at there in let parts = join_count (is_finished size.counted) v.places w.places in let before = rule.finished in omega arith);
      stopped = (let sums = sum_join stops_in s.views id v (joined v w) other w spent at there in let parts = join_count (λ p. is_some p.stopped) v.places w.places in let before = rule.stopped in omega arith);
      first = (let sums = sum_join first_stops_in s.views id v (joined v w) other w spent at there in let parts = join_count is_first_stop v.places w.places in let before = rule.first in omega arith);
      known = All-set (IsOverView size word) (set s.views id (joined v w)) other spent
          (record { size_known = (λ h. absurd (omega arith)); found = All-nil (NoMore word) })
          (both (record { size_known = (λ h. mine.size_known some'); found = All-append (NoMore word) v.found w.found mine.found theirs.found }) rule.known);
    }

fresh_numbers : (n k count : ℕ) → count_by (λ p. eqb p.number k) (fresh_from n count) + once_below n k ≡ once_below (n + count) k
fresh_numbers n k zero = let bound : once_below (n + 0) k ≡ once_below n k = ap (λ m. once_below m k) (add-zero n) in omega arith
fresh_numbers n k (suc count) =
    let inner = fresh_numbers (n + 1) k count in
    let head : count_by (λ p. eqb p.number k) (fresh_from n (suc count)) ≡ one_if (eqb n k) + count_by (λ p. eqb p.number k) (fresh_from (n + 1) count) = count_head (λ p. eqb p.number k) (fresh_place n) (fresh_from (n + 1) count) in
    let step = once_below-step n k in
    let bound : once_below (n + suc count) k ≡ once_below (n + 1 + count) k = ap (λ m. once_below m k) (omega arith) in
    omega arith

fresh_counted : (counted n count : ℕ) → counted ≤ n + count → count_by (is_counted counted) (fresh_from n count) + min n counted ≡ counted
fresh_counted counted n zero h = omega arith
fresh_counted counted n (suc count) h =
    let inner = fresh_counted counted (n + 1) count (omega arith) in
    let head : count_by (is_counted counted) (fresh_from n (suc count)) ≡ once_below counted n + count_by (is_counted counted) (fresh_from (n + 1) count) = count_head (is_counted counted) (fresh_place n) (fresh_from (n + 1) count) in
    dite (dec_le counted n)
    (λ le. let here = once_below-not counted n le in omega arith)
    (λ gt. let lt = lt_of_not-le gt in let here = once_below-yes counted n lt in omega arith)

fresh_nothing : (test : OverPlace → Bool) → ((n : ℕ) → test (fresh_place n) ≡ false) → (n count : ℕ) → count_by test (fresh_from n count) ≡ 0
fresh_nothing test none n zero = refl
fresh_nothing test none n (suc count) =
    let inner = fresh_nothing test none (n + 1) count in
    let head : count_by test (fresh_from n (suc count)) ≡ one_if (test (fresh_place n)) + count_by test (fresh_from (n + 1) count) = count_head test (fresh_place n) (fresh_from (n + 1) count) in
    let here = ap (λ b. one_if b) (none n) in
    omega arith

fresh_length : (n count : ℕ) → length (fresh_from n count) ≡ count
fresh_length n zero = refl
fresh_length n (suc count) = let inner = fresh_length (n + 1) count in omega arith

pub opens : (size : OverSize) → size.counted ≤ size.seats → size.seats ≤ 1024 → IsOver size (opening {S = Unit {0}} (0 ∷ []) [] (over_view size (fresh_from 0 size.seats) []))
opens size within few =
    let all = fresh_from 0 size.seats in
    let v = over_view size all [] in
    record {
      one_word = refl;
      few = (within, few);
      numbers = (λ k. let n = fresh_numbers 0 k size.seats in let low = once_below-not 0 k (omega arith) in let bound : once_below (0 + size.seats) k ≡ once_below size.seats k = ap (λ m. once_below m k) (omega arith) in omega arith);
      seats = (let n = fresh_length 0 size.seats in omega arith);
      counted = (let n = fresh_counted size.counted 0 size.seats (omega arith) in omega arith);
      finished = (let n = fresh_nothing (is_finished size.counted) (λ k. refl) 0 size.seats in omega arith);
      stopped = (let n = fresh_nothing (λ p. is_some p.stopped) (λ k. refl) 0 size.seats in omega arith);
      first = (let n = fresh_nothing is_first_stop (λ k. refl) 0 size.seats in omega arith);
      known = All-push (IsOverView size 0) [] v (All-nil (IsOverView size 0)) (record { size_known = (λ h. refl); found = All-nil (NoMore 0) });
    }

-- the seats below n have been cut off
pub record Dealing (word : TableId) (size : OverSize) (n : ℕ) (seat : TableId) (me : Me (Unit {0}) OverView) (seats : List OverKnown) : Type 0 where
  pub own : seat ≡ word
  pub one : seat.words ≡ 1
  pub rest : me ≡ (over_view size (fresh_from n (size.seats - n)) [], [])
  pub dealt : seats ≡ fresh_seats seat size 0 n

rest_fresh : (n m : ℕ) → n < m → drop 1 (fresh_from n (m - n)) ≡ fresh_from (n + 1) (m - (n + 1))
rest_fresh n m h = let more : m - n ≡ suc (m - (n + 1)) = omega arith in ap (λ k. drop 1 (fresh_from n k)) more

own_fresh : (n m : ℕ) → n < m → take 1 (fresh_from n (m - n)) ≡ fresh_place n ∷ []
own_fresh n m h = let more : m - n ≡ suc (m - (n + 1)) = omega arith in ap (λ k. take 1 (fresh_from n k)) more

fresh_seats-more : (word : TableId) (size : OverSize) (n count : ℕ) → fresh_seats word size n (suc count) ≡ fresh_seats word size n count ++ fresh_seat word size (n + count) ∷ []
fresh_seats-more word size n zero = ap (λ k. fresh_seat word size k ∷ []) (sym (add-zero n))
fresh_seats-more word size n (suc count) =
    let next : n + 1 + count ≡ n + suc count = omega arith in
    ap (λ (k : List OverKnown). fresh_seat word size n ∷ k) (fresh_seats-more word size (n + 1) count)
    ∙ ap (λ (k : ℕ). fresh_seat word size n ∷ (fresh_seats word size (n + 1) count ++ fresh_seat word size k ∷ [])) next

pub some_left : (word : TableId) (size : OverSize) (n : ℕ) (seat : TableId) (me : Me (Unit {0}) OverView) (seats : List OverKnown) → Dealing word size n seat me seats → n < size.seats → (0 < length me.0.places) × (me.0.size ≡ size)
some_left word size n seat me seats d h =
    let count : length me.0.places ≡ size.seats - n = ap (λ (m : Me (Unit {0}) OverView). length m.0.places) d.rest ∙ fresh_length n (size.seats - n) in
    (omega arith, ap (λ (m : Me (Unit {0}) OverView). m.0.size) d.rest)

-- one more seat
pub deals : (word : TableId) (size : OverSize) (n : ℕ) (seat seat' : TableId) (me me' : Me (Unit {0}) OverView) (seats seats' : List OverKnown) (one : OverKnown)
    → Dealing word size n seat me seats → n < size.seats → seat' ≡ seat → me'.1 ≡ [] → one ≡ over_known seat (own_place me.0) → me'.0 ≡ other_places me.0 → seats' ≡ seats ++ one ∷ []
    → Dealing word size (n + 1) seat' me' seats'
deals word size n seat seat' me me' seats seats' one d h same none cut left more = record {
  own = same ∙ d.own;
  one = ap (λ (z : TableId). z.words) same ∙ d.one;
  rest = (let now : me'.0 ≡ over_view size (fresh_from (n + 1) (size.seats - (n + 1))) [] = left ∙ ap (λ (m : Me (Unit {0}) OverView). other_places m.0) d.rest ∙ ap (λ ps. over_view size ps []) (rest_fresh n size.seats h) in λ i. (now i, none i));
  dealt = (let new : one ≡ fresh_seat seat size n = cut ∙ ap (λ (m : Me (Unit {0}) OverView). over_known seat (own_place m.0)) d.rest ∙ ap (λ ps. over_known seat (over_view size ps [])) (own_fresh n size.seats h) in
      more ∙ ap (λ l. l ++ one ∷ []) d.dealt ∙ ap (λ o. fresh_seats seat size 0 n ++ o ∷ []) new ∙ (let zero' : n ≡ 0 + n = omega arith in ap (λ k. fresh_seats seat size 0 n ++ fresh_seat seat size k ∷ []) zero') ∙ sym (fresh_seats-more seat size 0 n) ∙ (let next : suc n ≡ n + 1 = omega arith in ap (λ k. fresh_seats seat size 0 k) next) ∙ ap (λ z. fresh_seats z size 0 (n + 1)) (sym same));
}
