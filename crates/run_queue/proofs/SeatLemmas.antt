-- What stays of a seat's deques where one of them changes, and where two seats are joined.
use Rattle.std.proofs.Common.{◌≡◌, ◌≢◌, true≢false, Result, Ok, Err, OnOk, IfOk, IfNone, ℕ, zero, suc, ◌+◌, ◌<◌, ◌≤◌, List, [], ◌∷◌, ◌++◌, Option, Some, None, IsSome, map, length, set, get_or, slice_get, sym, refl, ap, ◌∙◌, subst, arith, length-append, lt_of_not-le}
use Rattle.std.specs.List.{All}
use Rattle.std.proofs.lemmas.List.{length-set}
use Rattle.std.proofs.lemmas.List.Elements.{All-nil, All-cons, All-head, All-tail, All-set}
use Rattle.std.proofs.lemmas.Option.{slice_get_read, get_or_from_slice_get, same_Some, none-some}
use mathlib.Core.Logic.{dite}
use native.Mathlib.Decide.{dec_le, ℕ_discrete}
use Rattle.run_queue.specs.Seats.{DequeKnown, changed_at, joined_deque, joined_deques, the_own, SawEmptyAt, GuestSawEmpty, OthersSawEmpty, OwnsItsDeque, IsDequeEnd, KeepsShape, KeepsEnds, CanJoinEach}

module _ {A : Type 0} where
  -- a write of what f makes of the element there
  pub at_set : (f : A → A) (xs : List A) (n : ℕ) (x y : A) → n < length xs → x ≡ get_or xs n x → y ≡ f x → set xs n y ≡ changed_at f n xs
  at_set f [] n x y lt at is = absurd (omega arith)
  at_set f (z ∷ zs) zero x y lt at is = ap (λ w. w ∷ zs) (is ∙ ap f at)
  at_set f (z ∷ zs) (suc n) x y lt at is = ap (λ ws. z ∷ ws) (at_set f zs n x y (omega arith) at is)

  -- a write of what stands there
  pub set_back : (xs : List A) (n : ℕ) (x y : A) → n < length xs → x ≡ get_or xs n x → y ≡ x → set xs n y ≡ xs
  set_back [] n x y lt at is = absurd (omega arith)
  set_back (z ∷ zs) zero x y lt at is = ap (λ w. w ∷ zs) (is ∙ at)
  set_back (z ∷ zs) (suc n) x y lt at is = ap (λ ws. z ∷ ws) (set_back zs n x y (omega arith) at is)

  -- what is got at the place is what stands there
  pub the_one : (xs : List A) (n : ℕ) (x k : A) → n < length xs → x ≡ get_or xs n x → slice_get xs n ≡ Some k → x ≡ k
  the_one xs n x k lt at e = at ∙ get_or_from_slice_get xs n k x e

  pub all_from_get : (P : A → Type 0) (xs : List A) → ((n : ℕ) (x : A) → slice_get xs n ≡ Some x → P x) → All P xs
  all_from_get P [] each = All-nil P
  all_from_get P (x ∷ xs) each = All-cons P x xs (each 0 x refl) (all_from_get P xs (λ n y e. each (suc n) y e))

  pub all_to_get : (P : A → Type 0) (xs : List A) (n : ℕ) (x : A) → All P xs → slice_get xs n ≡ Some x → P x
  all_to_get P [] n x all e = absurd (none-some x e)
  all_to_get P (y ∷ ys) zero x all e = subst P (same_Some y x e) (All-head P y ys all)
  all_to_get P (y ∷ ys) (suc n) x all e = all_to_get P ys n x (All-tail P y ys all) e

  -- an element got of a list after a write at another place, and at that place
  pub get_other : (xs : List A) (n i : ℕ) (y k : A) → i ≢ n → slice_get (set xs n y) i ≡ Some k → slice_get xs i ≡ Some k
  get_other [] n i y k other e = e
  get_other (x ∷ xs) zero zero y k other e = absurd (other refl)
  get_other (x ∷ xs) zero (suc i) y k other e = e
  get_other (x ∷ xs) (suc n) zero y k other e = e
  get_other (x ∷ xs) (suc n) (suc i) y k other e = get_other xs n i y k (λ same. other (ap suc same)) e

  pub get_written : (xs : List A) (n : ℕ) (y k : A) → slice_get (set xs n y) n ≡ Some k → k ≡ y
  get_written [] n y k e = absurd (none-some k e)
  get_written (x ∷ xs) zero y k e = sym (same_Some y k e)
  get_written (x ∷ xs) (suc n) y k e = get_written xs n y k e

  -- in the midst of a list
  pub get_middle : (xs : List A) (x : A) (ys : List A) → slice_get ((xs ++ x ∷ []) ++ ys) (length xs) ≡ Some x
  get_middle [] x ys = refl
  get_middle (z ∷ zs) x ys = get_middle zs x ys

-- what follows where a call succeeded, and where it found nothing
pub on_ok : {T E : Type 0} (r : Result T E) {P Q : Type 0} → (P → Q) → OnOk r P → OnOk r Q
on_ok (Ok x) f h = f h
on_ok (Err e) f h = tt

pub if_ok : {T E : Type 0} (r : Result T E) {P Q : T → Type 0} → ((x : T) → P x → Q x) → IfOk r P → IfOk r Q
if_ok (Ok x) f h = f x h
if_ok (Err e) f h = tt

pub on_none : {T : Type 0} (o : Option T) {P Q : Type 0} → (P → Q) → IfNone o P → IfNone o Q
on_none None f h = f h
on_none (Some x) f h = tt

-- a write that keeps the shape keeps what holds of all
pub keeps : (xs : List DequeKnown) (n : ℕ) (x y : DequeKnown) → n < length xs → x ≡ get_or xs n x → KeepsShape x y → KeepsEnds xs (set xs n y)
keeps xs n x y lt at shape =
    let size = length-set xs n y in
    let here : slice_get xs n ≡ Some x = slice_get_read xs (length xs) n x refl lt at in
    record {
      same_length = size;
      owns = λ number (within, owns). (
        (let w : number < length xs = within in omega arith),
        λ k e. dite (ℕ_discrete number n)
            (λ same. let is = get_written xs n y k (subst (λ m. slice_get (set xs n y) m ≡ Some k) same e) in
            subst (λ (d : DequeKnown). IsSome d.own) (sym is) (shape.owner (owns x (subst (λ m. slice_get xs m ≡ Some x) (sym same) here))))
            (λ other. owns k (get_other xs n number y k other e)),
      );
      ends = λ seats all. let mine = all_to_get (IsDequeEnd (length xs) seats) xs n x all here in
          subst (λ m. All (IsDequeEnd m seats) (set xs n y)) (sym size) (All-set (IsDequeEnd (length xs) seats) xs n y (record {
            guest = (let g = mine.guest in let s = shape.guests in omega arith);
            few = (let g = mine.few in let s = shape.guests in omega arith);
            room = (let g = mine.room in let s = shape.room in omega arith);
          }) all);
    }

pub keeps_same : (xs : List DequeKnown) → KeepsEnds xs xs
keeps_same xs = record { same_length = refl; owns = λ number owns. owns; ends = λ seats all. all }

-- The deques in the midst of a join: from the number on the ends of both are joined
abbrev pub joined_from : ℕ → List DequeKnown → List DequeKnown → List DequeKnown
joined_from zero vs ws = joined_deques vs ws
joined_from (suc n) [] ws = []
joined_from (suc n) (v ∷ vs) [] = v ∷ vs
joined_from (suc n) (v ∷ vs) (w ∷ ws) = v ∷ joined_from n vs ws

pub joined_none : (vs ws : List DequeKnown) → joined_from (length vs) vs ws ≡ vs
joined_none [] ws = refl
joined_none (v ∷ vs) [] = refl
joined_none (v ∷ vs) (w ∷ ws) = ap (λ us. v ∷ us) (joined_none vs ws)

pub joined_one : (n : ℕ) (vs ws : List DequeKnown) (w : DequeKnown) → length ws ≡ length vs → slice_get ws n ≡ Some w
    → changed_at (λ k. joined_deque k w) n (joined_from (suc n) vs ws) ≡ joined_from n vs ws
joined_one n vs [] w same e = absurd (none-some w e)
joined_one n [] (x ∷ ws) w same e = absurd (omega arith)
joined_one zero (v ∷ vs) (x ∷ ws) w same e = ap (λ y. joined_deque v y ∷ joined_deques vs ws) (sym (same_Some x w e))
joined_one (suc n) (v ∷ vs) (x ∷ ws) w same e = ap (λ us. v ∷ us) (joined_one n vs ws w (omega arith) e)

pub joined_length : (n : ℕ) (vs ws : List DequeKnown) → length (joined_from n vs ws) ≡ length vs
joined_length zero [] ws = refl
joined_length zero (v ∷ vs) [] = refl
joined_length zero (v ∷ vs) (w ∷ ws) = ap suc (joined_length zero vs ws)
joined_length (suc n) [] ws = refl
joined_length (suc n) (v ∷ vs) [] = refl
joined_length (suc n) (v ∷ vs) (w ∷ ws) = ap suc (joined_length n vs ws)

-- what isn't joined yet is as it was
pub unjoined : (n : ℕ) (vs ws : List DequeKnown) (k : DequeKnown) → slice_get (joined_from (suc n) vs ws) n ≡ Some k → slice_get vs n ≡ Some k
unjoined n [] ws k e = e
unjoined n (v ∷ vs) [] k e = e
unjoined zero (v ∷ vs) (w ∷ ws) k e = e
unjoined (suc n) (v ∷ vs) (w ∷ ws) k e = unjoined n vs ws k e

-- what holds of the ends of both holds of the joined ones
pub joined_ends : (deques s t : ℕ) (vs ws : List DequeKnown) → length ws ≡ length vs → All (IsDequeEnd deques s) vs → All (IsDequeEnd deques t) ws → All (IsDequeEnd deques (s + t)) (joined_deques vs ws)
joined_ends deques s t [] ws same all alls = All-nil (IsDequeEnd deques (s + t))
joined_ends deques s t (v ∷ vs) [] same all alls = absurd (omega arith)
joined_ends deques s t (v ∷ vs) (w ∷ ws) same all alls =
    let one = All-head (IsDequeEnd deques s) v vs all in
    let two = All-head (IsDequeEnd deques t) w ws alls in
    let size = length-append v.guests w.guests in
    let a = one.guest in
    let b = one.few in
    let c = two.few in
    All-cons (IsDequeEnd deques (s + t)) (joined_deque v w) (joined_deques vs ws) (record { guest = omega arith; few = omega arith; room = one.room })
    (joined_ends deques s t vs ws (omega arith) (All-tail (IsDequeEnd deques s) v vs all) (All-tail (IsDequeEnd deques t) w ws alls))

own_stays : (o p : Option _) → IsSome o → IsSome (the_own o p)
own_stays None p some = absurd (true≢false (sym some))
own_stays (Some v) p some = some

pub joined_owns : (number : ℕ) (vs ws : List DequeKnown) → OwnsItsDeque number vs → OwnsItsDeque number (joined_deques vs ws)
joined_owns number vs ws owns = ((let size = joined_length 0 vs ws in let w = owns.0 in omega arith), joined_own number vs ws owns.1)
  where
    joined_own : (n : ℕ) (vs ws : List DequeKnown) → ((k : DequeKnown) → slice_get vs n ≡ Some k → IsSome k.own) → (k : DequeKnown) → slice_get (joined_deques vs ws) n ≡ Some k → IsSome k.own
    joined_own n [] ws own k e = absurd (none-some k e)
    joined_own n (v ∷ vs) [] own k e = own k e
    joined_own zero (v ∷ vs) (w ∷ ws) own k e = subst (λ (d : DequeKnown). IsSome d.own) (same_Some (joined_deque v w) k e) (own_stays v.own w.own (own v refl))
    joined_own (suc n) (v ∷ vs) (w ∷ ws) own k e = joined_own n vs ws own k e

-- two seats of one queue have room for each other's passes
pub can_join : (s t : ℕ) (vs ws : List DequeKnown) → map (λ (k : DequeKnown). k.deque) vs ≡ map (λ (k : DequeKnown). k.deque) ws → s + t ≤ length vs
    → All (IsDequeEnd (length vs) s) vs → All (IsDequeEnd (length ws) t) ws → CanJoinEach vs ws
can_join s t vs ws ids few all alls = (
  (let one = length_map vs in let two = length_map ws in let e = ap length ids in omega arith),
  λ n v w here there. (
    same_at n vs ws v w ids here there,
    (let one = all_to_get (IsDequeEnd (length vs) s) vs n v all here in
        let two = all_to_get (IsDequeEnd (length ws) t) ws n w alls there in
        let a = one.few in
        let b = two.few in
        let c = one.room in
        omega arith),
  ),
)
  where
    length_map : (us : List DequeKnown) → length (map (λ (k : DequeKnown). k.deque) us) ≡ length us
    length_map [] = refl
    length_map (u ∷ us) = ap suc (length_map us)

    get_id : (n : ℕ) (us : List DequeKnown) (u : DequeKnown) → slice_get us n ≡ Some u → slice_get (map (λ (k : DequeKnown). k.deque) us) n ≡ Some u.deque
    get_id n [] u e = absurd (none-some u e)
    get_id zero (x ∷ xs) u e = ap (λ (k : DequeKnown). Some k.deque) (same_Some x u e)
    get_id (suc n) (x ∷ xs) u e = get_id n xs u e

    same_at : (n : ℕ) (vs ws : List DequeKnown) (v w : DequeKnown) → map (λ (k : DequeKnown). k.deque) vs ≡ map (λ (k : DequeKnown). k.deque) ws → slice_get vs n ≡ Some v → slice_get ws n ≡ Some w → w.deque ≡ v.deque
    same_at n vs ws v w ids here there =
        let one = get_id n vs v here in
        let two = get_id n ws w there in
        sym (same_Some v.deque w.deque (sym one ∙ ap (λ xs. slice_get xs n) ids ∙ two))

-- one deque more was found empty
pub saw_more : (own n : ℕ) (deques : List DequeKnown) → OthersSawEmpty own n deques → SawEmptyAt GuestSawEmpty n deques → OthersSawEmpty own (n + 1) deques
saw_more own n deques before here i lt other = dite (ℕ_discrete i n)
    (λ same. subst (λ m. SawEmptyAt GuestSawEmpty m deques) (sym same) here)
    (λ differ. before i (below i n lt differ) other)
  where
    below : (i n : ℕ) → i < n + 1 → i ≢ n → i < n
    below i n lt differ = dite (dec_le n i) (λ le. absurd (differ (omega arith))) (λ no. omega (arith, lt_of_not-le no))

-- the seat's own deque is passed over
pub saw_own : (n : ℕ) (deques : List DequeKnown) → OthersSawEmpty n n deques → OthersSawEmpty n (n + 1) deques
saw_own n deques before i lt other = before i (dite (dec_le n i) (λ le. absurd (other (omega arith))) (λ no. omega (arith, lt_of_not-le no))) other
