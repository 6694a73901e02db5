-- How the parts of each deque are given out, one seat after another.
use Rattle.std.proofs.Common.{◌≡◌, ℕ, zero, suc, ◌+◌, ◌-◌, ◌<◌, ◌≤◌, List, [], ◌∷◌, ◌++◌, Some, IsSome, map, length, set, take, drop, get_or, slice_get, sym, refl, ap, ◌∙◌, subst, arith, Global, add-one, ◌⊎◌, inl, inr, ⊎_elim}
use Rattle.std.specs.List.{All}
use Rattle.std.proofs.lemmas.Option.{slice_get_read, same_Some, none-some, slice_get_within}
use mathlib.Core.Logic.{dite}
use native.Mathlib.Decide.{ℕ_discrete}
use Rattle.atomic_blocks.specs.Lent.{RowsId}
use Rattle.atomic_blocks.specs.Laid.{WebId}
use Rattle.crossbeam_deque.specs.declared.handles.Worker.{Worker}
use Rattle.crossbeam_deque.specs.Handles.{worker_deque}
use Rattle.port_words.proofs.lemmas.sums.Counting.{once_below-yes, once_below-not, once_below-step, other_number}
use Rattle.port_words.specs.declared.home.homes.Ticket.{Ticket}
use Rattle.run_queue.specs.declared.account.QueueHand.{QueueHand}
use Rattle.run_queue.specs.Account.{hand, all_parts}
use Rattle.run_queue.specs.Ends.{owner_ids, parts_given, parts_left, AreGiven, IsFreshOwner}
use Rattle.run_queue.specs.Seats.{DequeKnown, guest_end, with_own, changed_at, IsDequeEnd, OwnsItsDeque, RunKnown, EntryKnown, AreFresh, fresh_seat, entry_known, joined_entry, entry_parts}
use Rattle.run_queue.proofs.SeatLemmas.{get_other, get_written, all_from_get, all_to_get}

module _ {P : Type 0} where
  -- the parts differ in their number alone
  pub same_parts : (m n : ℕ) (w : Worker Ticket Global QueueHand P) → m ≡ n → IsFreshOwner m w → IsFreshOwner n w
  same_parts m n w same fresh = subst (λ k. IsFreshOwner k w) same fresh

  pub given_first : (owners : List (Worker Ticket Global QueueHand P)) → All (IsFreshOwner all_parts) owners → AreGiven 0 0 owners
  given_first owners all n w e = same_parts all_parts (parts_given 0 0 n) w (let no = once_below-not 0 n (omega arith) in omega arith) (all_to_get (IsFreshOwner all_parts) owners n w all e)

  pub given_more : (seat at : ℕ) (owners : List (Worker Ticket Global QueueHand P)) (w w' : Worker Ticket Global QueueHand P) → at < length owners → w ≡ get_or owners at w
      → AreGiven seat at owners → IsFreshOwner (parts_left w) w' → AreGiven seat (at + 1) (set owners at w')
  given_more seat at owners w w' lt is given fresh n v e = dite (ℕ_discrete n at)
      (λ same.
      let v_is = get_written owners at w' v (subst (λ m. slice_get (set owners at w') m ≡ Some v) same e) in
      let before = given at w (slice_get_read owners (length owners) at w refl lt is) in
      let no = once_below-not at at (omega arith) in
      let yes = once_below-yes (at + 1) at (omega arith) in
      let parts : parts_left w ≡ all_parts - seat - 1 = (let p = ap (λ (h : QueueHand). h.parts) before.0 in omega arith) in
      subst (λ m. IsFreshOwner (parts_given seat (at + 1) m) v) (sym same) (subst (IsFreshOwner (parts_given seat (at + 1) at)) (sym v_is) (same_parts (parts_left w) (parts_given seat (at + 1) at) w' (omega arith) fresh)))
      (λ differ.
      let step = once_below-step at n in
      let no = other_number at n (λ s. differ (sym s)) in
      same_parts (parts_given seat at n) (parts_given seat (at + 1) n) v (omega arith) (given n v (get_other owners at n w' v differ e)))

  pub given_next : (seat : ℕ) (owners : List (Worker Ticket Global QueueHand P)) → AreGiven seat (length owners) owners → AreGiven (seat + 1) 0 owners
  given_next seat owners given n w e =
      let yes = once_below-yes (length owners) n (slice_get_within owners n w e) in
      let no = once_below-not 0 n (omega arith) in
      same_parts (parts_given seat (length owners) n) (parts_given (seat + 1) 0 n) w (omega arith) (given n w e)

  pub ids_set : (owners : List (Worker Ticket Global QueueHand P)) (at : ℕ) (w w' : Worker Ticket Global QueueHand P) → w ≡ get_or owners at w → worker_deque w' ≡ worker_deque w → owner_ids (set owners at w') ≡ owner_ids owners
  ids_set [] at w w' is same = refl
  ids_set (x ∷ xs) zero w w' is same = ap (λ (d : RowsId × Global). d.0 ∷ owner_ids xs) (same ∙ ap (λ v. worker_deque v) is)
  ids_set (x ∷ xs) (suc n) w w' is same = ap (λ ids. (worker_deque x).0 ∷ ids) (ids_set xs n w w' is same)

  pub end_at : (most : ℕ) (owners : List (Worker Ticket Global QueueHand P)) (at : ℕ) (w : Worker Ticket Global QueueHand P) → at < length owners → w ≡ get_or owners at w
      → slice_get (map (guest_end most) (owner_ids owners)) at ≡ Some (guest_end most (worker_deque w).0)
  end_at most [] at w lt is = absurd (omega arith)
  end_at most (x ∷ xs) zero w lt is = ap (λ v. Some (guest_end most (worker_deque v).0)) (sym is)
  end_at most (x ∷ xs) (suc n) w lt is = end_at most xs n w (omega arith) is

  pub ends_count : (most : ℕ) (owners : List (Worker Ticket Global QueueHand P)) → length (map (guest_end most) (owner_ids owners)) ≡ length owners
  ends_count most [] = refl
  ends_count most (x ∷ xs) = ap suc (ends_count most xs)

  pub ids_count : (owners : List (Worker Ticket Global QueueHand P)) → length (owner_ids owners) ≡ length owners
  ids_count [] = refl
  ids_count (x ∷ xs) = ap suc (ids_count xs)

  pub id_at : (owners : List (Worker Ticket Global QueueHand P)) (n : ℕ) (w : Worker Ticket Global QueueHand P) → slice_get owners n ≡ Some w → slice_get (owner_ids owners) n ≡ Some (worker_deque w).0
  id_at [] n w e = absurd (none-some w e)
  id_at (x ∷ xs) zero w e = ap (λ v. Some (worker_deque v).0) (same_Some x w e)
  id_at (x ∷ xs) (suc n) w e = id_at xs n w e

module _ {A : Type 0} where
  -- one element more of a list
  pub take_one : (xs : List A) (n : ℕ) (x : A) → slice_get xs n ≡ Some x → take (suc n) xs ≡ take n xs ++ x ∷ []
  take_one [] n x e = absurd (none-some x e)
  take_one (y ∷ ys) zero x e = ap (λ z. z ∷ []) (same_Some y x e)
  take_one (y ∷ ys) (suc n) x e = ap (λ zs. y ∷ zs) (take_one ys n x e)

  pub take_next : (xs : List A) (n : ℕ) (x : A) → slice_get xs n ≡ Some x → take (n + 1) xs ≡ take n xs ++ x ∷ []
  take_next xs n x e = ap (λ m. take m xs) (add-one n) ∙ take_one xs n x e

  pub take_whole : (xs : List A) (n : ℕ) → n ≡ length xs → take n xs ≡ xs
  take_whole [] n e = ap (λ m. take m []) e
  take_whole (x ∷ xs) zero e = absurd (omega arith)
  take_whole (x ∷ xs) (suc n) e = ap (λ ys. x ∷ ys) (take_whole xs n (omega arith))

  pub get_push : (xs : List A) (x k : A) (n : ℕ) → slice_get (xs ++ x ∷ []) n ≡ Some k → (slice_get xs n ≡ Some k) ⊎ ((n ≡ length xs) × (k ≡ x))
  get_push [] x k zero e = inr (refl, sym (same_Some x k e))
  get_push [] x k (suc n) e = absurd (none-some k e)
  get_push (y ∷ ys) x k zero e = inl e
  get_push (y ∷ ys) x k (suc n) e = ⊎_elim inl (λ (h : (n ≡ length ys) × (k ≡ x)). inr (ap suc h.0, h.1)) (get_push ys x k n e)

  -- the first of what is left of a list
  pub drop_one : (xs : List A) (n : ℕ) (x : A) (rest : List A) → drop n xs ≡ x ∷ rest → (slice_get xs n ≡ Some x) × (drop (suc n) xs ≡ rest)
  drop_one xs zero x rest e = (ap (λ l. slice_get l 0) e, ap (λ l. drop 1 l) e)
  drop_one [] (suc n) x rest e = (ap (λ l. slice_get l 0) e, ap (λ l. drop 1 l) e)
  drop_one (y ∷ ys) (suc n) x rest e = drop_one ys n x rest e

  pub get_changed : (f : A → A) (xs : List A) (n : ℕ) (k : A) → slice_get (changed_at f n xs) n ≡ Some k → (x : A) × (slice_get xs n ≡ Some x) × (k ≡ f x)
  get_changed f [] n k e = absurd (none-some k e)
  get_changed f (x ∷ xs) zero k e = (x, refl, sym (same_Some (f x) k e))
  get_changed f (x ∷ xs) (suc n) k e = get_changed f xs n k e

  pub length_changed : (f : A → A) (xs : List A) (n : ℕ) → length (changed_at f n xs) ≡ length xs
  length_changed f [] n = refl
  length_changed f (x ∷ xs) zero = refl
  length_changed f (x ∷ xs) (suc n) = ap suc (length_changed f xs n)

pub length_ends : (most : ℕ) (ids : List RowsId) → length (map (guest_end most) ids) ≡ length ids
length_ends most [] = refl
length_ends most (x ∷ xs) = ap suc (length_ends most xs)

-- the end of the deque that stands there is the deque's
pub end_is : (most : ℕ) (ids : List RowsId) (n : ℕ) (id : RowsId) (k : DequeKnown) → slice_get ids n ≡ Some id → slice_get (map (guest_end most) ids) n ≡ Some k → id ≡ k.deque
end_is most [] n id k e e' = absurd (none-some id e)
end_is most (x ∷ xs) zero id k e e' = sym (same_Some x id e) ∙ ap (λ (d : DequeKnown). d.deque) (same_Some (guest_end most x) k e')
end_is most (x ∷ xs) (suc n) id k e e' = end_is most xs n id k e e'

fresh_ends : (count most number : ℕ) (v : QueueHand) (ids : List RowsId) → count ≤ most → All (IsDequeEnd count 1) (changed_at (with_own v) number (map (guest_end most) ids))
fresh_ends count most number v ids room = all_from_get (IsDequeEnd count 1) (changed_at (with_own v) number (map (guest_end most) ids)) (λ n k e. one n number ids k e)
  where
    fresh : (id : RowsId) → IsDequeEnd count 1 (guest_end most id)
    fresh id = record { guest = omega arith; few = omega arith; room = room }

    owned : (id : RowsId) → IsDequeEnd count 1 (with_own v (guest_end most id))
    owned id = record { guest = omega arith; few = omega arith; room = room }

    plain : (n : ℕ) (ids : List RowsId) (k : DequeKnown) → slice_get (map (guest_end most) ids) n ≡ Some k → IsDequeEnd count 1 k
    plain n [] k e = absurd (none-some k e)
    plain zero (x ∷ xs) k e = subst (IsDequeEnd count 1) (same_Some (guest_end most x) k e) (fresh x)
    plain (suc n) (x ∷ xs) k e = plain n xs k e

    one : (n number : ℕ) (ids : List RowsId) (k : DequeKnown) → slice_get (changed_at (with_own v) number (map (guest_end most) ids)) n ≡ Some k → IsDequeEnd count 1 k
    one n number [] k e = absurd (none-some k e)
    one zero zero (x ∷ xs) k e = subst (IsDequeEnd count 1) (same_Some (with_own v (guest_end most x)) k e) (owned x)
    one (suc n) zero (x ∷ xs) k e = plain n xs k e
    one zero (suc m) (x ∷ xs) k e = subst (IsDequeEnd count 1) (same_Some (guest_end most x) k e) (fresh x)
    one (suc n) (suc m) (x ∷ xs) k e = one n m xs k e

-- a seat's ends that were just made hold what each seat's ends hold
pub fresh_row : (most number : ℕ) (v : QueueHand) (ids : List RowsId) (row : List DequeKnown) → row ≡ changed_at (with_own v) number (map (guest_end most) ids) → length ids ≡ most → number < most
    → OwnsItsDeque number row × All (IsDequeEnd (length row) 1) row
fresh_row most number v ids row is count lt =
    let size : length row ≡ most = ap length is ∙ length_changed (with_own v) (map (guest_end most) ids) number ∙ length_ends most ids ∙ count in (
      (
        omega arith,
        λ k e. let own = get_changed (with_own v) (map (guest_end most) ids) number k (ap (λ l. slice_get l number) (sym is) ∙ e) in subst (λ (d : DequeKnown). IsSome d.own) (sym own.2) refl,
      ),
      subst (λ l. All (IsDequeEnd (length row) 1) l) (sym is) (fresh_ends (length row) most number v ids (omega arith)),
    )

-- one seat more
pub fresh_push : (deques : List RowsId) (injector : WebId) (seats : List RunKnown) (s : RunKnown) → AreFresh deques injector seats → s ≡ fresh_seat deques injector (length seats) 1 → AreFresh deques injector (seats ++ s ∷ [])
fresh_push deques injector seats s fresh is n k e = ⊎_elim (fresh n k) (λ (h : (n ≡ length seats) × (k ≡ s)). h.1 ∙ is ∙ ap (λ m. fresh_seat deques injector m 1) (sym h.0)) (get_push seats s k n e)

-- the first seat with the parts of the injector that are left
pub rest_given : (schedulers entries : ℕ) (deques : List RowsId) (injector : WebId) (seats : List RunKnown) (first : EntryKnown) → AreFresh deques injector seats
    → first ≡ entry_known injector (hand (all_parts - entries - schedulers) [] [])
    → (n : ℕ) (s : RunKnown) → slice_get (changed_at (λ (k : RunKnown). record k { entry = joined_entry k.entry first }) 0 seats) n ≡ Some s → s ≡ fresh_seat deques injector n (entry_parts schedulers entries n)
rest_given schedulers entries deques injector [] first fresh is n s e = absurd (none-some s e)
rest_given schedulers entries deques injector (x ∷ xs) first fresh is zero s e =
    sym (same_Some (record x { entry = joined_entry x.entry first }) s e)
    ∙ ap (λ (k : RunKnown). record k { entry = joined_entry k.entry first }) (fresh 0 x refl)
    ∙ ap (λ (f : EntryKnown). record (fresh_seat deques injector 0 1) { entry = joined_entry (entry_known injector (hand 1 [] [])) f }) is
rest_given schedulers entries deques injector (x ∷ xs) first fresh is (suc n) s e = fresh (suc n) s e
