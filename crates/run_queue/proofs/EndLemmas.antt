-- What the ends of a deque know together.
use Rattle.std.proofs.Common.{◌≡◌, ℕ, ◌+◌, Global, List, [], ◌∷◌, ◌++◌, Option, Some, None, IfNone, is_some, false, true≢false, map, refl, ap, arith}
use Rattle.std.specs.List.{sum_by}
use Rattle.std.specs.Prelude.{length}
use Rattle.std.proofs.lemmas.List.Sums.{sum_by-cons, sum_by_push, sum_by-append}
use Rattle.crossbeam_deque.specs.Handles.{Pass}
use Rattle.port_words.specs.declared.home.homes.Ticket.{Ticket}
use Rattle.run_queue.specs.declared.account.QueueHand.{QueueHand}
use Rattle.run_queue.specs.Account.{together, put_weight, taken_weight, parts_of, IsLeft}
use Rattle.run_queue.specs.Ends.{guest_view}
use Rattle.run_queue.specs.Seats.{DequeKnown, IsSameAccount, hands_of, IsRest, AreLeftOf, put_in_deques, taken_of_deques, stolen_in}

-- two hands weigh as much as one that is both
both_weigh : (f : QueueHand → ℕ) (v g : QueueHand) (gs hands : List QueueHand) → f (together v g) ≡ f v + f g → sum_by f hands ≡ sum_by f (v ∷ (gs ++ g ∷ [])) → sum_by f hands ≡ sum_by f (together v g ∷ gs)
both_weigh f v g gs hands both same =
    let one = sum_by-cons f v (gs ++ g ∷ []) in
    let two = sum_by_push f gs g in
    let three = sum_by-cons f (together v g) gs in
    omega arith

pub absorbs : (hands : List QueueHand) (v g : QueueHand) (gs : List QueueHand) → IsSameAccount hands (v ∷ (gs ++ g ∷ [])) → IsSameAccount hands (together v g ∷ gs)
absorbs hands v g gs same = record {
  parts = both_weigh parts_of v g gs hands refl same.parts;
  put = λ weight. both_weigh (put_weight weight) v g gs hands (sum_by-append weight v.put g.put) (same.put weight);
  taken = λ weight. both_weigh (taken_weight weight) v g gs hands (sum_by-append weight v.taken g.taken) (same.taken weight);
}

pub map_push : {A B : Type 0} (f : A → B) (xs : List A) (x : A) → map f (xs ++ x ∷ []) ≡ map f xs ++ f x ∷ []
map_push f [] x = refl
map_push f (y ∷ ys) x = ap (λ zs. f y ∷ zs) (map_push f ys x)

-- what a call tells where it found nothing
pub none_then : {T : Type 0} (o : Option T) {P : Type 0} → IfNone o P → is_some o ≡ false → P
none_then None h e = h
none_then (Some x) h e = absurd (true≢false e)

-- one deque more is closed
pub closes : (whole rest : List DequeKnown) (deque : DequeKnown) (left more : List Ticket)
    → ((weight : Ticket → ℕ) → put_in_deques weight whole + taken_of_deques weight (rest ++ deque ∷ []) ≡ put_in_deques weight (rest ++ deque ∷ []) + taken_of_deques weight whole + sum_by weight left)
    → IsRest (hands_of deque) more
    → (weight : Ticket → ℕ) → put_in_deques weight whole + taken_of_deques weight rest ≡ put_in_deques weight rest + taken_of_deques weight whole + sum_by weight (left ++ more)
closes whole rest deque left more before one weight =
    let a = before weight in
    let b = one weight in
    let put = sum_by_push (λ (k : DequeKnown). sum_by (put_weight weight) (hands_of k)) rest deque in
    let took = sum_by_push (λ (k : DequeKnown). sum_by (taken_weight weight) (hands_of k)) rest deque in
    let sums = sum_by-append weight left more in
    omega arith

-- what is left of the deques and of the injector together
pub all_left : (deques : List DequeKnown) (v : QueueHand) (left more : List Ticket) → AreLeftOf deques left → IsLeft v more
    → (weight : Ticket → ℕ) → put_in_deques weight deques + put_weight weight v ≡ taken_of_deques weight deques + taken_weight weight v + sum_by weight (left ++ more)
all_left deques v left more one two weight =
    let a = one weight in
    let b = two weight in
    let sums = sum_by-append weight left more in
    omega arith

-- what two lists of passes took, they took together
pub stolen_joined : (gs hs : List (Pass Ticket QueueHand Global)) → stolen_in (map guest_view (gs ++ hs)) ≡ stolen_in (map guest_view gs) + stolen_in (map guest_view hs)
stolen_joined [] hs = omega arith
stolen_joined (g ∷ gs) hs =
    let rest = stolen_joined gs hs in
    let one = sum_by-cons (λ (v : QueueHand). length v.taken) (guest_view g) (map guest_view gs) in
    let two = sum_by-cons (λ (v : QueueHand). length v.taken) (guest_view g) (map guest_view (gs ++ hs)) in
    omega arith
