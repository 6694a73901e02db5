-- Lemmas on the tasks of the queues and on their stamps and senders.
use Rattle.std.proofs.Common.{◌≡◌, ◌≢◌, ℕ, suc, zero, ◌+◌, ◌<◌, ◌≤◌, List, [], ◌∷◌, ◌++◌, length, take, drop, set, All, Bool, true, false, ◌&&◌, ◌||◌, eqb, ltb, cond, map, refl, sym, ap, ◌∙◌, append_assoc, arith, length-append, ⊎_elim, subst}
use Rattle.std.specs.Prelude.{filter, flat_map}
use Rattle.std.specs.List.{list_any}
use Rattle.std.proofs.lemmas.Bool.{cases_eq, cases_order, eq-eqb, ne_eqb, lt-ltb, le-ltb}
use Rattle.std.proofs.lemmas.List.{map-append, get_or-set_same, take-set-le, drop-set-lt, length-set}
use Rattle.std.proofs.lemmas.List.Elements.{filter-append, All-nil, All-cons, All-head, All-tail, All-weaker}
use Rattle.std.proofs.lemmas.List.Folds.{list_any-append, list_any_none}
use Rattle.std.proofs.lemmas.Grind.{flat_map-append}
use Rattle.std.proofs.Math.Seq.{split_at}
use Rattle.waiting_parcels.specs.declared.arrival.Arrival.{Arrival}
use Rattle.waiting_parcels.specs.Waiting.{has_sender}
use Rattle.waiting_parcels.specs.Queues.{queue_of, arrivals, arrived_at, in_order, IsOwned}
use Rattle.waiting_parcels.proofs.Senders.{has_sender-append}

-- what holds of each element of two lists in a row
pub All-parts : {X : Type 0} (P : X → Type 0) (xs ys : List X) → All P (xs ++ ys) → All P xs × All P ys
All-parts P [] ys all = (All-nil P, all)
All-parts P (x ∷ xs) ys all =
    let later = All-parts P xs ys (All-tail P x (xs ++ ys) all) in
    (All-cons P x xs (All-head P x (xs ++ ys) all) later.0, later.1)

-- a list with one element beside it
pub alone : {X : Type 0} (xs ys : List X) (x : X) → length (xs ++ x ∷ ys) ≤ 1 → (xs ≡ []) × (ys ≡ [])
alone [] [] x short = (refl, refl)
alone [] (y ∷ ys) x short = absurd (omega arith)
alone (w ∷ xs) ys x short = absurd (omega (arith, length-append xs (x ∷ ys)))

-- `arrived_at`, case by case

pub arrived_at-append : (xs ys : List Arrival) (k : ℕ) → arrived_at (xs ++ ys) k ≡ arrived_at xs k ++ arrived_at ys k
arrived_at-append xs ys k =
    ap (map (λ (a : Arrival). a.item)) (filter-append (λ (a : Arrival). eqb a.stamp k) xs ys)
    ∙ map-append (λ (a : Arrival). a.item) (filter (λ (a : Arrival). eqb a.stamp k) xs) (filter (λ (a : Arrival). eqb a.stamp k) ys)

pub arrived_at_same : (a : Arrival) (xs : List Arrival) (k : ℕ) → a.stamp ≡ k → arrived_at (a ∷ xs) k ≡ a.item ∷ arrived_at xs k
arrived_at_same a xs k same =
    ap (λ b. map (λ (a : Arrival). a.item) (cond b (a ∷ filter (λ (a : Arrival). eqb a.stamp k) xs) (filter (λ (a : Arrival). eqb a.stamp k) xs))) (eq-eqb a.stamp k same)

pub arrived_at_other : (a : Arrival) (xs : List Arrival) (k : ℕ) → a.stamp ≢ k → arrived_at (a ∷ xs) k ≡ arrived_at xs k
arrived_at_other a xs k other =
    ap (λ b. map (λ (a : Arrival). a.item) (cond b (a ∷ filter (λ (a : Arrival). eqb a.stamp k) xs) (filter (λ (a : Arrival). eqb a.stamp k) xs))) (ne_eqb a.stamp k other)

pub arrived_at_past : (xs : List Arrival) (next k : ℕ) → All (λ a. a.stamp < next) xs → next ≤ k → arrived_at xs k ≡ []
arrived_at_past [] next k below above = refl
arrived_at_past (a ∷ xs) next k below above =
    let here : a.stamp < next = All-head (λ (a : Arrival). a.stamp < next) a xs below in
    arrived_at_other a xs k (λ e. absurd (omega arith)) ∙ arrived_at_past xs next k (All-tail (λ (a : Arrival). a.stamp < next) a xs below) above

-- one task more, in some place
pub arrived_at_without : (us vs : List Arrival) (a : Arrival) (k : ℕ) → a.stamp ≢ k → arrived_at (us ++ vs) k ≡ arrived_at (us ++ a ∷ vs) k
arrived_at_without us vs a k other =
    arrived_at-append us vs k
    ∙ (ap (λ is. arrived_at us k ++ is) (sym (arrived_at_other a vs k other)) ∙ sym (arrived_at-append us (a ∷ vs) k))

pub arrived_at_with : (us vs : List Arrival) (a : Arrival) (k : ℕ) → a.stamp ≡ k → arrived_at (us ++ a ∷ vs) k ≡ arrived_at us k ++ a.item ∷ arrived_at vs k
arrived_at_with us vs a k same = arrived_at-append us (a ∷ vs) k ∙ ap (λ is. arrived_at us k ++ is) (arrived_at_same a vs k same)

-- where no other task has its stamp
pub arrived_alone : (us vs : List Arrival) (a : Arrival) → length (arrived_at (us ++ a ∷ vs) a.stamp) ≤ 1
    → (arrived_at (us ++ a ∷ vs) a.stamp ≡ a.item ∷ []) × (arrived_at (us ++ vs) a.stamp ≡ [])
arrived_alone us vs a short =
    let w = arrived_at_with us vs a a.stamp refl in
    let parts = alone (arrived_at us a.stamp) (arrived_at vs a.stamp) a.item (subst (λ is. length is ≤ 1) w short) in (
      w ∙ (ap (λ is. is ++ a.item ∷ arrived_at vs a.stamp) parts.0 ∙ ap (λ is. a.item ∷ is) parts.1),
      arrived_at-append us vs a.stamp ∙ (ap (λ is. is ++ arrived_at vs a.stamp) parts.0 ∙ parts.1),
    )

-- The parts of the queues

pub arrivals-split : (queues : List (List Arrival)) (n : ℕ) → n < length queues
    → arrivals queues ≡ arrivals (take n queues) ++ (queue_of n queues ++ arrivals (drop (suc n) queues))
arrivals-split queues n within =
    ap (flat_map (λ q. q)) (split_at queues n [] within) ∙ flat_map-append (λ q. q) (take n queues) (queue_of n queues ∷ drop (suc n) queues)

pub arrivals-set : (queues : List (List Arrival)) (n : ℕ) (queue : List Arrival) → n < length queues
    → arrivals (set queues n queue) ≡ arrivals (take n queues) ++ (queue ++ arrivals (drop (suc n) queues))
arrivals-set queues n queue within =
    arrivals-split (set queues n queue) n (subst (λ l. n < l) (sym (length-set queues n queue)) within)
    ∙ (ap (λ qs. arrivals qs ++ (queue_of n (set queues n queue) ++ arrivals (drop (suc n) (set queues n queue)))) (take-set-le n queues n queue (omega arith))
    ∙ (ap (λ q. arrivals (take n queues) ++ (q ++ arrivals (drop (suc n) (set queues n queue)))) (get_or-set_same queues n queue [] within)
    ∙ ap (λ qs. arrivals (take n queues) ++ (queue ++ arrivals qs)) (drop-set-lt (suc n) queues n queue (omega arith))))

-- one list has a task more than the other
pub record HasMore (less more : List Arrival) (a : Arrival) : Type 0 where
  pub front : List Arrival
  pub back : List Arrival
  pub less_is : less ≡ front ++ back
  pub more_is : more ≡ front ++ a ∷ back

-- a queue without its first task
pub arrivals-without_first : (queues : List (List Arrival)) (n : ℕ) (a : Arrival) (later : List Arrival) → n < length queues → queue_of n queues ≡ a ∷ later
    → HasMore (arrivals (set queues n later)) (arrivals queues) a
arrivals-without_first queues n a later within is = record {
  front = arrivals (take n queues);
  back = later ++ arrivals (drop (suc n) queues);
  less_is = arrivals-set queues n later within;
  more_is = arrivals-split queues n within ∙ ap (λ q. arrivals (take n queues) ++ (q ++ arrivals (drop (suc n) queues))) is;
}

-- a queue with one task more at its end
pub arrivals-with_last : (queues : List (List Arrival)) (n : ℕ) (a : Arrival) → n < length queues
    → HasMore (arrivals queues) (arrivals (set queues n (queue_of n queues ++ a ∷ []))) a
arrivals-with_last queues n a within =
    let front = arrivals (take n queues) in
    let queue = queue_of n queues in
    let back = arrivals (drop (suc n) queues) in
    record {
      front = front ++ queue;
      back = back;
      less_is = arrivals-split queues n within ∙ sym (append_assoc front queue back);
      more_is = arrivals-set queues n (queue ++ a ∷ []) within
          ∙ (ap (λ q. front ++ q) (append_assoc queue (a ∷ []) back) ∙ sym (append_assoc front queue (a ∷ back)));
    }

-- The senders

-- the tasks of a queue are its sender's
pub owned : (m n j : ℕ) (queues : List (List Arrival)) → IsOwned m queues → j ≡ m + n → All (λ a. a.item.sender ≡ j) (queue_of n queues)
owned m n j [] own e = All-nil (λ (a : Arrival). a.item.sender ≡ j)
owned m zero j (queue ∷ queues) own e = subst (λ k. All (λ (a : Arrival). a.item.sender ≡ k) queue) (omega arith) own.0
owned m (suc n) j (queue ∷ queues) own e = owned (suc m) n j queues own.1 (omega arith)

pub owned-set : (m n j : ℕ) (queues : List (List Arrival)) (queue : List Arrival) → IsOwned m queues → j ≡ m + n → All (λ a. a.item.sender ≡ j) queue
    → IsOwned m (set queues n queue)
owned-set m n j [] queue own e all = tt
owned-set m zero j (old ∷ queues) queue own e all = (subst (λ k. All (λ (a : Arrival). a.item.sender ≡ k) queue) (omega arith) all, own.1)
owned-set m (suc n) j (old ∷ queues) queue own e all = (own.0, owned-set (suc m) n j queues queue own.1 (omega arith) all)

and_true_right : (b : Bool) → (b && true) ≡ b
and_true_right true = refl
and_true_right false = refl

and_false_right : (b : Bool) → (b && false) ≡ false
and_false_right true = refl
and_false_right false = refl

-- no other queue has a sender's tasks
any-other : (n j : ℕ) (p : Arrival → Bool) (queue : List Arrival) → All (λ a. a.item.sender ≡ j) queue → j ≢ n
    → list_any (λ a. eqb a.item.sender n && p a) queue ≡ false
any-other n j p queue own other =
    list_any_none (λ (a : Arrival). eqb a.item.sender n && p a) queue
    (All-weaker (λ (a : Arrival). a.item.sender ≡ j) (λ (a : Arrival). (eqb a.item.sender n && p a) ≡ false)
    (λ a e. ap (λ b. b && p a) (ne_eqb a.item.sender n (λ f. other (sym e ∙ f)))) queue own)

any-own : (n : ℕ) (p : Arrival → Bool) (queue : List Arrival) → All (λ a. a.item.sender ≡ n) queue
    → list_any (λ a. eqb a.item.sender n && p a) queue ≡ list_any p queue
any-own n p [] own = refl
any-own n p (a ∷ later) own =
    ap (λ b. (b && p a) || list_any (λ (a : Arrival). eqb a.item.sender n && p a) later) (eq-eqb a.item.sender n (All-head (λ (a : Arrival). a.item.sender ≡ n) a later own))
    ∙ ap (λ b. p a || b) (any-own n p later (All-tail (λ (a : Arrival). a.item.sender ≡ n) a later own))

any-later : (m n : ℕ) (p : Arrival → Bool) (queues : List (List Arrival)) → IsOwned m queues → n < m
    → list_any (λ a. eqb a.item.sender n && p a) (arrivals queues) ≡ false
any-later m n p [] own below = refl
any-later m n p (queue ∷ queues) own below =
    list_any-append (λ (a : Arrival). eqb a.item.sender n && p a) queue (arrivals queues)
    ∙ (ap (λ b. b || list_any (λ (a : Arrival). eqb a.item.sender n && p a) (arrivals queues)) (any-other n m p queue own.0 (λ e. absurd (omega arith)))
    ∙ any-later (suc m) n p queues own.1 (omega arith))

-- what a test finds among one sender's tasks, it finds in the sender's queue
any-queue : (m n j : ℕ) (p : Arrival → Bool) (queues : List (List Arrival)) → IsOwned m queues → j ≡ m + n
    → list_any (λ a. eqb a.item.sender j && p a) (arrivals queues) ≡ list_any p (queue_of n queues)
any-queue m n j p [] own e = refl
any-queue m zero j p (queue ∷ queues) own e =
    let here : m ≡ j = omega arith in
    list_any-append (λ (a : Arrival). eqb a.item.sender j && p a) queue (arrivals queues)
    ∙ (ap (λ b. b || list_any (λ (a : Arrival). eqb a.item.sender j && p a) (arrivals queues)) (any-own j p queue (subst (λ k. All (λ (a : Arrival). a.item.sender ≡ k) queue) here own.0))
    ∙ (ap (λ b. list_any p queue || b) (any-later (suc m) j p queues own.1 (omega arith)) ∙ or_false_end (list_any p queue))) where
      or_false_end : (b : Bool) → (b || false) ≡ b
      or_false_end true = refl
      or_false_end false = refl
any-queue m (suc n) j p (queue ∷ queues) own e =
    list_any-append (λ (a : Arrival). eqb a.item.sender j && p a) queue (arrivals queues)
    ∙ (ap (λ b. b || list_any (λ (a : Arrival). eqb a.item.sender j && p a) (arrivals queues)) (any-other j m p queue own.0 (λ f. absurd (omega arith)))
    ∙ any-queue (suc m) n j p queues own.1 (omega arith))

-- a sender among the tasks with one stamp
has_sender-arrived : (n k : ℕ) (all : List Arrival) → has_sender n (arrived_at all k) ≡ list_any (λ a. eqb a.item.sender n && eqb a.stamp k) all
has_sender-arrived n k [] = refl
has_sender-arrived n k (a ∷ all) =
    ⊎_elim
    (λ (same : a.stamp ≡ k).
    ap (has_sender n) (arrived_at_same a all k same)
    ∙ (ap (λ b. eqb a.item.sender n || b) (has_sender-arrived n k all)
    ∙ (ap (λ b. b || list_any (λ (a : Arrival). eqb a.item.sender n && eqb a.stamp k) all) (sym (and_true_right (eqb a.item.sender n)))
    ∙ ap (λ b. (eqb a.item.sender n && b) || list_any (λ (a : Arrival). eqb a.item.sender n && eqb a.stamp k) all) (sym (eq-eqb a.stamp k same)))))
    (λ (other : a.stamp ≢ k).
    ap (has_sender n) (arrived_at_other a all k other)
    ∙ (has_sender-arrived n k all
    ∙ (ap (λ b. b || list_any (λ (a : Arrival). eqb a.item.sender n && eqb a.stamp k) all) (sym (and_false_right (eqb a.item.sender n)))
    ∙ ap (λ b. (eqb a.item.sender n && b) || list_any (λ (a : Arrival). eqb a.item.sender n && eqb a.stamp k) all) (sym (ne_eqb a.stamp k other)))))
    (cases_eq a.stamp k)

any-or : (p q r : Arrival → Bool) → ((a : Arrival) → (p a || q a) ≡ r a) → (xs : List Arrival) → (list_any p xs || list_any q xs) ≡ list_any r xs
any-or p q r same [] = refl
any-or p q r same (a ∷ xs) = swapped (p a) (q a) (list_any p xs) (list_any q xs) ∙ (ap (λ b. b || (list_any p xs || list_any q xs)) (same a) ∙ ap (λ b. r a || b) (any-or p q r same xs)) where
  swapped : (a b c d : Bool) → ((a || c) || (b || d)) ≡ ((a || b) || (c || d))
  swapped true b c d = refl
  swapped false true true d = refl
  swapped false true false d = refl
  swapped false false true d = refl
  swapped false false false d = refl

below-more : (b : Bool) (s k : ℕ) → ((b && ltb s k) || (b && eqb s k)) ≡ (b && ltb s (suc k))
below-more false s k = refl
below-more true s k =
    ⊎_elim
    (λ (same : s ≡ k). ap (λ t. t || eqb s k) (le-ltb s k (omega arith)) ∙ (eq-eqb s k same ∙ sym (lt-ltb s (suc k) (omega arith))))
    (λ o. ⊎_elim
    (λ (below : s < k). ap (λ t. t || eqb s k) (lt-ltb s k below) ∙ sym (lt-ltb s (suc k) (omega arith)))
    (λ (above : k < s). ap (λ t. t || eqb s k) (le-ltb s k (omega arith)) ∙ (ne_eqb s k (λ e. absurd (omega arith)) ∙ sym (le-ltb s (suc k) (omega arith))))
    o)
    (cases_order s k)

any-below_zero : (n : ℕ) (all : List Arrival) → list_any (λ a. eqb a.item.sender n && ltb a.stamp 0) all ≡ false
any-below_zero n [] = refl
any-below_zero n (a ∷ all) =
    ap (λ b. (eqb a.item.sender n && b) || list_any (λ (a : Arrival). eqb a.item.sender n && ltb a.stamp 0) all) (le-ltb a.stamp 0 (omega arith))
    ∙ (ap (λ b. b || list_any (λ (a : Arrival). eqb a.item.sender n && ltb a.stamp 0) all) (and_false_right (eqb a.item.sender n)) ∙ any-below_zero n all)

has_sender-gathered : (n k : ℕ) (all : List Arrival) → has_sender n (in_order k all) ≡ list_any (λ a. eqb a.item.sender n && ltb a.stamp k) all
has_sender-gathered n zero all = sym (any-below_zero n all)
has_sender-gathered n (suc k) all =
    has_sender-append n (in_order k all) (arrived_at all k)
    ∙ (ap (λ b. b || has_sender n (arrived_at all k)) (has_sender-gathered n k all)
    ∙ (ap (λ b. list_any (λ (a : Arrival). eqb a.item.sender n && ltb a.stamp k) all || b) (has_sender-arrived n k all)
    ∙ any-or (λ (a : Arrival). eqb a.item.sender n && ltb a.stamp k) (λ (a : Arrival). eqb a.item.sender n && eqb a.stamp k) (λ (a : Arrival). eqb a.item.sender n && ltb a.stamp (suc k))
    (λ a. below-more (eqb a.item.sender n) a.stamp k) all))

-- a sender has a task with this stamp where one is in its queue
pub has_sender-at : (n k : ℕ) (queues : List (List Arrival)) → IsOwned 0 queues
    → has_sender n (arrived_at (arrivals queues) k) ≡ list_any (λ a. eqb a.stamp k) (queue_of n queues)
has_sender-at n k queues own = has_sender-arrived n k (arrivals queues) ∙ any-queue 0 n n (λ (a : Arrival). eqb a.stamp k) queues own (omega arith)

-- a sender has a task with a lower stamp where one is in its queue
pub has_sender-in_order : (n k : ℕ) (queues : List (List Arrival)) → IsOwned 0 queues
    → has_sender n (in_order k (arrivals queues)) ≡ list_any (λ a. ltb a.stamp k) (queue_of n queues)
has_sender-in_order n k queues own = has_sender-gathered n k (arrivals queues) ∙ any-queue 0 n n (λ (a : Arrival). ltb a.stamp k) queues own (omega arith)
