-- What always holds of the queues, kept where a task comes or goes.
use Rattle.std.proofs.Common.{◌≡◌, ◌≢◌, ℕ, suc, zero, ◌+◌, ◌-◌, ◌<◌, ◌≤◌, ◌^◌, List, [], ◌∷◌, ◌++◌, length, set, get_or, All, Bool, true, false, ◌||◌, eqb, cond, refl, sym, ap, ◌∙◌, arith, add-one, length-append, inl, inr, ⊎_elim, subst}
use Rattle.std.specs.Prelude.{Option, None, IfSome, swap_remove, slice_index}
use Rattle.std.specs.List.{list_any}
use Rattle.std.proofs.lemmas.Bool.{cases_eq, eq-eqb, ne_eqb, or_parts, cases_Bool, true≢false}
use Rattle.std.proofs.lemmas.List.{get_or-set_same, get_or-set_other, get_or_default, length-set}
use Rattle.std.proofs.lemmas.List.Elements.{All-nil, All-cons, All-head, All-tail, All-append, All-push, All-set, All-weaker, All-get_or, All-take}
use Rattle.std.proofs.lemmas.List.Folds.{list_any-append}
use Rattle.std.proofs.lemmas.List.Sorted.{IsPermutation-swap_remove, list_any-IsPermutation}
use Rattle.task_queue.specs.declared.item.Item.{Item}
use Rattle.port_lanes.specs.Parcels.{ParcelView}
use Rattle.waiting_parcels.specs.declared.arrival.Arrival.{Arrival}
use Rattle.waiting_parcels.specs.Queues.{queue_of, arrivals, arrived_at, in_order, IsRising, IsOwned, IsTaken, IsQueued, IsKept}
use Rattle.waiting_parcels.proofs.Gathered.{gathered-same, length-gathered-le, IsWithout, gathered-without}
use Rattle.waiting_parcels.proofs.Arrivals.{All-parts, arrived_at-append, arrived_at_past, arrived_at_without, arrived_at_with, arrived_alone, HasMore, arrivals-split, arrivals-without_first, arrivals-with_last, owned, owned-set}
use Rattle.waiting_parcels.proofs.Choosing.{rising_at}

-- Empty queues

empty-arrivals : (queues : List (List Arrival)) → All (λ queue. queue ≡ []) queues → arrivals queues ≡ []
empty-arrivals [] empty = refl
empty-arrivals (queue ∷ queues) empty =
    ap (λ q. q ++ arrivals queues) (All-head (λ (q : List Arrival). q ≡ []) queue queues empty) ∙ empty-arrivals queues (All-tail (λ (q : List Arrival). q ≡ []) queue queues empty)

empty-own : (n : ℕ) (queues : List (List Arrival)) → All (λ queue. queue ≡ []) queues → IsOwned n queues
empty-own n [] empty = tt
empty-own n (queue ∷ queues) empty = (
  subst (All (λ (a : Arrival). a.item.sender ≡ n)) (sym (All-head (λ (q : List Arrival). q ≡ []) queue queues empty)) (All-nil (λ (a : Arrival). a.item.sender ≡ n)),
  empty-own (suc n) queues (All-tail (λ (q : List Arrival). q ≡ []) queue queues empty),
)

empty-queue : (n : ℕ) (queues : List (List Arrival)) → All (λ queue. queue ≡ []) queues → queue_of n queues ≡ []
empty-queue n [] empty = refl
empty-queue zero (queue ∷ queues) empty = All-head (λ (q : List Arrival). q ≡ []) queue queues empty
empty-queue (suc n) (queue ∷ queues) empty = empty-queue n queues (All-tail (λ (q : List Arrival). q ≡ []) queue queues empty)

pub kept-empty : (queues : List (List Arrival)) → All (λ queue. queue ≡ []) queues → IsKept queues [] 0 0 None
kept-empty queues empty = record {
  own = empty-own 0 queues empty;
  rising = All-weaker (λ (q : List Arrival). q ≡ []) IsRising (λ q e. subst IsRising (sym e) tt) queues empty;
  past = subst (All (λ (a : Arrival). a.stamp < 0)) (sym (empty-arrivals queues empty)) (All-nil (λ (a : Arrival). a.stamp < 0));
  single = λ stamp. omega (arith, ap (λ all. length (arrived_at all stamp)) (empty-arrivals queues empty));
  known = All-nil (λ (n : ℕ). n < length queues);
  complete = λ n none. empty-queue n queues empty;
  came = tt;
  counted = refl;
  small = omega arith;
}

-- another newest task
pub kept-newest : (queues : List (List Arrival)) (waiting : List ℕ) (queued next : ℕ) (newest other : Option (Item ParcelView)) → IsKept queues waiting queued next newest
    → IfSome other (λ i. i.sender < length queues) → IsKept queues waiting queued next other
kept-newest queues waiting queued next newest other k came = record {
  own = k.own;
  rising = k.rising;
  past = k.past;
  single = k.single;
  known = k.known;
  complete = k.complete;
  came = came;
  counted = k.counted;
  small = k.small;
}

-- as many tasks wait in queues as there are stamps, or fewer
pub queued-le : (queues : List (List Arrival)) (waiting : List ℕ) (queued next : ℕ) (newest : Option (Item ParcelView)) → IsKept queues waiting queued next newest → queued ≤ 2 ^ 63
queued-le queues waiting queued next newest k =
    omega (arith, k.counted, k.small, length-gathered-le (arrived_at (arrivals queues)) next (λ j. k.single j))

-- A task comes to the end of its sender's queue

rising-push : (queue : List Arrival) (a : Arrival) → IsRising queue → All (λ b. b.stamp < a.stamp) queue → IsRising (queue ++ a ∷ [])
rising-push [] a rising below = (All-nil (λ (b : Arrival). a.stamp < b.stamp), tt)
rising-push (b ∷ later) a rising below = (
  All-push (λ (c : Arrival). b.stamp < c.stamp) later a rising.0 (All-head (λ (c : Arrival). c.stamp < a.stamp) b later below),
  rising-push later a rising.1 (All-tail (λ (c : Arrival). c.stamp < a.stamp) b later below),
)

-- what holds of all tasks holds of a queue's
pub All-queue : (P : Arrival → Type 0) (queues : List (List Arrival)) (n : ℕ) → n < length queues → All P (arrivals queues) → All P (queue_of n queues)
All-queue P queues n within all =
    (All-parts P (queue_of n queues) _ (All-parts P _ _ (subst (All P) (arrivals-split queues n within) all)).1).0

past-weaker : (k : ℕ) (xs : List Arrival) → All (λ a. a.stamp < k) xs → All (λ a. a.stamp < k + 1) xs
past-weaker k xs past = All-weaker (λ (a : Arrival). a.stamp < k) (λ (a : Arrival). a.stamp < k + 1) (λ a below. omega arith) xs past

both_nil : {X : Type 0} (xs ys : List X) → xs ++ ys ≡ [] → (xs ≡ []) × (ys ≡ [])
both_nil [] ys e = (refl, e)
both_nil (x ∷ xs) ys e = absurd cc

-- the one more is alone with its stamp, where no other had it
more-alone : (less more : List Arrival) (a : Arrival) (s : ℕ) → HasMore less more a → a.stamp ≡ s → arrived_at less s ≡ [] → arrived_at more s ≡ a.item ∷ []
more-alone less more a s m stamp none =
    let parts = both_nil (arrived_at m.front s) (arrived_at m.back s) (sym (arrived_at-append m.front m.back s) ∙ (ap (λ all. arrived_at all s) (sym m.less_is) ∙ none)) in
    ap (λ all. arrived_at all s) m.more_is
    ∙ (arrived_at_with m.front m.back a s stamp
    ∙ (ap (λ is. is ++ a.item ∷ arrived_at m.back s) parts.0 ∙ ap (λ is. a.item ∷ is) parts.1))

-- other stamps stay as they are
more-other : (less more : List Arrival) (a : Arrival) (s : ℕ) → HasMore less more a → a.stamp ≢ s → arrived_at more s ≡ arrived_at less s
more-other less more a s m other =
    ap (λ all. arrived_at all s) m.more_is ∙ (sym (arrived_at_without m.front m.back a s other) ∙ ap (λ all. arrived_at all s) (sym m.less_is))

single-more : (less more : List Arrival) (a : Arrival) (next : ℕ) → HasMore less more a → a.stamp ≡ next → All (λ b. b.stamp < next) less
    → ((s : ℕ) → length (arrived_at less s) ≤ 1) → (s : ℕ) → length (arrived_at more s) ≤ 1
single-more less more a next m stamp past single s =
    ⊎_elim
    (λ (same : a.stamp ≡ s). omega (arith, ap length (more-alone less more a s m same (arrived_at_past less next s past (omega arith)))))
    (λ (other : a.stamp ≢ s). omega (arith, ap length (more-other less more a s m other), single s))
    (cases_eq a.stamp s)

single-less : (less more : List Arrival) (a : Arrival) → HasMore less more a → ((s : ℕ) → length (arrived_at more s) ≤ 1) → (s : ℕ) → length (arrived_at less s) ≤ 1
single-less less more a m single s =
    ⊎_elim
    (λ (same : a.stamp ≡ s).
    omega (
      arith,
      single s,
      ap (λ all. length (arrived_at all s)) m.more_is,
      ap (λ all. length (arrived_at all s)) m.less_is,
      ap length (arrived_at_with m.front m.back a s same),
      ap length (arrived_at-append m.front m.back s),
      length-append (arrived_at m.front s) (a.item ∷ arrived_at m.back s),
      length-append (arrived_at m.front s) (arrived_at m.back s),
    ))
    (λ (other : a.stamp ≢ s). omega (arith, ap length (more-other less more a s m other), single s))
    (cases_eq a.stamp s)

past-less : (P : Arrival → Type 0) (less more : List Arrival) (a : Arrival) → HasMore less more a → All P more → All P less
past-less P less more a m all =
    let parts = All-parts P m.front (a ∷ m.back) (subst (All P) m.more_is all) in
    subst (All P) (sym m.less_is) (All-append P m.front m.back parts.0 (All-tail P a m.back parts.1))

past-more : (P : Arrival → Type 0) (less more : List Arrival) (a : Arrival) → HasMore less more a → All P less → P a → All P more
past-more P less more a m all here =
    let parts = All-parts P m.front m.back (subst (All P) m.less_is all) in
    subst (All P) (sym m.more_is) (All-append P m.front (a ∷ m.back) parts.0 (All-cons P a m.back here parts.1))

-- the list has one task more
pub items-queued : (queues new_queues : List (List Arrival)) (waiting new_waiting : List ℕ) (next : ℕ) (a : Arrival) → All (λ b. b.stamp < next) (arrivals queues)
    → a.item.sender < length queues → a.stamp ≡ next → IsQueued queues new_queues waiting new_waiting a
    → in_order (next + 1) (arrivals new_queues) ≡ in_order next (arrivals queues) ++ a.item ∷ []
items-queued queues new_queues waiting new_waiting next a past within stamp q =
    let m : HasMore (arrivals queues) (arrivals new_queues) a =
    subst (λ qs. HasMore (arrivals queues) (arrivals qs) a) (sym q.now) (arrivals-with_last queues a.item.sender a within) in
    ap (λ k. in_order k (arrivals new_queues)) (add-one next)
    ∙ (ap (λ is. is ++ arrived_at (arrivals new_queues) next)
    (gathered-same (arrived_at (arrivals new_queues)) (arrived_at (arrivals queues)) next
    (λ j below. more-other (arrivals queues) (arrivals new_queues) a j m (λ e. absurd (omega arith))))
    ∙ ap (λ is. in_order next (arrivals queues) ++ is)
    (more-alone (arrivals queues) (arrivals new_queues) a next m stamp (arrived_at_past (arrivals queues) next next past (omega arith))))

-- the senders that wait, where one more may come
any-waiting : (p : ℕ → Bool) (b : Bool) (waiting : List ℕ) (n : ℕ) → list_any p (cond b (waiting ++ n ∷ []) waiting) ≡ false
    → (list_any p waiting ≡ false) × (b ≡ true → p n ≡ false)
any-waiting p true waiting n none =
    let parts = or_parts (list_any p waiting) (list_any p (n ∷ [])) (sym (list_any-append p waiting (n ∷ [])) ∙ none) in
    (parts.0, λ _. (or_parts (p n) false parts.1).0)
any-waiting p false waiting n none = (none, λ e. absurd (true≢false (sym e)))

complete-queued : (queues : List (List Arrival)) (waiting : List ℕ) (n : ℕ) (queue : List Arrival)
    → ((i : ℕ) → list_any (λ m. eqb m i) waiting ≡ false → queue_of i queues ≡ [])
    → (i : ℕ) → list_any (λ m. eqb m i) (cond (eqb (length (queue_of n queues)) 0) (waiting ++ n ∷ []) waiting) ≡ false → queue_of i (set queues n queue) ≡ []
complete-queued queues waiting n queue complete i none =
    let parts = any-waiting (λ m. eqb m i) (eqb (length (queue_of n queues)) 0) waiting n none in
    ⊎_elim
    (λ (same : i ≡ n).
    let empty : queue_of n queues ≡ [] = subst (λ j. queue_of j queues ≡ []) same (complete i parts.0) in
    absurd (true≢false (sym (eq-eqb n i (sym same)) ∙ parts.1 (ap (λ (q : List Arrival). eqb (length q) 0) empty))))
    (λ (other : i ≢ n). get_or-set_other queues n i queue [] other ∙ complete i parts.0)
    (cases_eq i n)

known-queued : (b : Bool) (waiting : List ℕ) (n senders : ℕ) → All (λ i. i < senders) waiting → n < senders → All (λ i. i < senders) (cond b (waiting ++ n ∷ []) waiting)
known-queued true waiting n senders known within = All-push (λ (i : ℕ). i < senders) waiting n known within
known-queued false waiting n senders known within = known

pub kept-queued : (queues new_queues : List (List Arrival)) (waiting new_waiting : List ℕ) (queued next : ℕ) (newest : Option (Item ParcelView)) (a : Arrival)
    → IsKept queues waiting queued next newest → a.item.sender < length queues → a.stamp ≡ next → next < 2 ^ 63 → IsQueued queues new_queues waiting new_waiting a
    → IsKept new_queues new_waiting (queued + 1) (next + 1) None
kept-queued queues new_queues waiting new_waiting queued next newest a k within stamp small q =
    let n : ℕ = a.item.sender in
    let queue : List Arrival = queue_of a.item.sender queues in
    let m : HasMore (arrivals queues) (arrivals new_queues) a =
    subst (λ qs. HasMore (arrivals queues) (arrivals qs) a) (sym q.now) (arrivals-with_last queues a.item.sender a within) in
    let long : length queues ≡ length new_queues = sym (ap length q.now ∙ length-set queues a.item.sender (queue_of a.item.sender queues ++ a ∷ [])) in
    record {
      own = subst (IsOwned 0) (sym q.now)
          (owned-set 0 n n queues (queue ++ a ∷ []) k.own (omega arith)
          (All-push (λ (b : Arrival). b.item.sender ≡ n) queue a (owned 0 n n queues k.own (omega arith)) refl));
      rising = subst (All IsRising) (sym q.now)
          (All-set IsRising queues n (queue ++ a ∷ []) (rising-push queue a (rising_at n queues k.rising) (All-queue (λ (b : Arrival). b.stamp < a.stamp) queues n within
          (subst (λ s. All (λ (b : Arrival). b.stamp < s) (arrivals queues)) (sym stamp) k.past))) k.rising);
      past = past-more (λ (b : Arrival). b.stamp < next + 1) (arrivals queues) (arrivals new_queues) a m (past-weaker next (arrivals queues) k.past) (omega arith);
      single = single-more (arrivals queues) (arrivals new_queues) a next m stamp k.past k.single;
      known = subst (All (λ (i : ℕ). i < length new_queues)) (sym q.waits)
          (subst (λ l. All (λ (i : ℕ). i < l) (cond (eqb (length queue) 0) (waiting ++ n ∷ []) waiting)) long
          (known-queued (eqb (length queue) 0) waiting n (length queues) k.known within));
      complete = λ i none. ap (queue_of i) q.now ∙ complete-queued queues waiting n (queue ++ a ∷ []) k.complete i (sym (ap (list_any (λ m. eqb m i)) q.waits) ∙ none);
      came = tt;
      counted = omega (arith, k.counted, ap length (items-queued queues new_queues waiting new_waiting next a k.past within stamp q), length-append (in_order next (arrivals queues)) (a.item ∷ []));
      small = omega arith;
    }

-- A queue gives its first task

any-removed : (p : ℕ → Bool) (b : Bool) (waiting : List ℕ) (place : ℕ) → place < length waiting
    → list_any p (cond b (swap_remove waiting place (slice_index waiting place)) waiting) ≡ false
    → (p (slice_index waiting place) ≡ false → list_any p waiting ≡ false) × (b ≡ false → list_any p waiting ≡ false)
any-removed p true waiting place within none = (
  λ other. list_any-IsPermutation p waiting (slice_index waiting place ∷ swap_remove waiting place (slice_index waiting place))
      (IsPermutation-swap_remove waiting place (slice_index waiting place) within (get_or_default waiting place 0 (slice_index waiting place) within))
      ∙ (ap (λ b. b || list_any p (swap_remove waiting place (slice_index waiting place))) other ∙ none),
  λ e. absurd (true≢false e),
)
any-removed p false waiting place within none = ((λ _. none), λ _. none)

nil_from_zero : (xs : List Arrival) → eqb (length xs) 0 ≡ true → xs ≡ []
nil_from_zero [] e = refl
nil_from_zero (x ∷ xs) e = absurd (true≢false (sym e ∙ ne_eqb (length (x ∷ xs)) 0 (λ f. absurd (omega arith))))

complete-taken : (queues : List (List Arrival)) (waiting : List ℕ) (place : ℕ) (a : Arrival) (later : List Arrival) → place < length waiting
    → slice_index waiting place < length queues → queue_of (slice_index waiting place) queues ≡ a ∷ later
    → ((i : ℕ) → list_any (λ m. eqb m i) waiting ≡ false → queue_of i queues ≡ [])
    → (i : ℕ) → list_any (λ m. eqb m i) (cond (eqb (length later) 0) (swap_remove waiting place (slice_index waiting place)) waiting) ≡ false
    → queue_of i (set queues (slice_index waiting place) later) ≡ []
complete-taken queues waiting place a later within known was complete i none =
    let n : ℕ = slice_index waiting place in
    let parts = any-removed (λ m. eqb m i) (eqb (length later) 0) waiting place within none in
    ⊎_elim
    (λ (same : i ≡ slice_index waiting place).
    ap (λ j. queue_of j (set queues (slice_index waiting place) later)) same
    ∙ (get_or-set_same queues (slice_index waiting place) later [] known
    ∙ elim (cases_Bool (eqb (length later) 0)) [
      | inl empty ↦ nil_from_zero later empty
      | inr some ↦
          let gone : queue_of (slice_index waiting place) queues ≡ [] = subst (λ j. queue_of j queues ≡ []) same (complete i (parts.1 some)) in
          let both : a ∷ later ≡ [] = sym was ∙ gone in absurd cc
    ]))
    (λ (other : i ≢ slice_index waiting place).
    get_or-set_other queues (slice_index waiting place) i later [] other
    ∙ complete i (parts.0 (ne_eqb (slice_index waiting place) i (λ e. other (sym e)))))
    (cases_eq i (slice_index waiting place))

-- one task fewer
count-less : (less more : List Arrival) (a : Arrival) (next : ℕ) → HasMore less more a → a.stamp < next → ((s : ℕ) → length (arrived_at more s) ≤ 1)
    → length (in_order next less) + 1 ≡ length (in_order next more)
count-less less more a next m below single =
    let short : length (arrived_at (m.front ++ a ∷ m.back) a.stamp) ≤ 1 = subst (λ all. length (arrived_at all a.stamp) ≤ 1) m.more_is (single a.stamp) in
    let only = arrived_alone m.front m.back a short in
    let w : IsWithout (arrived_at more) (arrived_at less) a.stamp next a.item =
    gathered-without (arrived_at more) (arrived_at less) a.stamp next a.item (λ j other. sym (more-other less more a j m (λ e. other (sym e))))
    (ap (λ all. arrived_at all a.stamp) m.more_is ∙ only.0) (ap (λ all. arrived_at all a.stamp) m.less_is ∙ only.1) below in
    omega (arith, ap length w.all, ap length w.rest, length-append (in_order a.stamp more) (a.item ∷ w.after), length-append (in_order a.stamp more) w.after)

known-taken : (b : Bool) (waiting : List ℕ) (place senders : ℕ) → All (λ i. i < senders) waiting → place < length waiting
    → All (λ i. i < senders) (cond b (swap_remove waiting place (slice_index waiting place)) waiting)
known-taken true waiting place senders known within =
    All-take (λ (i : ℕ). i < senders) (length waiting - 1) (set waiting place (get_or waiting (length waiting - 1) (slice_index waiting place)))
    (All-set (λ (i : ℕ). i < senders) waiting place (get_or waiting (length waiting - 1) (slice_index waiting place))
    (All-get_or (λ (i : ℕ). i < senders) waiting (length waiting - 1) (slice_index waiting place) (omega arith) known) known)
known-taken false waiting place senders known within = known

pub kept-taken : (queues new_queues : List (List Arrival)) (waiting new_waiting : List ℕ) (queued next : ℕ) (newest : Option (Item ParcelView)) (place : ℕ) (a : Arrival)
    → IsKept queues waiting queued next newest → place < length waiting → IsTaken queues new_queues waiting new_waiting place a
    → IsKept new_queues new_waiting (queued - 1) next newest
kept-taken queues new_queues waiting new_waiting queued next newest place a k within t =
    let n : ℕ = slice_index waiting place in
    let known : slice_index waiting place < length queues = All-get_or (λ (i : ℕ). i < length queues) waiting place 0 within k.known in
    let m : HasMore (arrivals new_queues) (arrivals queues) a =
    subst (λ qs. HasMore (arrivals qs) (arrivals queues) a) (sym t.now) (arrivals-without_first queues (slice_index waiting place) a t.later known t.was) in
    let long : length queues ≡ length new_queues = sym (ap length t.now ∙ length-set queues (slice_index waiting place) t.later) in
    record {
      own = subst (IsOwned 0) (sym t.now)
          (owned-set 0 n n queues t.later k.own (omega arith)
          (All-tail (λ (b : Arrival). b.item.sender ≡ n) a t.later (subst (All (λ (b : Arrival). b.item.sender ≡ n)) t.was (owned 0 n n queues k.own (omega arith)))));
      rising = subst (All IsRising) (sym t.now) (All-set IsRising queues n t.later ((subst IsRising t.was (rising_at n queues k.rising)).1) k.rising);
      past = past-less (λ (b : Arrival). b.stamp < next) (arrivals new_queues) (arrivals queues) a m k.past;
      single = single-less (arrivals new_queues) (arrivals queues) a m k.single;
      known = subst (All (λ (i : ℕ). i < length new_queues)) (sym t.waits)
          (subst (λ l. All (λ (i : ℕ). i < l) (cond (eqb (length t.later) 0) (swap_remove waiting place n) waiting)) long
          (known-taken (eqb (length t.later) 0) waiting place (length queues) k.known within));
      complete = λ i none. ap (queue_of i) t.now ∙ complete-taken queues waiting place a t.later within known t.was k.complete i (sym (ap (list_any (λ m. eqb m i)) t.waits) ∙ none);
      came = subst (λ l. IfSome newest (λ i. i.sender < l)) long k.came;
      counted = omega (arith, k.counted, count-less (arrivals new_queues) (arrivals queues) a next m (All-head (λ (b : Arrival). b.stamp < next) a m.back (All-parts (λ (b : Arrival). b.stamp < next) m.front (a ∷ m.back) (subst (All (λ (b : Arrival). b.stamp < next)) m.more_is k.past)).1) k.single);
      small = k.small;
    }
