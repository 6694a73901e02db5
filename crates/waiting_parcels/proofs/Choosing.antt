-- The first task that may go is the first of a queue. Also laws of that task, for crates that stand on this one.
use Rattle.std.proofs.Common.{◌≡◌, ◌≢◌, ℕ, suc, zero, ◌+◌, ◌<◌, ◌≤◌, List, [], ◌∷◌, ◌++◌, length, take, set, All, Bool, true, false, not, ◌&&◌, ◌||◌, eqb, ltb, cond, refl, sym, ap, ◌∙◌, append-nil, append_assoc, arith, length-append, ◌⊎◌, inl, inr, ⊎_elim, subst}
use Rattle.std.specs.Prelude.{Option, Some, None, slice_index}
use Rattle.std.specs.List.{list_any}
use Rattle.std.proofs.lemmas.Bool.{cases_eq, cases_order, cases_Bool, cases_lt, eq-eqb, ne_eqb, lt-ltb, le-ltb, true≢false, cond-true, cond-false}
use Rattle.std.proofs.lemmas.List.Elements.{All-cons, All-head, All-tail, All-weaker, All-more}
use Rattle.std.proofs.lemmas.List.Folds.{list_any_none}
use Rattle.task_queue.specs.declared.item.Item.{Item}
use Rattle.port_lanes.specs.Parcels.{ParcelView}
use Rattle.port_lanes.specs.port_history.Laws.{waits_where_busy}
use Rattle.waiting_parcels.specs.declared.arrival.Arrival.{Arrival}
use Rattle.waiting_parcels.specs.Waiting.{has_sender, may_go, GoesFirst, NoneGoes}
use Rattle.waiting_parcels.specs.declared.arrival.Head.{Head}
use Rattle.waiting_parcels.specs.Queues.{queue_of, arrivals, arrived_at, in_order, goes_at, NotBefore, IsRising, IsOwned, earlier_of, IsChoice}
use Rattle.waiting_parcels.proofs.Gathered.{IsWithout, gathered-without}
use Rattle.waiting_parcels.proofs.Arrivals.{arrived_at_without, arrived_alone, HasMore, arrivals-without_first, owned, has_sender-at, has_sender-in_order}

-- Lists of tasks, whatever their queues

-- a task that waits behind its sender's, or an unforced command of a busy port, may not go
pub stays_behind : (busy : Bool) (earlier : List (Item ParcelView)) (y : Item ParcelView) → has_sender y.sender earlier ≡ true → may_go busy earlier y ≡ false
stays_behind busy earlier y has = ap (λ b. not b && not (busy && waits_where_busy y.value.task)) has

pub stays_busy : (busy : Bool) (earlier : List (Item ParcelView)) (y : Item ParcelView) → (busy && waits_where_busy y.value.task) ≡ true → may_go busy earlier y ≡ false
stays_busy busy earlier y blocked = ap (λ b. not (has_sender y.sender earlier) && not b) blocked ∙ none (has_sender y.sender earlier) where
  none : (b : Bool) → (not b && false) ≡ false
  none true = refl
  none false = refl

pub goes_ahead : (busy : Bool) (earlier : List (Item ParcelView)) (y : Item ParcelView) → has_sender y.sender earlier ≡ false → (busy && waits_where_busy y.value.task) ≡ false
    → may_go busy earlier y ≡ true
goes_ahead busy earlier y none free =
    ap (λ b. not b && not (busy && waits_where_busy y.value.task)) none ∙ ap not free

cons_head : {X : Type 0} (x y : X) (xs ys : List X) → x ∷ xs ≡ y ∷ ys → x ≡ y
cons_head {X} x y xs ys e = ap head e where
  head : List X → X
  head [] = x
  head (z ∷ zs) = z

cons_tail : {X : Type 0} (x y : X) (xs ys : List X) → x ∷ xs ≡ y ∷ ys → xs ≡ ys
cons_tail {X} x y xs ys e = ap tail e where
  tail : List X → List X
  tail [] = []
  tail (z ∷ zs) = zs

-- a list with one element more, cut in two, is cut at that element or before it
at_end : (xs : List (Item ParcelView)) (z : Item ParcelView) (earlier : List (Item ParcelView)) (y : Item ParcelView) (later : List (Item ParcelView)) → xs ++ z ∷ [] ≡ earlier ++ y ∷ later
    → ((xs ≡ earlier) × (z ≡ y)) ⊎ ((front : List (Item ParcelView)) × (xs ≡ earlier ++ y ∷ front))
at_end [] z [] y later e = inl (refl, cons_head z y [] later e)
at_end [] z (w ∷ earlier) y later e = absurd (omega (arith, ap length (cons_tail z w [] (earlier ++ y ∷ later) e), length-append earlier (y ∷ later)))
at_end (x ∷ xs) z [] y later e = inr (xs, ap (λ w. w ∷ xs) (cons_head x y (xs ++ z ∷ []) later e))
at_end (x ∷ xs) z (w ∷ earlier) y later e =
    let same : x ≡ w = cons_head x w (xs ++ z ∷ []) (earlier ++ y ∷ later) e in
    elim (at_end xs z earlier y later (cons_tail x w (xs ++ z ∷ []) (earlier ++ y ∷ later) e)) [
      | inl (all, is) ↦ inl (ap (λ v. v ∷ xs) same ∙ ap (λ vs. w ∷ vs) all, is)
      | inr (front, is) ↦ inr (front, ap (λ v. v ∷ xs) same ∙ ap (λ vs. w ∷ vs) is)
    ]

pub NoneGoes-nil : (busy : Bool) → NoneGoes busy []
NoneGoes-nil busy earlier y later e = absurd (omega (arith, ap length e, length-append earlier (y ∷ later)))

-- none goes where one more comes that may not go
pub NoneGoes-push : (busy : Bool) (xs : List (Item ParcelView)) (z : Item ParcelView) → NoneGoes busy xs → may_go busy xs z ≡ false → NoneGoes busy (xs ++ z ∷ [])
NoneGoes-push busy xs z none stays earlier y later e =
    elim (at_end xs z earlier y later e) [
      | inl (all, is) ↦ ap (λ is. may_go busy is y) (sym all) ∙ (ap (may_go busy xs) (sym is) ∙ stays)
      | inr (front, is) ↦ none earlier y front is
    ]

-- the first stays first where more come
pub GoesFirst-more : (busy : Bool) (items : List (Item ParcelView)) (x : Item ParcelView) (rest more : List (Item ParcelView)) → GoesFirst busy items x rest → GoesFirst busy (items ++ more) x (rest ++ more)
GoesFirst-more busy items x rest more g = record {
  before = g.before;
  after = g.after ++ more;
  split = ap (λ is. is ++ more) g.split ∙ append_assoc g.before (x ∷ g.after) more;
  left = ap (λ is. is ++ more) g.left ∙ append_assoc g.before g.after more;
  goes = g.goes;
  first = g.first;
}

-- the last goes where none before it does
pub GoesFirst-last : (busy : Bool) (items : List (Item ParcelView)) (x : Item ParcelView) → NoneGoes busy items → may_go busy items x ≡ true → GoesFirst busy (items ++ x ∷ []) x items
GoesFirst-last busy items x none goes = record {
  before = items;
  after = [];
  split = refl;
  left = sym (append-nil items);
  goes = goes;
  first = none;
}

-- where the port isn't busy, the first of the list goes
pub GoesFirst-free : (items : List (Item ParcelView)) (x : Item ParcelView) (rest : List (Item ParcelView)) → GoesFirst false items x rest → items ≡ x ∷ rest
GoesFirst-free items x rest g = by_before g.before refl where
  by_before : (before : List (Item ParcelView)) → g.before ≡ before → items ≡ x ∷ rest
  by_before [] e = g.split ∙ (ap (λ is. is ++ x ∷ g.after) e ∙ ap (λ is. x ∷ is) (sym (g.left ∙ ap (λ is. is ++ g.after) e)))
  by_before (y ∷ later) e = absurd (true≢false (g.first [] y later e))

pub NoneGoes-free : (items : List (Item ParcelView)) → NoneGoes false items → items ≡ []
NoneGoes-free [] none = refl
NoneGoes-free (y ∷ later) none = absurd (true≢false (none [] y later refl))

not_before_below : (from to : ℕ) (o : Option ℕ) → to ≤ from → NotBefore from o → NotBefore to o
not_before_below from to None le h = tt
not_before_below from to (Some s) le h = omega arith

pub GoesFirst-head : (busy : Bool) (items : List (Item ParcelView)) (x : Item ParcelView) (rest : List (Item ParcelView)) → GoesFirst busy items x rest → busy ≡ false → items ≡ x ∷ rest
GoesFirst-head true items x rest g free = absurd (true≢false free)
GoesFirst-head false items x rest g free = GoesFirst-free items x rest g

pub NoneGoes-head : (busy : Bool) (items : List (Item ParcelView)) → NoneGoes busy items → busy ≡ false → 0 < length items → ⊥
NoneGoes-head true items none free some = true≢false free
NoneGoes-head false items none free some = omega (arith, ap length (NoneGoes-free items none))

-- The queues

-- no task has a lower stamp than a rising queue's first
rising-none : (h : Arrival) (later : List Arrival) (k : ℕ) → IsRising (h ∷ later) → k ≤ h.stamp → list_any (λ a. ltb a.stamp k) (h ∷ later) ≡ false
rising-none h later k rising from =
    list_any_none (λ (a : Arrival). ltb a.stamp k) (h ∷ later)
    (All-cons (λ (a : Arrival). ltb a.stamp k ≡ false) h later (le-ltb h.stamp k from)
    (All-weaker (λ (a : Arrival). h.stamp < a.stamp) (λ (a : Arrival). ltb a.stamp k ≡ false) (λ a above. le-ltb a.stamp k (omega arith)) later rising.0))

-- nor has one that stamp, where the first has a higher one
rising-not_at : (h : Arrival) (later : List Arrival) (k : ℕ) → IsRising (h ∷ later) → k < h.stamp → list_any (λ a. eqb a.stamp k) (h ∷ later) ≡ false
rising-not_at h later k rising from =
    list_any_none (λ (a : Arrival). eqb a.stamp k) (h ∷ later)
    (All-cons (λ (a : Arrival). eqb a.stamp k ≡ false) h later (ne_eqb h.stamp k (λ e. absurd (omega arith)))
    (All-weaker (λ (a : Arrival). h.stamp < a.stamp) (λ (a : Arrival). eqb a.stamp k ≡ false) (λ a above. ne_eqb a.stamp k (λ e. absurd (omega arith))) later rising.0))

-- a queue that isn't empty is a sender's
pub queue_within : (n : ℕ) (queues : List (List Arrival)) (h : Arrival) (later : List Arrival) → queue_of n queues ≡ h ∷ later → n < length queues
queue_within n [] h later e = absurd cc
queue_within zero (queue ∷ queues) h later e = omega arith
queue_within (suc n) (queue ∷ queues) h later e = let within : n < length queues = queue_within n queues h later e in omega arith

pub rising_at : (n : ℕ) (queues : List (List Arrival)) → All IsRising queues → IsRising (queue_of n queues)
rising_at n [] rising = tt
rising_at zero (queue ∷ queues) rising = All-head IsRising queue queues rising
rising_at (suc n) (queue ∷ queues) rising = rising_at n queues (All-tail IsRising queue queues rising)

-- a queue's first task is the one with its stamp
alone_at : (n : ℕ) (queues : List (List Arrival)) (h : Arrival) (later : List Arrival) → ((k : ℕ) → length (arrived_at (arrivals queues) k) ≤ 1)
    → queue_of n queues ≡ h ∷ later → arrived_at (arrivals queues) h.stamp ≡ h.item ∷ []
alone_at n queues h later single is =
    let m : HasMore (arrivals (set queues n later)) (arrivals queues) h = arrivals-without_first queues n h later (queue_within n queues h later is) is in
    ap (λ all. arrived_at all h.stamp) m.more_is
    ∙ (arrived_alone m.front m.back h (subst (λ all. length (arrived_at all h.stamp) ≤ 1) m.more_is (single h.stamp))).0

-- what goes and doesn't go before a later stamp isn't there
goes_not_at : (busy blocked : Bool) (s k : ℕ) → s ≡ k → NotBefore (suc k) (cond blocked None (Some s)) → blocked ≡ true
goes_not_at busy true s k e not_before = refl
goes_not_at busy false s k e not_before = absurd (omega arith)

-- where no queue's first task goes before a stamp, no task with a lower stamp goes
module _ (busy : Bool) (queues : List (List Arrival)) (own : IsOwned 0 queues) (rising : All IsRising queues)
    (single : (k : ℕ) → length (arrived_at (arrivals queues) k) ≤ 1) where
  stays : (k : ℕ) (y : Item ParcelView) → arrived_at (arrivals queues) k ≡ y ∷ [] → NotBefore (suc k) (goes_at busy (queue_of y.sender queues))
      → may_go busy (in_order k (arrivals queues)) y ≡ false
  stays k y is not_before = by_queue (queue_of y.sender queues) refl where
    before : List (Item ParcelView)
    before = in_order k (arrivals queues)

    there : list_any (λ a. eqb a.stamp k) (queue_of y.sender queues) ≡ true
    there = sym (has_sender-at y.sender k queues own) ∙ (ap (has_sender y.sender) is ∙ ap (λ b. b || false) (eq-eqb y.sender y.sender refl))

    by_queue : (queue : List Arrival) → queue_of y.sender queues ≡ queue → may_go busy (in_order k (arrivals queues)) y ≡ false
    by_queue [] e = absurd (true≢false (sym there ∙ ap (list_any (λ (a : Arrival). eqb a.stamp k)) e))
    by_queue (h ∷ later) e =
        let up : IsRising (h ∷ later) = subst IsRising e (rising_at y.sender queues rising) in
        ⊎_elim
        (λ (same : h.stamp ≡ k).
        let first : h.item ≡ y = cons_head h.item y [] [] (sym (alone_at y.sender queues h later single e) ∙ (ap (arrived_at (arrivals queues)) same ∙ is)) in
        let blocked = goes_not_at busy (busy && waits_where_busy h.item.value.task) h.stamp k same (subst (λ q. NotBefore (suc k) (goes_at busy q)) e not_before) in
        stays_busy busy (in_order k (arrivals queues)) y (ap (λ (i : Item ParcelView). busy && waits_where_busy i.value.task) (sym first) ∙ blocked))
        (λ o. ⊎_elim
        (λ (below : h.stamp < k).
        stays_behind busy (in_order k (arrivals queues)) y
        (has_sender-in_order y.sender k queues own ∙ (ap (list_any (λ (a : Arrival). ltb a.stamp k)) e ∙ ap (λ b. b || list_any (λ (a : Arrival). ltb a.stamp k) later) (lt-ltb h.stamp k below))))
        (λ (above : k < h.stamp).
        absurd (true≢false (sym there ∙ (ap (list_any (λ (a : Arrival). eqb a.stamp k)) e ∙ rising-not_at h later k up above))))
        o)
        (cases_order h.stamp k)

  NoneGoes-in_order-more : (k : ℕ) (ys : List (Item ParcelView)) → arrived_at (arrivals queues) k ≡ ys → ((n : ℕ) → NotBefore (suc k) (goes_at busy (queue_of n queues)))
      → NoneGoes busy (in_order k (arrivals queues)) → NoneGoes busy (in_order k (arrivals queues) ++ arrived_at (arrivals queues) k)
  NoneGoes-in_order-more k [] e not_before earlier =
      subst (NoneGoes busy) (sym (ap (λ is. in_order k (arrivals queues) ++ is) e ∙ append-nil (in_order k (arrivals queues)))) earlier
  NoneGoes-in_order-more k (y ∷ []) e not_before earlier =
      subst (λ is. NoneGoes busy (in_order k (arrivals queues) ++ is)) (sym e)
      (NoneGoes-push busy (in_order k (arrivals queues)) y earlier (stays k y e (not_before y.sender)))
  NoneGoes-in_order-more k (y ∷ (z ∷ zs)) e not_before earlier = absurd (omega (arith, ap length e, single k))

  pub NoneGoes-in_order : (k : ℕ) → ((n : ℕ) → NotBefore k (goes_at busy (queue_of n queues))) → NoneGoes busy (in_order k (arrivals queues))
  NoneGoes-in_order zero not_before = NoneGoes-nil busy
  NoneGoes-in_order (suc k) not_before =
      NoneGoes-in_order-more k (arrived_at (arrivals queues) k) refl not_before
      (NoneGoes-in_order k (λ n. not_before_below (suc k) k (goes_at busy (queue_of n queues)) (omega arith) (not_before n)))

  -- the first that goes, goes first
  pub GoesFirst-in_order : (next n : ℕ) (a : Arrival) (later : List Arrival) → queue_of n queues ≡ a ∷ later → a.stamp < next
      → (busy && waits_where_busy a.item.value.task) ≡ false → ((m : ℕ) → NotBefore a.stamp (goes_at busy (queue_of m queues)))
      → GoesFirst busy (in_order next (arrivals queues)) a.item (in_order next (arrivals (set queues n later)))
  GoesFirst-in_order next n a later is below free not_before =
      let m : HasMore (arrivals (set queues n later)) (arrivals queues) a = arrivals-without_first queues n a later (queue_within n queues a later is) is in
      let short : length (arrived_at (m.front ++ a ∷ m.back) a.stamp) ≤ 1 = subst (λ all. length (arrived_at all a.stamp) ≤ 1) m.more_is (single a.stamp) in
      let only = arrived_alone m.front m.back a short in
      let sender : a.item.sender ≡ n =
      All-head (λ (b : Arrival). b.item.sender ≡ n) a later (subst (All (λ (b : Arrival). b.item.sender ≡ n)) is (owned 0 n n queues own (omega arith))) in
      let w : IsWithout (arrived_at (arrivals queues)) (arrived_at (arrivals (set queues n later))) a.stamp next a.item =
      gathered-without (arrived_at (arrivals queues)) (arrived_at (arrivals (set queues n later))) a.stamp next a.item
      (λ j other. ap (λ all. arrived_at all j) m.less_is ∙ (arrived_at_without m.front m.back a j (λ e. other (sym e)) ∙ ap (λ all. arrived_at all j) (sym m.more_is)))
      (ap (λ all. arrived_at all a.stamp) m.more_is ∙ only.0) (ap (λ all. arrived_at all a.stamp) m.less_is ∙ only.1) below in
      record {
        before = in_order a.stamp (arrivals queues);
        after = w.after;
        split = w.all;
        left = w.rest;
        goes = goes_ahead busy (in_order a.stamp (arrivals queues)) a.item
            (ap (λ k. has_sender k (in_order a.stamp (arrivals queues))) sender
            ∙ (has_sender-in_order n a.stamp queues own ∙ (ap (list_any (λ (b : Arrival). ltb b.stamp a.stamp)) is
            ∙ rising-none a later a.stamp (subst IsRising is (rising_at n queues rising)) (omega arith)))) free;
        first = NoneGoes-in_order a.stamp not_before;
      }

-- The choice among the senders that wait

-- one sender more is seen
pub choice-more : (busy : Bool) (queues : List (List Arrival)) (waiting : List ℕ) (place sender : ℕ) (first : Option Head) (stamp : Option ℕ) → place < length waiting
    → sender ≡ slice_index waiting place → stamp ≡ goes_at busy (queue_of sender queues) → IsChoice busy queues waiting (take place waiting) first
    → IsChoice busy queues waiting (take (place + 1) waiting) (earlier_of first place stamp)
choice-more busy queues waiting place sender None None within at is choice =
    All-more (λ (n : ℕ). goes_at busy (queue_of n queues) ≡ None) waiting place 0 within choice (ap (λ n. goes_at busy (queue_of n queues)) (sym at) ∙ sym is)
choice-more busy queues waiting place sender None (Some stamp) within at is choice = record {
  within = within;
  goes = ap (λ n. goes_at busy (queue_of n queues)) (sym at) ∙ sym is;
  least = All-more (λ (n : ℕ). NotBefore stamp (goes_at busy (queue_of n queues))) waiting place 0 within
      (All-weaker (λ (n : ℕ). goes_at busy (queue_of n queues) ≡ None) (λ (n : ℕ). NotBefore stamp (goes_at busy (queue_of n queues))) (λ n e. subst (NotBefore stamp) (sym e) tt) (take place waiting) choice)
      (subst (NotBefore stamp) (is ∙ ap (λ n. goes_at busy (queue_of n queues)) at) (omega arith));
}
choice-more busy queues waiting place sender (Some head) None within at is choice = record {
  within = choice.within;
  goes = choice.goes;
  least = All-more (λ (n : ℕ). NotBefore head.stamp (goes_at busy (queue_of n queues))) waiting place 0 within choice.least
      (subst (NotBefore head.stamp) (is ∙ ap (λ n. goes_at busy (queue_of n queues)) at) tt);
}
choice-more busy queues waiting place sender (Some head) (Some stamp) within at is choice =
    ⊎_elim
    (λ (below : stamp < head.stamp).
    let earlier : IsChoice busy queues waiting (take (place + 1) waiting) (Some (record { place = place; stamp = stamp })) = record {
      within = within;
      goes = ap (λ n. goes_at busy (queue_of n queues)) (sym at) ∙ sym is;
      least = All-more (λ (n : ℕ). NotBefore stamp (goes_at busy (queue_of n queues))) waiting place 0 within
          (All-weaker (λ (n : ℕ). NotBefore head.stamp (goes_at busy (queue_of n queues))) (λ (n : ℕ). NotBefore stamp (goes_at busy (queue_of n queues)))
          (λ n h. not_before_below head.stamp stamp (goes_at busy (queue_of n queues)) (omega arith) h) (take place waiting) choice.least)
          (subst (NotBefore stamp) (is ∙ ap (λ n. goes_at busy (queue_of n queues)) at) (omega arith));
    } in
    subst (IsChoice busy queues waiting (take (place + 1) waiting)) (sym (cond-true (ltb stamp head.stamp) (Some (record { place = place; stamp = stamp })) (Some head) (lt-ltb stamp head.stamp below))) earlier)
    (λ (from : head.stamp ≤ stamp).
    let same : IsChoice busy queues waiting (take (place + 1) waiting) (Some head) = record {
      within = choice.within;
      goes = choice.goes;
      least = All-more (λ (n : ℕ). NotBefore head.stamp (goes_at busy (queue_of n queues))) waiting place 0 within choice.least
          (subst (NotBefore head.stamp) (is ∙ ap (λ n. goes_at busy (queue_of n queues)) at) from);
    } in
    subst (IsChoice busy queues waiting (take (place + 1) waiting)) (sym (cond-false (ltb stamp head.stamp) (Some (record { place = place; stamp = stamp })) (Some head) (le-ltb stamp head.stamp from))) same)
    (cases_lt stamp head.stamp)

-- what holds of each sender that waits holds of all, where the others' queues are empty
of_all : (P : ℕ → Type 0) (waiting : List ℕ) → All P waiting → (n : ℕ) → list_any (λ m. eqb m n) waiting ≡ true → P n
of_all P [] all n some = absurd (true≢false (sym some))
of_all P (m ∷ waiting) all n some =
    ⊎_elim
    (λ (same : m ≡ n). subst P same (All-head P m waiting all))
    (λ (other : m ≢ n). of_all P waiting (All-tail P m waiting all) n (sym (ap (λ b. b || list_any (λ m. eqb m n) waiting) (ne_eqb m n other)) ∙ some))
    (cases_eq m n)

pub not_before-all : (busy : Bool) (queues : List (List Arrival)) (waiting : List ℕ) (stamp : ℕ) → ((n : ℕ) → list_any (λ m. eqb m n) waiting ≡ false → queue_of n queues ≡ [])
    → All (λ n. NotBefore stamp (goes_at busy (queue_of n queues))) waiting → (n : ℕ) → NotBefore stamp (goes_at busy (queue_of n queues))
not_before-all busy queues waiting stamp complete least n =
    elim (cases_Bool (list_any (λ m. eqb m n) waiting)) [
      | inl some ↦ of_all (λ (n : ℕ). NotBefore stamp (goes_at busy (queue_of n queues))) waiting least n some
      | inr none ↦ subst (λ q. NotBefore stamp (goes_at busy q)) (sym (complete n none)) tt
    ]

-- where none goes, none goes before any stamp
pub none-not_before : (busy : Bool) (queues : List (List Arrival)) (waiting : List ℕ) (stamp : ℕ) → All (λ n. goes_at busy (queue_of n queues) ≡ None) waiting
    → All (λ n. NotBefore stamp (goes_at busy (queue_of n queues))) waiting
none-not_before busy queues waiting stamp none =
    All-weaker (λ (n : ℕ). goes_at busy (queue_of n queues) ≡ None) (λ (n : ℕ). NotBefore stamp (goes_at busy (queue_of n queues))) (λ n e. subst (NotBefore stamp) (sym e) tt) waiting none

-- a first task that goes is there, and is no unforced command of a busy port
pub record IsGoing (busy : Bool) (queue : List Arrival) (stamp : ℕ) : Type 0 where
  pub a : Arrival
  pub later : List Arrival
  pub is : queue ≡ a ∷ later
  pub stamp_is : a.stamp ≡ stamp
  pub free : (busy && waits_where_busy a.item.value.task) ≡ false

pub going : (busy : Bool) (queue : List Arrival) (stamp : ℕ) → goes_at busy queue ≡ Some stamp → IsGoing busy queue stamp
going busy [] stamp e = absurd cc
going busy (a ∷ later) stamp e =
    elim (cases_Bool (busy && waits_where_busy a.item.value.task)) [
      | inl blocked ↦ let both : None ≡ Some stamp = sym (cond-true (busy && waits_where_busy a.item.value.task) None (Some a.stamp) blocked) ∙ e in absurd cc
      | inr free ↦
          let both : Some a.stamp ≡ Some stamp = sym (cond-false (busy && waits_where_busy a.item.value.task) None (Some a.stamp) free) ∙ e in
          record { a = a; later = later; is = refl; stamp_is = some_is a.stamp stamp both; free = free }
    ] where
      some_is : (x y : ℕ) → Some x ≡ Some y → x ≡ y
      some_is x y e = ap from e where
        from : Option ℕ → ℕ
        from None = x
        from (Some z) = z
