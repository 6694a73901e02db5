-- The order of a poller's entries.
use Rattle.std.proofs.Common.{◌≡◌, ℕ, ◌<◌, ◌≤◌, ◌==◌, eqb, cond, map, Bool, true, false, ◌||◌, ◌&&◌, not, List, [], ◌∷◌, refl, sym, ap, ◌∙◌, arith, inl, inr, unwrap_or}
use Rattle.std.specs.List.{list_any, AllByRecursion, dedup, dedup_from}
use Rattle.std.specs.List.Sorted.{IsStrictlySortedBy, IsStrictlyIncreasing}
use Rattle.std.specs.Cmp.{IsTotalOrder, bool_cmp_total}
use Rattle.std.specs.Ordering.{is_eq, nat_cmp, bool_cmp, ordering_then}
use Rattle.std.specs.declared.cmp.Ordering.{Ordering}
use Rattle.std.specs.declared.cmp.Ordering.TheVariants.{Less, Equal, Greater}
use Rattle.std.proofs.lemmas.Cmp.{nat_cmp_total, then_total, on_total}
use Rattle.std.proofs.lemmas.Bool.{cases_order, eq-eqb, eqb-true, ne_eqb, lt-ltb, le-ltb}
use Rattle.std.proofs.lemmas.Map.Keys.{IsStrictlyIncreasing-from_sorted}
use Rattle.ready_select.specs.Latest.{when}
use Rattle.ready_select.specs.Sets.{has}
use Rattle.ready_select.specs.declared.armed.Armed.{Armed}
use Rattle.ready_select.specs.Order.{armed_cmp}
use Rattle.ready_select.specs.Polling.{same_armed, same_bool}

pub armed_total : IsTotalOrder armed_cmp
armed_total = then_total (on_total (λ a. a.event) nat_cmp_total) (then_total (on_total (λ a. a.port) nat_cmp_total) (on_total (λ a. a.is_write) bool_cmp_total))

numbers : (m n : ℕ) → (m == n) ≡ is_eq (nat_cmp m n)
numbers m n = elim (cases_order m n) [
  | inl e ↦ rw (le-ltb m n (omega arith), eq-eqb m n e) refl
  | inr (inl l) ↦ rw (lt-ltb m n l) (ne_eqb m n (λ e. omega arith))
  | inr (inr l) ↦ rw (le-ltb m n (omega arith), ne_eqb m n (λ e. omega arith)) refl
]

booleans : (a b : Bool) → same_bool a b ≡ is_eq (bool_cmp a b)
booleans true true = refl
booleans true false = refl
booleans false true = refl
booleans false false = refl

in_turn : (p q : Ordering) → is_eq (ordering_then p q) ≡ (is_eq p && is_eq q)
in_turn Less q = refl
in_turn Equal q = refl
in_turn Greater q = refl

and_both : {a b c d : Bool} → a ≡ c → b ≡ d → (a && b) ≡ (c && d)
and_both p q = cc

-- entries that compare as equal are the same
pub armed_ties : (a b : Armed) → same_armed a b ≡ is_eq (armed_cmp a b)
armed_ties a b =
    and_both (numbers a.event b.event) (and_both (numbers a.port b.port) (booleans a.is_write b.is_write) ∙ sym (in_turn (nat_cmp a.port b.port) (bool_cmp a.is_write b.is_write)))
    ∙ sym (in_turn (nat_cmp a.event b.event) (ordering_then (nat_cmp a.port b.port) (bool_cmp a.is_write b.is_write)))

-- both directions of a port and an event
pub both_gone : (same_event same_port is_write was : Bool)
    → ((was && not (same_event && (same_port && not is_write))) && not (same_event && (same_port && is_write))) ≡ unwrap_or (when (same_event && same_port) false) was
both_gone true true true true = refl
both_gone true true true false = refl
both_gone true true false true = refl
both_gone true true false false = refl
both_gone true false w true = refl
both_gone true false w false = refl
both_gone false p w true = refl
both_gone false p w false = refl

pub one_more : (c was : Bool) → (c || was) ≡ unwrap_or (when c true) was
one_more true was = refl
one_more false was = refl

-- an entry that comes first has no higher event
event_le : (a b : Armed) → armed_cmp a b ≡ Less → a.event ≤ b.event
event_le a b less = elim (cases_order a.event b.event) [
  | inl e ↦ omega arith
  | inr (inl l) ↦ omega arith
  | inr (inr l) ↦ let greater : nat_cmp a.event b.event ≡ Greater = rw (le-ltb a.event b.event (omega arith), ne_eqb a.event b.event (λ e. omega arith)) refl in clash (nat_cmp a.event b.event) (ordering_then (nat_cmp a.port b.port) (bool_cmp a.is_write b.is_write)) greater less
] where
  clash : (o p : Ordering) → o ≡ Greater → ordering_then o p ≡ Less → a.event ≤ b.event
  clash Less p g l = absurd (cc)
  clash Equal p g l = absurd (cc)
  clash Greater p g l = absurd (cc)

above_all : (k j : ℕ) (t : List Armed) → k < j → AllByRecursion (λ a. j ≤ a.event) t → AllByRecursion (λ y. nat_cmp k y ≡ Less) (dedup_from eqb j (map (λ a. a.event) t))
above_all k j [] less all = (rw (lt-ltb k j less) refl, tt)
above_all k j (a ∷ t) less all =
    elim (a.event == j) as (λ b. AllByRecursion (λ y. nat_cmp k y ≡ Less) (cond b (dedup_from eqb j (map (λ a. a.event) t)) (j ∷ dedup_from eqb a.event (map (λ a. a.event) t)))) [
      | true ↦ above_all k j t less all.1
      | false ↦ (rw (lt-ltb k j less) refl, above_rest k j a.event t less all.0 all.1)
    ]
  where
    above_rest : (k j i : ℕ) (t : List Armed) → k < j → j ≤ i → AllByRecursion (λ a. j ≤ a.event) t → AllByRecursion (λ y. nat_cmp k y ≡ Less) (dedup_from eqb i (map (λ a. a.event) t))
    above_rest k j i [] less le all = (rw (lt-ltb k i (omega arith)) refl, tt)
    above_rest k j i (a ∷ t) less le all =
        elim (a.event == i) as (λ b. AllByRecursion (λ y. nat_cmp k y ≡ Less) (cond b (dedup_from eqb i (map (λ a. a.event) t)) (i ∷ dedup_from eqb a.event (map (λ a. a.event) t)))) [
          | true ↦ above_rest k j i t less le all.1
          | false ↦ (rw (lt-ltb k i (omega arith)) refl, above_rest k j a.event t less all.0 all.1)
        ]

no_lower : (a : Armed) (t : List Armed) → AllByRecursion (λ b. armed_cmp a b ≡ Less) t → AllByRecursion (λ b. a.event ≤ b.event) t
no_lower a [] all = tt
no_lower a (b ∷ t) all = (event_le a b all.0, no_lower a t all.1)

rising_from : (k : ℕ) (t : List Armed) → AllByRecursion (λ a. k ≤ a.event) t → IsStrictlySortedBy armed_cmp t → IsStrictlySortedBy nat_cmp (dedup_from eqb k (map (λ a. a.event) t))
unfolding IsStrictlySortedBy
rising_from k [] all sorted = (tt, tt)
rising_from k (a ∷ t) all sorted =
    elim (a.event == k) as (λ b. (a.event == k) ≡ b → IsStrictlySortedBy nat_cmp (cond b (dedup_from eqb k (map (λ a. a.event) t)) (k ∷ dedup_from eqb a.event (map (λ a. a.event) t)))) [
      | true ↦ λ _. rising_from k t all.1 sorted.1
      | false ↦ λ differ. (above_all k a.event t (below k a.event all.0 differ) (no_lower a t sorted.0), rising_from a.event t (no_lower a t sorted.0) sorted.1)
    ] refl
  where
    below : (k j : ℕ) → k ≤ j → (j == k) ≡ false → k < j
    below k j le differ = elim (cases_order k j) [
      | inl e ↦ let equal : (j == k) ≡ true = eq-eqb j k (sym e) in absurd (cc)
      | inr (inl l) ↦ l
      | inr (inr l) ↦ omega arith
    ]

-- the events of sorted entries, each once, rise
pub rising_events : (t : List Armed) → IsStrictlySortedBy armed_cmp t → IsStrictlyIncreasing (dedup eqb (map (λ a. a.event) t))
unfolding IsStrictlySortedBy
rising_events [] sorted = λ k within. absurd (omega arith)
rising_events (a ∷ t) sorted = IsStrictlyIncreasing-from_sorted _ (rising_from a.event t (no_lower a t sorted.0) sorted.1)

any-dedup_from : (p : ℕ → Bool) (k : ℕ) (xs : List ℕ) → list_any p (dedup_from eqb k xs) ≡ (p k || list_any p xs)
any-dedup_from p k [] = refl
any-dedup_from p k (x ∷ xs) =
    elim (x == k) as (λ b. (x == k) ≡ b → list_any p (cond b (dedup_from eqb k xs) (k ∷ dedup_from eqb x xs)) ≡ (p k || (p x || list_any p xs))) [
      | true ↦ λ equal. any-dedup_from p k xs ∙ twice (p k) (list_any p xs) ∙ ap (λ y. p k || (p y || list_any p xs)) (sym (eqb-true x k equal))
      | false ↦ λ _. ap (λ rest. p k || rest) (any-dedup_from p x xs)
    ] refl
  where
    twice : (a b : Bool) → (a || b) ≡ (a || (a || b))
    twice true b = refl
    twice false b = refl

any-map_event : (p : ℕ → Bool) (t : List Armed) → list_any p (map (λ a. a.event) t) ≡ list_any (λ a. p a.event) t
any-map_event p [] = refl
any-map_event p (a ∷ t) = ap (λ rest. p a.event || rest) (any-map_event p t)

-- and are those that an entry has
pub has-events : (e : ℕ) (t : List Armed) → has e (dedup eqb (map (λ a. a.event) t)) ≡ list_any (λ a. a.event == e) t
has-events e [] = refl
has-events e (a ∷ t) = any-dedup_from (λ y. y == e) a.event (map (λ a. a.event) t) ∙ ap (λ rest. (a.event == e) || rest) (any-map_event (λ y. y == e) t)
