-- Events that stand by rising number: how one of them is found and changed, and what lists of their numbers are.
use Rattle.std.proofs.Common.{◌≡◌, ℕ, ◌+◌, ◌<◌, ◌==◌, cond, map, Bool, true, false, ◌||◌, ◌&&◌, not, List, [], ◌∷◌, length, refl, sym, ap, ◌∙◌, subst, arith, inl, inr, eqb-true, eq-eqb, ne_eqb}
use Rattle.std.specs.Prelude.{nat_lt, filter, count_by}
use Rattle.std.specs.List.{AllByRecursion, list_all}
use Rattle.std.specs.List.Sorted.{IsStrictlySortedBy, IsStrictlyIncreasing}
use Rattle.std.specs.Ordering.{nat_cmp}
use Rattle.std.specs.declared.cmp.Ordering.TheVariants.{Less}
use Rattle.std.proofs.lemmas.Bool.{cases_order, lt-ltb, ltb-true}
use Rattle.std.proofs.lemmas.Cmp.{ranked}
use Rattle.std.proofs.lemmas.List.Sums.{sum_by-cons}
use Rattle.std.proofs.lemmas.Map.Keys.{IsStrictlyIncreasing-from_sorted, sorted_from_strictly_increasing}
use Rattle.ready_select.specs.Sets.{has}
use Rattle.port_history.specs.Events.{Event, unused, change, event_of, numbers}
use Rattle.port_history.specs.Laws.{is_given_back}
use Rattle.port_events.specs.Table.{is_empty}
use Rattle.port_events.specs.Asks.{is_used}

-- each number is below those after it
abbrev pub Up : List ℕ → Type 0
Up [] = Unit {0}
Up (x ∷ xs) = AllByRecursion (λ y. x < y) xs × Up xs

abbrev pub Rising : List Event → Type 0
Rising events = Up (numbers events)

less_all : (x : ℕ) (xs : List ℕ) → AllByRecursion (λ y. nat_cmp x y ≡ Less) xs → AllByRecursion (λ y. x < y) xs
less_all x [] all = tt
less_all x (y ∷ ys) all = (ranked x y Less (sym all.0), less_all x ys all.1)

up_sorted : (xs : List ℕ) → IsStrictlySortedBy nat_cmp xs → Up xs
unfolding IsStrictlySortedBy
up_sorted [] sorted = tt
up_sorted (x ∷ xs) sorted = (less_all x xs sorted.0, up_sorted xs sorted.1)

pub up-from : (xs : List ℕ) → IsStrictlyIncreasing xs → Up xs
up-from xs rising = up_sorted xs (sorted_from_strictly_increasing xs rising)

all_less : (x : ℕ) (xs : List ℕ) → AllByRecursion (λ y. x < y) xs → AllByRecursion (λ y. nat_cmp x y ≡ Less) xs
all_less x [] all = tt
all_less x (y ∷ ys) all = (rw (lt-ltb x y all.0) refl, all_less x ys all.1)

sorted_up : (xs : List ℕ) → Up xs → IsStrictlySortedBy nat_cmp xs
unfolding IsStrictlySortedBy
sorted_up [] up = tt
sorted_up (x ∷ xs) up = (all_less x xs up.0, sorted_up xs up.1)

pub up-to : (xs : List ℕ) → Up xs → IsStrictlyIncreasing xs
up-to xs up = IsStrictlyIncreasing-from_sorted xs (sorted_up xs up)

pub lower : (m k : ℕ) (xs : List ℕ) → m < k → AllByRecursion (λ y. k < y) xs → AllByRecursion (λ y. m < y) xs
lower m k [] less all = tt
lower m k (x ∷ xs) less all = let above : k < x = all.0 in (omega arith, lower m k xs less all.1)

pub number-of : (n : ℕ) (events : List Event) → (event_of n events).number ≡ n
number-of n [] = refl
number-of n (e ∷ events) =
    elim (e.number == n) as (λ b. (e.number == n) ≡ b → (cond b e (event_of n events)).number ≡ n) [
      | true ↦ λ here. eqb-true e.number n here
      | false ↦ λ _. number-of n events
    ] refl

-- an event below all of them was never used
pub absent : (n : ℕ) (events : List Event) → AllByRecursion (λ y. n < y) (numbers events) → event_of n events ≡ unused n
absent n [] all = refl
absent n (e ∷ events) all =
    let above : n < e.number = all.0 in rw (ne_eqb e.number n (λ equal. omega arith)) (absent n events all.1)

not_below : (n m : ℕ) → nat_lt n m ≡ false → (m == n) ≡ false → m < n
not_below n m above other = elim (cases_order m n) [
  | inl equal ↦ absurd (let same : (m == n) ≡ true = eq-eqb m n equal in cc)
  | inr (inl less) ↦ less
  | inr (inr more) ↦ absurd (let below : nat_lt n m ≡ true = lt-ltb n m more in cc)
]

module _ (n : ℕ) (how : Event → Event) (keeps : (e : Event) → (how e).number ≡ e.number) where
  pub changed : (o : ℕ) (events : List Event) → Rising events → event_of o (change n how events) ≡ cond (n == o) (how (event_of o events)) (event_of o events)
  changed o [] up =
      ap (λ m. cond (m == o) (how (unused n)) (unused o)) (keeps (unused n))
      ∙ elim (n == o) as (λ b. (n == o) ≡ b → cond b (how (unused n)) (unused o) ≡ cond b (how (unused o)) (unused o)) [
        | true ↦ λ here. ap (λ m. how (unused m)) (eqb-true n o here)
        | false ↦ λ _. refl
      ] refl
  changed o (e ∷ events) up =
      elim (nat_lt n e.number) as (λ b. nat_lt n e.number ≡ b
      → event_of o (cond b (how (unused n) ∷ e ∷ events) (cond (e.number == n) (how e ∷ events) (e ∷ change n how events)))
      ≡ cond (n == o) (how (event_of o (e ∷ events))) (event_of o (e ∷ events))) [
        | true ↦ λ below. before below
        | false ↦ λ miss. at_or_behind miss (changed o events up.1)
      ] refl
    where
      before : nat_lt n e.number ≡ true → event_of o (how (unused n) ∷ e ∷ events) ≡ cond (n == o) (how (event_of o (e ∷ events))) (event_of o (e ∷ events))
      before below =
          let less : n < e.number = ltb-true n e.number below in
          ap (λ m. cond (m == o) (how (unused n)) (event_of o (e ∷ events))) (keeps (unused n))
          ∙ elim (n == o) as (λ b. (n == o) ≡ b → cond b (how (unused n)) (event_of o (e ∷ events)) ≡ cond b (how (event_of o (e ∷ events))) (event_of o (e ∷ events))) [
            | true ↦ λ here.
                let out : event_of n (e ∷ events) ≡ unused n = absent n (e ∷ events) (less, lower n e.number (numbers events) less up.0) in
                subst (λ m. how (unused n) ≡ how (event_of m (e ∷ events))) (eqb-true n o here) (ap how (sym out))
            | false ↦ λ _. refl
          ] refl

      here_is : cond ((how e).number == o) (how e) (event_of o events)
          ≡ cond (e.number == o) (how (cond (e.number == o) e (event_of o events))) (cond (e.number == o) e (event_of o events))
      here_is =
          ap (λ m. cond (m == o) (how e) (event_of o events)) (keeps e)
          ∙ elim (e.number == o) as (λ b. cond b (how e) (event_of o events) ≡ cond b (how (cond b e (event_of o events))) (cond b e (event_of o events))) [
            | true ↦ refl
            | false ↦ refl
          ]

      behind : (e.number == n) ≡ false → event_of o (change n how events) ≡ cond (n == o) (how (event_of o events)) (event_of o events) → cond (e.number == o) e (event_of o (change n how events))
          ≡ cond (n == o) (how (cond (e.number == o) e (event_of o events))) (cond (e.number == o) e (event_of o events))
      behind other rest =
          elim (e.number == o) as (λ b. (e.number == o) ≡ b → cond b e (event_of o (change n how events))
          ≡ cond (n == o) (how (cond b e (event_of o events))) (cond b e (event_of o events))) [
            | true ↦ λ same. rw (differs same) refl
            | false ↦ λ _. rest
          ] refl
        where
          differs : (e.number == o) ≡ true → (n == o) ≡ false
          differs same = elim (n == o) as (λ b. (n == o) ≡ b → b ≡ false) [
            | true ↦ λ too. absurd (let equal : (e.number == n) ≡ true = eq-eqb e.number n (eqb-true e.number o same ∙ sym (eqb-true n o too)) in cc)
            | false ↦ λ _. refl
          ] refl

      at_or_behind : nat_lt n e.number ≡ false → event_of o (change n how events) ≡ cond (n == o) (how (event_of o events)) (event_of o events) → event_of o (cond (e.number == n) (how e ∷ events) (e ∷ change n how events))
          ≡ cond (n == o) (how (event_of o (e ∷ events))) (event_of o (e ∷ events))
      at_or_behind miss rest =
          elim (e.number == n) as (λ b. (e.number == n) ≡ b → event_of o (cond b (how e ∷ events) (e ∷ change n how events))
          ≡ cond (n == o) (how (event_of o (e ∷ events))) (event_of o (e ∷ events))) [
            | true ↦ λ same. subst (λ m. event_of o (how e ∷ events) ≡ cond (m == o) (how (event_of o (e ∷ events))) (event_of o (e ∷ events))) (eqb-true e.number n same) here_is
            | false ↦ λ other. behind other rest
          ] refl

  above-change : (m : ℕ) (events : List Event) → m < n → AllByRecursion (λ y. m < y) (numbers events) → AllByRecursion (λ y. m < y) (numbers (change n how events))
  above-change m [] less all = (subst (λ k. m < k) (sym (keeps (unused n))) less, tt)
  above-change m (e ∷ events) less all =
      elim (nat_lt n e.number) as (λ b. AllByRecursion (λ y. m < y) (numbers (cond b (how (unused n) ∷ e ∷ events) (cond (e.number == n) (how e ∷ events) (e ∷ change n how events))))) [
        | true ↦ (subst (λ k. m < k) (sym (keeps (unused n))) less, all)
        | false ↦ elim (e.number == n) as (λ b. AllByRecursion (λ y. m < y) (numbers (cond b (how e ∷ events) (e ∷ change n how events)))) [
          | true ↦ (subst (λ k. m < k) (sym (keeps e)) all.0, all.1)
          | false ↦ (all.0, above-change m events less all.1)
        ]
      ]

  pub rising-change : (events : List Event) → Rising events → Rising (change n how events)
  rising-change [] up = (tt, tt)
  rising-change (e ∷ events) up =
      elim (nat_lt n e.number) as (λ b. nat_lt n e.number ≡ b → Rising (cond b (how (unused n) ∷ e ∷ events) (cond (e.number == n) (how e ∷ events) (e ∷ change n how events)))) [
        | true ↦ λ below.
            let less : n < e.number = ltb-true n e.number below in
            (subst (λ k. AllByRecursion (λ y. k < y) (numbers (e ∷ events))) (sym (keeps (unused n))) (less, lower n e.number (numbers events) less up.0), up)
        | false ↦ λ miss. elim (e.number == n) as (λ b. (e.number == n) ≡ b → Rising (cond b (how e ∷ events) (e ∷ change n how events))) [
          | true ↦ λ _. (subst (λ k. AllByRecursion (λ y. k < y) (numbers events)) (sym (keeps e)) up.0, up.1)
          | false ↦ λ other. (above-change e.number events (not_below n e.number miss other) up.0, rising-change events up.1)
        ] refl
      ] refl

-- an event that leaves those alone that were never used does to each event what it does to all
pub event-map : (how : Event → Event) → ((e : Event) → (how e).number ≡ e.number) → (o : ℕ) → how (unused o) ≡ unused o
    → (events : List Event) → event_of o (map how events) ≡ how (event_of o events)
event-map how keeps o leaves [] = sym leaves
event-map how keeps o leaves (e ∷ events) =
    ap (λ m. cond (m == o) (how e) (event_of o (map how events))) (keeps e)
    ∙ elim (e.number == o) as (λ b. cond b (how e) (event_of o (map how events)) ≡ how (cond b e (event_of o events))) [
      | true ↦ refl
      | false ↦ event-map how keeps o leaves events
    ]

pub rising-map : (how : Event → Event) → ((e : Event) → (how e).number ≡ e.number) → (events : List Event) → Rising events → Rising (map how events)
rising-map how keeps events up = subst Up (sym (same events)) up where
  same : (es : List Event) → numbers (map how es) ≡ numbers es
  same [] = refl
  same (e ∷ es) = rw (keeps e, same es) refl

-- lists of numbers

pub not_in : (z : ℕ) (xs : List ℕ) → AllByRecursion (λ y. z < y) xs → has z xs ≡ false
not_in z [] all = refl
not_in z (x ∷ xs) all = let less : z < x = all.0 in rw (ne_eqb x z (λ equal. omega arith)) (not_in z xs all.1)

itself : (x : ℕ) → (x == x) ≡ true
itself x = eq-eqb x x refl

-- rising numbers are told by which they are
pub one-list : (xs ys : List ℕ) → Up xs → Up ys → ((z : ℕ) → has z xs ≡ has z ys) → xs ≡ ys
one-list [] [] left right same = refl
one-list [] (y ∷ ys) left right same =
    absurd (let there : has y (y ∷ ys) ≡ true = rw (itself y) refl in let none : false ≡ has y (y ∷ ys) = same y in cc)
one-list (x ∷ xs) [] left right same =
    absurd (let there : has x (x ∷ xs) ≡ true = rw (itself x) refl in let none : has x (x ∷ xs) ≡ false = same x in cc)
one-list (x ∷ xs) (y ∷ ys) left right same = elim (cases_order x y) [
  | inl equal ↦ subst (λ h. x ∷ xs ≡ h ∷ ys) equal (ap (λ t. x ∷ t) (one-list xs ys left.1 right.1 (λ z. rest equal z)))
  | inr (inl less) ↦ absurd (
      let there : has x (x ∷ xs) ≡ true = rw (itself x) refl in
      let out : has x (y ∷ ys) ≡ false = not_in x (y ∷ ys) (less, lower x y ys less right.0) in
      let both : has x (x ∷ xs) ≡ has x (y ∷ ys) = same x in cc)
  | inr (inr more) ↦ absurd (
      let there : has y (y ∷ ys) ≡ true = rw (itself y) refl in
      let out : has y (x ∷ xs) ≡ false = not_in y (x ∷ xs) (more, lower y x xs more left.0) in
      let both : has y (x ∷ xs) ≡ has y (y ∷ ys) = same y in cc)
] where
  rest : x ≡ y → (z : ℕ) → has z xs ≡ has z ys
  rest equal z = elim (x == z) as (λ b. (x == z) ≡ b → has z xs ≡ has z ys) [
    | true ↦ λ here.
        let is : x ≡ z = eqb-true x z here in
        subst (λ w. has w xs ≡ false) is (not_in x xs left.0)
        ∙ sym (subst (λ w. has w ys ≡ false) (sym equal ∙ is) (not_in y ys right.0))
    | false ↦ λ other.
        let whole : ((x == z) || has z xs) ≡ ((y == z) || has z ys) = same z in
        let other' : (y == z) ≡ false = subst (λ w. (w == z) ≡ false) equal other in
        sym (ap (λ b. b || has z xs) other) ∙ whole ∙ ap (λ b. b || has z ys) other'
  ] refl

pub has-filter : (p : ℕ → Bool) (z : ℕ) (xs : List ℕ) → has z (filter p xs) ≡ (has z xs && p z)
has-filter p z [] = refl
has-filter p z (x ∷ xs) = elim (x == z) as (λ b. (x == z) ≡ b → has z (cond (p x) (x ∷ filter p xs) (filter p xs)) ≡ ((b || has z xs) && p z)) [
  | true ↦ λ here. same (eqb-true x z here) (has-filter p x xs)
  | false ↦ λ other. elim (p x) as (λ b. has z (cond b (x ∷ filter p xs) (filter p xs)) ≡ (has z xs && p z)) [
    | true ↦ ap (λ b. b || has z (filter p xs)) other ∙ has-filter p z xs
    | false ↦ has-filter p z xs
  ]
] refl where
  out : (b : Bool) → (b && false) ≡ false
  out true = refl
  out false = refl

  same : x ≡ z → has x (filter p xs) ≡ (has x xs && p x) → has z (cond (p x) (x ∷ filter p xs) (filter p xs)) ≡ p z
  same is rest = subst (λ w. has w (cond (p x) (x ∷ filter p xs) (filter p xs)) ≡ p w) is (
      elim (p x) as (λ b. p x ≡ b → has x (cond b (x ∷ filter p xs) (filter p xs)) ≡ b) [
        | true ↦ λ _. ap (λ b. b || has x (filter p xs)) (itself x)
        | false ↦ λ miss. rest ∙ (ap (λ b. has x xs && b) miss ∙ out (has x xs))
      ] refl)

all-filter : (m : ℕ) (p : ℕ → Bool) (xs : List ℕ) → AllByRecursion (λ y. m < y) xs → AllByRecursion (λ y. m < y) (filter p xs)
all-filter m p [] all = tt
all-filter m p (x ∷ xs) all = elim (p x) as (λ b. AllByRecursion (λ y. m < y) (cond b (x ∷ filter p xs) (filter p xs))) [
  | true ↦ (all.0, all-filter m p xs all.1)
  | false ↦ all-filter m p xs all.1
]

pub up-filter : (p : ℕ → Bool) (xs : List ℕ) → Up xs → Up (filter p xs)
up-filter p [] up = tt
up-filter p (x ∷ xs) up = elim (p x) as (λ b. Up (cond b (x ∷ filter p xs) (filter p xs))) [
  | true ↦ (all-filter x p xs up.0, up-filter p xs up.1)
  | false ↦ up-filter p xs up.1
]

above-those : (m : ℕ) (q : Event → Bool) (events : List Event) → AllByRecursion (λ y. m < y) (numbers events) → AllByRecursion (λ y. m < y) (numbers (filter q events))
above-those m q [] all = tt
above-those m q (e ∷ events) all = elim (q e) as (λ b. AllByRecursion (λ y. m < y) (numbers (cond b (e ∷ filter q events) (filter q events)))) [
  | true ↦ (all.0, above-those m q events all.1)
  | false ↦ above-those m q events all.1
]

pub up-those : (q : Event → Bool) (events : List Event) → Rising events → Up (numbers (filter q events))
up-those q [] up = tt
up-those q (e ∷ events) up = elim (q e) as (λ b. Up (numbers (cond b (e ∷ filter q events) (filter q events)))) [
  | true ↦ (above-those e.number q events up.0, up-those q events up.1)
  | false ↦ up-those q events up.1
]

-- the numbers of the events of a kind, where one that was never used is of another
pub has-those : (q : Event → Bool) → ((n : ℕ) → q (unused n) ≡ false) → (z : ℕ) (events : List Event) → Rising events
    → has z (numbers (filter q events)) ≡ q (event_of z events)
has-those q fresh z [] up = sym (fresh z)
has-those q fresh z (e ∷ events) up = elim (q e) as (λ b. q e ≡ b → has z (numbers (cond b (e ∷ filter q events) (filter q events))) ≡ q (cond (e.number == z) e (event_of z events))) [
  | true ↦ λ yes. elim (e.number == z) as (λ b. (b || has z (numbers (filter q events))) ≡ q (cond b e (event_of z events))) [
    | true ↦ sym yes
    | false ↦ has-those q fresh z events up.1
  ]
  | false ↦ λ miss. elim (e.number == z) as (λ b. (e.number == z) ≡ b → has z (numbers (filter q events)) ≡ q (cond b e (event_of z events))) [
    | true ↦ λ here. has-those q fresh z events up.1
        ∙ (subst (λ w. q (event_of w events) ≡ false) (eqb-true e.number z here) (ap q (absent e.number events up.0) ∙ fresh e.number) ∙ sym miss)
    | false ↦ λ _. has-those q fresh z events up.1
  ] refl
] refl

pub count-those : (q : Event → Bool) (events : List Event) → count_by q events ≡ length (numbers (filter q events))
count-those q [] = refl
count-those q (e ∷ events) =
    sum_by-cons (λ x. cond (q x) 1 0) e events
    ∙ elim (q e) as (λ b. cond b 1 0 + count_by q events ≡ length (numbers (cond b (e ∷ filter q events) (filter q events)))) [
      | true ↦ let rest = count-those q events in omega arith
      | false ↦ let rest = count-those q events in omega arith
    ]

pub none-used : (events : List Event) → is_empty (numbers (filter is_used events)) ≡ list_all is_given_back events
none-used [] = refl
none-used (e ∷ events) = elim (e.held || e.waits) as (λ b. is_empty (numbers (cond b (e ∷ filter is_used events) (filter is_used events))) ≡ (not b && list_all is_given_back events)) [
  | true ↦ refl
  | false ↦ none-used events
]
