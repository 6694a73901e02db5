-- Events that stand by rising number: how one of them is found and changed.
use Rattle.std.proofs.Common.{◌≡◌, ℕ, ◌<◌, ◌==◌, cond, map, true, false, List, [], ◌∷◌, refl, sym, ap, ◌∙◌, subst, arith, inl, inr, eqb-true, eq-eqb, ne_eqb}
use Rattle.std.specs.Prelude.{nat_lt}
use Rattle.std.specs.List.{AllByRecursion}
use Rattle.std.proofs.lemmas.Bool.{cases_order, lt-ltb, ltb-true}
use Rattle.port_history.specs.Events.{Event, unused, change, event_of, numbers}
use Rattle.history_tables.specs.EventsKept.{Rising as Up}

abbrev Rising : List Event → Type 0
Rising events = Up (numbers events)

pub lower : (m k : ℕ) (xs : List ℕ) → m < k → AllByRecursion (λ y. k < y) xs → AllByRecursion (λ y. m < y) xs
lower m k [] less all = tt
lower m k (x ∷ xs) less all = let above : k < x = all.0 in (omega arith, lower m k xs less all.1)

pub number-of : (n : ℕ) (events : List Event) → (event_of n events).number ≡ n
number-of n [] = refl
number-of n (e ∷ events) =
    elim (e.number == n) as (λ b. (e.number == n) ≡ b → (cond b e (event_of n events)).number ≡ n) [
      | true ↦ λ here. eqb-true e.number n here
      | false ↦ λ _. number-of n events
    ] refl

-- an event below all of them was never used
pub absent : (n : ℕ) (events : List Event) → AllByRecursion (λ y. n < y) (numbers events) → event_of n events ≡ unused n
absent n [] all = refl
absent n (e ∷ events) all =
    let above : n < e.number = all.0 in rw (ne_eqb e.number n (λ equal. omega arith)) (absent n events all.1)

not_below : (n m : ℕ) → nat_lt n m ≡ false → (m == n) ≡ false → m < n
not_below n m above other = elim (cases_order m n) [
  | inl equal ↦ absurd (let same : (m == n) ≡ true = eq-eqb m n equal in cc)
  | inr (inl less) ↦ less
  | inr (inr more) ↦ absurd (let below : nat_lt n m ≡ true = lt-ltb n m more in cc)
]

module _ (n : ℕ) (how : Event → Event) (keeps : (e : Event) → (how e).number ≡ e.number) where
  pub changed : (o : ℕ) (events : List Event) → Rising events → event_of o (change n how events) ≡ cond (n == o) (how (event_of o events)) (event_of o events)
  changed o [] up =
      ap (λ m. cond (m == o) (how (unused n)) (unused o)) (keeps (unused n))
      ∙ elim (n == o) as (λ b. (n == o) ≡ b → cond b (how (unused n)) (unused o) ≡ cond b (how (unused o)) (unused o)) [
        | true ↦ λ here. ap (λ m. how (unused m)) (eqb-true n o here)
        | false ↦ λ _. refl
      ] refl
  changed o (e ∷ events) up =
      elim (nat_lt n e.number) as (λ b. nat_lt n e.number ≡ b
      → event_of o (cond b (how (unused n) ∷ e ∷ events) (cond (e.number == n) (how e ∷ events) (e ∷ change n how events)))
      ≡ cond (n == o) (how (event_of o (e ∷ events))) (event_of o (e ∷ events))) [
        | true ↦ λ below. before below
        | false ↦ λ miss. at_or_behind miss (changed o events up.1)
      ] refl
    where
      before : nat_lt n e.number ≡ true → event_of o (how (unused n) ∷ e ∷ events) ≡ cond (n == o) (how (event_of o (e ∷ events))) (event_of o (e ∷ events))
      before below =
          let less : n < e.number = ltb-true n e.number below in
          ap (λ m. cond (m == o) (how (unused n)) (event_of o (e ∷ events))) (keeps (unused n))
          ∙ elim (n == o) as (λ b. (n == o) ≡ b → cond b (how (unused n)) (event_of o (e ∷ events)) ≡ cond b (how (event_of o (e ∷ events))) (event_of o (e ∷ events))) [
            | true ↦ λ here.
                let out : event_of n (e ∷ events) ≡ unused n = absent n (e ∷ events) (less, lower n e.number (numbers events) less up.0) in
                subst (λ m. how (unused n) ≡ how (event_of m (e ∷ events))) (eqb-true n o here) (ap how (sym out))
            | false ↦ λ _. refl
          ] refl

      here_is : cond ((how e).number == o) (how e) (event_of o events)
          ≡ cond (e.number == o) (how (cond (e.number == o) e (event_of o events))) (cond (e.number == o) e (event_of o events))
      here_is =
          ap (λ m. cond (m == o) (how e) (event_of o events)) (keeps e)
          ∙ elim (e.number == o) as (λ b. cond b (how e) (event_of o events) ≡ cond b (how (cond b e (event_of o events))) (cond b e (event_of o events))) [
            | true ↦ refl
            | false ↦ refl
          ]

      behind : (e.number == n) ≡ false → event_of o (change n how events) ≡ cond (n == o) (how (event_of o events)) (event_of o events) → cond (e.number == o) e (event_of o (change n how events))
          ≡ cond (n == o) (how (cond (e.number == o) e (event_of o events))) (cond (e.number == o) e (event_of o events))
      behind other rest =
          elim (e.number == o) as (λ b. (e.number == o) ≡ b → cond b e (event_of o (change n how events))
          ≡ cond (n == o) (how (cond b e (event_of o events))) (cond b e (event_of o events))) [
            | true ↦ λ same. rw (differs same) refl
            | false ↦ λ _. rest
          ] refl
        where
          differs : (e.number == o) ≡ true → (n == o) ≡ false
          differs same = elim (n == o) as (λ b. (n == o) ≡ b → b ≡ false) [
            | true ↦ λ too. absurd (let equal : (e.number == n) ≡ true = eq-eqb e.number n (eqb-true e.number o same ∙ sym (eqb-true n o too)) in cc)
            | false ↦ λ _. refl
          ] refl

      at_or_behind : nat_lt n e.number ≡ false → event_of o (change n how events) ≡ cond (n == o) (how (event_of o events)) (event_of o events) → event_of o (cond (e.number == n) (how e ∷ events) (e ∷ change n how events))
          ≡ cond (n == o) (how (event_of o (e ∷ events))) (event_of o (e ∷ events))
      at_or_behind miss rest =
          elim (e.number == n) as (λ b. (e.number == n) ≡ b → event_of o (cond b (how e ∷ events) (e ∷ change n how events))
          ≡ cond (n == o) (how (event_of o (e ∷ events))) (event_of o (e ∷ events))) [
            | true ↦ λ same. subst (λ m. event_of o (how e ∷ events) ≡ cond (m == o) (how (event_of o (e ∷ events))) (event_of o (e ∷ events))) (eqb-true e.number n same) here_is
            | false ↦ λ other. behind other rest
          ] refl

  above-change : (m : ℕ) (events : List Event) → m < n → AllByRecursion (λ y. m < y) (numbers events) → AllByRecursion (λ y. m < y) (numbers (change n how events))
  above-change m [] less all = (subst (λ k. m < k) (sym (keeps (unused n))) less, tt)
  above-change m (e ∷ events) less all =
      elim (nat_lt n e.number) as (λ b. AllByRecursion (λ y. m < y) (numbers (cond b (how (unused n) ∷ e ∷ events) (cond (e.number == n) (how e ∷ events) (e ∷ change n how events))))) [
        | true ↦ (subst (λ k. m < k) (sym (keeps (unused n))) less, all)
        | false ↦ elim (e.number == n) as (λ b. AllByRecursion (λ y. m < y) (numbers (cond b (how e ∷ events) (e ∷ change n how events)))) [
          | true ↦ (subst (λ k. m < k) (sym (keeps e)) all.0, all.1)
          | false ↦ (all.0, above-change m events less all.1)
        ]
      ]

  pub rising-change : (events : List Event) → Rising events → Rising (change n how events)
  rising-change [] up = (tt, tt)
  rising-change (e ∷ events) up =
      elim (nat_lt n e.number) as (λ b. nat_lt n e.number ≡ b → Rising (cond b (how (unused n) ∷ e ∷ events) (cond (e.number == n) (how e ∷ events) (e ∷ change n how events)))) [
        | true ↦ λ below.
            let less : n < e.number = ltb-true n e.number below in
            (subst (λ k. AllByRecursion (λ y. k < y) (numbers (e ∷ events))) (sym (keeps (unused n))) (less, lower n e.number (numbers events) less up.0), up)
        | false ↦ λ miss. elim (e.number == n) as (λ b. (e.number == n) ≡ b → Rising (cond b (how e ∷ events) (e ∷ change n how events))) [
          | true ↦ λ _. (subst (λ k. AllByRecursion (λ y. k < y) (numbers events)) (sym (keeps e)) up.0, up.1)
          | false ↦ λ other. (above-change e.number events (not_below n e.number miss other) up.0, rising-change events up.1)
        ] refl
      ] refl

-- an event that leaves those alone that were never used does to each event what it does to all
pub event-map : (how : Event → Event) → ((e : Event) → (how e).number ≡ e.number) → (o : ℕ) → how (unused o) ≡ unused o
    → (events : List Event) → event_of o (map how events) ≡ how (event_of o events)
event-map how keeps o leaves [] = sym leaves
event-map how keeps o leaves (e ∷ events) =
    ap (λ m. cond (m == o) (how e) (event_of o (map how events))) (keeps e)
    ∙ elim (e.number == o) as (λ b. cond b (how e) (event_of o (map how events)) ≡ how (cond b e (event_of o events))) [
      | true ↦ refl
      | false ↦ event-map how keeps o leaves events
    ]

pub rising-map : (how : Event → Event) → ((e : Event) → (how e).number ≡ e.number) → (events : List Event) → Rising events → Rising (map how events)
rising-map how keeps events up = subst (λ ns. Up ns) (sym (same events)) up where
  same : (es : List Event) → numbers (map how es) ≡ numbers es
  same [] = refl
  same (e ∷ es) = rw (keeps e, same es) refl
