-- The senders of a lane's ends are told apart by the ends' numbers.
use Rattle.std.proofs.Common.{◌≡◌, ℕ, ◌+◌, ◌-◌, ◌<◌, ◌≤◌, ◌==◌, true, false, refl, sym, ap, ◌∙◌, arith, eqb-true, eq-eqb, ne_eqb, inl, inr}
use Rattle.std.specs.Prelude.{nat_lt}
use Rattle.std.proofs.lemmas.Bool.{cases_order, lt-ltb, ltb-true}
use Rattle.port_model.specs.declared.signal.Sender.TheVariants.{Process, Poller, Worker, Timer}
use Rattle.port_lanes.specs.Keys.{Key, end_of, sender_at}
use Rattle.port_events.specs.port_history.Opening.{same_sender}

pub not-lt : (n m : ℕ) → nat_lt n m ≡ false → m ≤ n
not-lt n m e = elim (cases_order n m) [
  | inl equal ↦ omega (arith, equal)
  | inr (inl less) ↦ absurd (let yes : nat_lt n m ≡ true = lt-ltb n m less in cc)
  | inr (inr more) ↦ omega (arith, more)
]

-- what an end of this number is
pub record IsProcess (key : Key) (n : ℕ) : Type 0 where
  pub below : n < key.processes
  pub is : sender_at key n ≡ Process n

pub record IsPoller (key : Key) (n : ℕ) : Type 0 where
  pub at : n ≡ key.processes
  pub is : sender_at key n ≡ Poller

pub record IsWorker (key : Key) (n : ℕ) : Type 0 where
  pub above : key.processes + 1 ≤ n
  pub is : sender_at key n ≡ Worker (n - (key.processes + 1))

pub data Place (key : Key) (n : ℕ) : Type 0 where
  process : IsProcess key n → Place key n
  poller : IsPoller key n → Place key n
  worker : IsWorker key n → Place key n

pub place : (key : Key) (n : ℕ) → n < end_of key Timer → Place key n
place key n within = elim (nat_lt n key.processes) as (λ b. nat_lt n key.processes ≡ b → Place key n) [
  | true ↦ λ yes. process (record { below = ltb-true n key.processes yes; is = rw (yes) refl })
  | false ↦ λ miss. elim (n == key.processes) as (λ b. (n == key.processes) ≡ b → Place key n) [
    | true ↦ λ same. poller (record { at = eqb-true n key.processes same; is = rw (miss, same) refl })
    | false ↦ λ other. elim (nat_lt (n - (key.processes + 1)) key.workers) as (λ b. nat_lt (n - (key.processes + 1)) key.workers ≡ b → Place key n) [
      | true ↦ λ small. worker (record { above = above miss other; is = rw (miss, other, small) refl })
      | false ↦ λ great. absurd (let low = not-lt (n - (key.processes + 1)) key.workers great in let high = above miss other in omega (arith, low, high, within))
    ] refl
  ] refl
] refl where
  above : nat_lt n key.processes ≡ false → (n == key.processes) ≡ false → key.processes + 1 ≤ n
  above miss other =
      let least = not-lt n key.processes miss in
      elim (cases_order n key.processes) [
        | inl equal ↦ absurd (let same : (n == key.processes) ≡ true = eq-eqb n key.processes equal in cc)
        | inr (inl less) ↦ omega (arith, less, least)
        | inr (inr more) ↦ omega (arith, more)
      ]

worker-apart : (p n m : ℕ) → p + 1 ≤ n → p + 1 ≤ m → (n - (p + 1) == m - (p + 1)) ≡ (n == m)
worker-apart p n m a b = elim (n == m) as (λ t. (n == m) ≡ t → (n - (p + 1) == m - (p + 1)) ≡ t) [
  | true ↦ λ same. eq-eqb (n - (p + 1)) (m - (p + 1)) (ap (λ x. x - (p + 1)) (eqb-true n m same))
  | false ↦ λ other. ne_eqb (n - (p + 1)) (m - (p + 1)) (λ equal. differs other (omega (arith, a, b, equal)))
] refl where
  differs : (n == m) ≡ false → n ≡ m → ⊥
  differs other equal = absurd (let same : (n == m) ≡ true = eq-eqb n m equal in cc)

-- two ends have one sender exactly where they have one number
pub apart : (key : Key) (n m : ℕ) → n < end_of key Timer → m < end_of key Timer → same_sender (sender_at key n) (sender_at key m) ≡ (n == m)
apart key n m within inside = both (place key n within) (place key m inside) where
  both : Place key n → Place key m → same_sender (sender_at key n) (sender_at key m) ≡ (n == m)
  both (process a) (process b) = rw (a.is, b.is) refl
  both (process a) (poller b) = rw (a.is, b.is) (sym (ne_eqb n m (λ equal. let x = a.below in let y = b.at in omega (arith, x, y, equal))))
  both (process a) (worker b) = rw (a.is, b.is) (sym (ne_eqb n m (λ equal. let x = a.below in let y = b.above in omega (arith, x, y, equal))))
  both (poller a) (process b) = rw (a.is, b.is) (sym (ne_eqb n m (λ equal. let x = a.at in let y = b.below in omega (arith, x, y, equal))))
  both (poller a) (poller b) = rw (a.is, b.is) (sym (eq-eqb n m (a.at ∙ sym b.at)))
  both (poller a) (worker b) = rw (a.is, b.is) (sym (ne_eqb n m (λ equal. let x = a.at in let y = b.above in omega (arith, x, y, equal))))
  both (worker a) (process b) = rw (a.is, b.is) (sym (ne_eqb n m (λ equal. let x = a.above in let y = b.below in omega (arith, x, y, equal))))
  both (worker a) (poller b) = rw (a.is, b.is) (sym (ne_eqb n m (λ equal. let x = a.above in let y = b.at in omega (arith, x, y, equal))))
  both (worker a) (worker b) = rw (a.is, b.is) (worker-apart key.processes n m a.above b.above)
