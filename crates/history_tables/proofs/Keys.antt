-- The keys of senders tell the senders apart.
use Rattle.std.proofs.Common.{◌≡◌, ℕ, ◌+◌, Bool, true, false, ◌&&◌, eqb, cond, List, ◌∷◌, Option, Some, refl, sym, ap, ◌∙◌, arith}
use Rattle.std.specs.declared.cmp.Ordering.{Ordering}
use Rattle.std.specs.declared.cmp.Ordering.TheVariants.{Less, Equal, Greater}
use Rattle.std.specs.Ordering.{is_eq, nat_cmp, ordering_then}
use Rattle.std.specs.Option.{unwrap_or}
use Rattle.std.specs.Map.{count_at}
use Rattle.std.specs.BTreeMap.{BTreeMap, get, is_at}
use Rattle.std.proofs.lemmas.Bool.Decides.{nat_tests}
use Rattle.std.proofs.lemmas.Bool.{eqb-true}
use Rattle.std.proofs.lemmas.List.Sums.{sum_by-cons}
use Rattle.port_model.specs.declared.signal.Sender.{Sender}
use Rattle.port_model.specs.declared.signal.Sender.TheVariants.{Process, Poller, Worker, Timer}
use Rattle.port_history.specs.Opening.{same_sender}
use Rattle.port_history.specs.Laws.{count_of}
use Rattle.history_tables.specs.declared.key.SenderKey.{SenderKey}
use Rattle.history_tables.specs.Keys.{key_of, key_cmp, task_key, task_cmp}

pub numbers : (p q : ℕ) → is_eq (nat_cmp p q) ≡ eqb p q
numbers p q = grind (arith, nat_tests)

pub turned : (p q : ℕ) → eqb p q ≡ eqb q p
turned p q = grind (arith, nat_tests)

pub same-keys : (a b : Sender) → is_at (key_cmp (key_of a)) (key_of b) ≡ same_sender a b
same-keys (Process p) (Process q) = numbers p q
same-keys (Process p) Poller = refl
same-keys (Process p) (Worker w) = refl
same-keys (Process p) Timer = refl
same-keys Poller (Process q) = refl
same-keys Poller Poller = refl
same-keys Poller (Worker w) = refl
same-keys Poller Timer = refl
same-keys (Worker w) (Process q) = refl
same-keys (Worker w) Poller = refl
same-keys (Worker w) (Worker v) = numbers w v
same-keys (Worker w) Timer = refl
same-keys Timer (Process q) = refl
same-keys Timer Poller = refl
same-keys Timer (Worker w) = refl
same-keys Timer Timer = refl

pub same-turned : (a b : Sender) → same_sender a b ≡ same_sender b a
same-turned (Process p) (Process q) = turned p q
same-turned (Process p) Poller = refl
same-turned (Process p) (Worker w) = refl
same-turned (Process p) Timer = refl
same-turned Poller (Process q) = refl
same-turned Poller Poller = refl
same-turned Poller (Worker w) = refl
same-turned Poller Timer = refl
same-turned (Worker w) (Process q) = refl
same-turned (Worker w) Poller = refl
same-turned (Worker w) (Worker v) = turned w v
same-turned (Worker w) Timer = refl
same-turned Timer (Process q) = refl
same-turned Timer Poller = refl
same-turned Timer (Worker w) = refl
same-turned Timer Timer = refl

-- senders that are the same are one
pub one-sender : (a b : Sender) → same_sender a b ≡ true → a ≡ b
one-sender (Process p) (Process q) e = ap Process (eqb-true p q e)
one-sender (Process p) Poller e = absurd cc
one-sender (Process p) (Worker w) e = absurd cc
one-sender (Process p) Timer e = absurd cc
one-sender Poller (Process q) e = absurd cc
one-sender Poller Poller e = refl
one-sender Poller (Worker w) e = absurd cc
one-sender Poller Timer e = absurd cc
one-sender (Worker w) (Process q) e = absurd cc
one-sender (Worker w) Poller e = absurd cc
one-sender (Worker w) (Worker v) e = ap Worker (eqb-true w v e)
one-sender (Worker w) Timer e = absurd cc
one-sender Timer (Process q) e = absurd cc
one-sender Timer Poller e = absurd cc
one-sender Timer (Worker w) e = absurd cc
one-sender Timer Timer e = refl

count-at : (b : Bool) (o : Option ℕ) (n : ℕ) → unwrap_or (cond b (Some n) o) 0 ≡ cond b n (unwrap_or o 0)
count-at true o n = refl
count-at false o n = refl

counts-one : (from other : Sender) (senders : List Sender) → count_of other (from ∷ senders) ≡ cond (same_sender other from) 1 0 + count_of other senders
counts-one from other senders = sum_by-cons (λ x. cond (same_sender other x) 1 0) from senders

pub counted-more : (from : Sender) (senders : List Sender) (old new : BTreeMap SenderKey ℕ) (key : SenderKey) (count : ℕ) → key ≡ key_of from
    → ((other : Sender) → count_at (get key_cmp old) (key_of other) ≡ count_of other senders)
    → ((q : SenderKey) → get key_cmp new q ≡ cond (is_at (key_cmp key) q) (Some count) (get key_cmp old q))
    → count ≡ count_of from senders + 1
    → (other : Sender) → count_at (get key_cmp new) (key_of other) ≡ count_of other (from ∷ senders)
counted-more from senders old new key count is counts updates one other =
    ap (λ o. unwrap_or o 0) (updates (key_of other) ∙ ap (λ k. cond (is_at (key_cmp k) (key_of other)) (Some count) (get key_cmp old (key_of other))) is)
    ∙ (ap (λ b. unwrap_or (cond b (Some count) (get key_cmp old (key_of other))) 0) (same-keys from other)
    ∙ (count-at (same_sender from other) (get key_cmp old (key_of other)) count
    ∙ (by_same (same_sender from other) refl ∙ sym (counts-one from other senders))))
  where
    by_same : (b : Bool) → same_sender from other ≡ b
        → cond b count (count_at (get key_cmp old) (key_of other)) ≡ cond (same_sender other from) 1 0 + count_of other senders
    by_same true same =
        let e : count_of from senders ≡ count_of other senders = ap (λ s. count_of s senders) (one-sender from other same) in
        rw (sym (same-turned from other) ∙ same) (omega (arith, one, e))
    by_same false same = counts other ∙ rw (sym (same-turned from other) ∙ same) (omega arith)

-- tasks are the same where their senders and places are
pub same-tasks : (a b : Sender) (m n : ℕ) → is_at (task_cmp (task_key a m)) (task_key b n) ≡ (same_sender a b && eqb m n)
same-tasks a b m n = then-both (key_cmp (key_of a) (key_of b)) (nat_cmp m n) ∙ (ap (λ x. x && is_eq (nat_cmp m n)) (same-keys a b) ∙ ap (λ x. same_sender a b && x) (numbers m n)) where
  then-both : (o p : Ordering) → is_eq (ordering_then o p) ≡ (is_eq o && is_eq p)
  then-both Less p = refl
  then-both Equal p = refl
  then-both Greater p = refl
