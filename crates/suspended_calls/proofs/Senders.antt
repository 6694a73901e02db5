-- Who a sender is, and the numbers of a process's entries.
use Rattle.std.proofs.Common.{◌≡◌, ℕ, ◌≤◌, cond, eqb, Bool, true, false, not, List, [], ◌∷◌, ◌++◌, length, refl, sym, ap, ◌∙◌, arith, append_assoc, eqb-true}
use Rattle.std.proofs.lemmas.Bool.{and_parts, or_parts, true≢false}
use Rattle.port_model.specs.declared.signal.Sender.{Sender}
use Rattle.port_model.specs.declared.signal.Sender.TheVariants.{Process, Poller, Worker, Timer}
use Rattle.port_history.specs.Opening.{same_sender}
use Rattle.port_history.specs.Suspension.{Entry, entry, same_entry, has_sender, is_first, without_entry}
use Rattle.suspended_calls.specs.Numbers.{number_from}

-- the numbers of a process's entries, in their order
abbrev pub numbers_in : ℕ → List Entry → List ℕ
numbers_in process [] = []
numbers_in process (e ∷ entries) = number_from process e.from e.seq ++ numbers_in process entries

pub sender-is : (from other : Sender) → same_sender from other ≡ true → from ≡ other
sender-is (Process n) (Process m) e = ap Process (eqb-true n m e)
sender-is (Worker n) (Worker m) e = ap Worker (eqb-true n m e)
sender-is Poller Poller e = refl
sender-is Timer Timer e = refl
sender-is from other e = absurd (true≢false (sym e))

pub numbers-append : (process : ℕ) (xs ys : List Entry) → numbers_in process (xs ++ ys) ≡ numbers_in process xs ++ numbers_in process ys
numbers-append process [] ys = refl
numbers-append process (e ∷ xs) ys =
    ap (λ ns. number_from process e.from e.seq ++ ns) (numbers-append process xs ys) ∙ sym (append_assoc (number_from process e.from e.seq) (numbers_in process xs) (numbers_in process ys))

-- a process that isn't among the senders has no entry
pub no-numbers : (process : ℕ) (entries : List Entry) → has_sender (Process process) entries ≡ false → numbers_in process entries ≡ []
no-numbers process [] none = refl
no-numbers process (e ∷ entries) none =
    let parts = or_parts (same_sender (Process process) e.from) (has_sender (Process process) entries) none in
    ap (λ b. cond b (e.seq ∷ []) [] ++ numbers_in process entries) parts.0 ∙ no-numbers process entries parts.1

-- where there was no entry there is none
pub none-without : (process : ℕ) (e : Entry) (entries : List Entry) → numbers_in process entries ≡ [] → numbers_in process (without_entry e entries) ≡ []
none-without process e [] none = refl
none-without process e (x ∷ entries) none =
    let front = number_from process x.from x.seq in
    let parts = empty-parts front (numbers_in process entries) none in
    elim (same_entry e x) as (λ b. numbers_in process (cond (not b) (x ∷ without_entry e entries) (without_entry e entries)) ≡ []) [
      | true ↦ none-without process e entries parts.1
      | false ↦ ap (λ ns. ns ++ numbers_in process (without_entry e entries)) parts.0 ∙ none-without process e entries parts.1
    ]
  where
    empty-parts : (xs ys : List ℕ) → xs ++ ys ≡ [] → (xs ≡ []) × (ys ≡ [])
    empty-parts [] ys e = (refl, e)
    empty-parts (x ∷ xs) ys e = absurd cc

-- an entry of another sender goes
pub others-without : (process : ℕ) (e : Entry) (entries : List Entry) → same_sender (Process process) e.from ≡ false → numbers_in process (without_entry e entries) ≡ numbers_in process entries
others-without process e [] other = refl
others-without process e (x ∷ entries) other =
    let rest = without_entry e entries in
    elim (same_entry e x) as (λ b. same_entry e x ≡ b → numbers_in process (cond (not b) (x ∷ rest) rest) ≡ numbers_in process (x ∷ entries)) [
      | true ↦ λ same.
          let is = sender-is e.from x.from (and_parts (same_sender e.from x.from) (eqb e.seq x.seq) same).0 in
          others-without process e entries other
          ∙ ap (λ b. cond b (x.seq ∷ []) [] ++ numbers_in process entries) (sym (sym (ap (same_sender (Process process)) is) ∙ other))
      | false ↦ λ _. ap (λ ns. number_from process x.from x.seq ++ ns) (others-without process e entries other)
    ] refl

single : (b : Bool) (n : ℕ) (ns : List ℕ) → length (cond b (n ∷ []) [] ++ ns) ≤ 1 → b ≡ true → ns ≡ []
single true n [] few is = refl
single true n (m ∷ ns) few is = absurd (omega (arith, few))
single false n ns few is = absurd (true≢false (sym is))

-- the first entry goes, where the process has at most one
pub first-goes : (process : ℕ) (from : Sender) (seq : ℕ) (entries : List Entry) → is_first (entry from seq) entries ≡ true → length (numbers_in process entries) ≤ 1
    → numbers_in process entries ≡ number_from process from seq ++ numbers_in process (without_entry (entry from seq) entries)
first-goes process from seq [] first few = absurd (true≢false (sym first))
first-goes process from seq (x ∷ entries) first few =
    let e = entry from seq in
    let rest = without_entry e entries in
    let same = and_parts (same_sender from x.from) (eqb seq x.seq) first in
    let from_is = sender-is from x.from same.0 in
    let seq_is = eqb-true seq x.seq same.1 in
    let front : number_from process x.from x.seq ≡ number_from process from seq = λ i. number_from process (sym from_is i) (sym seq_is i) in
    let gone : without_entry e (x ∷ entries) ≡ rest = ap (λ b. cond (not b) (x ∷ rest) rest) first in
    let kept : numbers_in process entries ≡ numbers_in process rest = elim (same_sender (Process process) from) as (λ b. same_sender (Process process) from ≡ b → numbers_in process entries ≡ numbers_in process rest) [
      | true ↦ λ own. let none = single (same_sender (Process process) x.from) x.seq (numbers_in process entries) few (sym (ap (same_sender (Process process)) from_is) ∙ own) in
          none ∙ sym (none-without process e entries none)
      | false ↦ λ other. sym (others-without process e entries other)
    ] refl in
    (λ i. front i ++ kept i) ∙ ap (λ es. number_from process from seq ++ numbers_in process es) (sym gone)
