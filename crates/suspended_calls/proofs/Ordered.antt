-- The numbers that a process's entries have, in the order in which they were listed.
use Rattle.std.proofs.Common.{◌≡◌, ℕ, ◌+◌, ◌<◌, ◌≤◌, zero, suc, cond, true, false, List, [], ◌∷◌, ◌++◌, length, refl, sym, ap, subst, arith}
use Rattle.std.specs.Prelude.{slice_index}
use Rattle.std.specs.List.{AllByRecursion}
use Rattle.std.specs.List.Sorted.{IsStrictlyIncreasing}
use Rattle.std.proofs.lemmas.List.{append-nil}
use Rattle.std.proofs.lemmas.List.Elements.{All-from_recursion}
use Rattle.port_model.specs.declared.row.Row.{Row}
use Rattle.port_model.specs.declared.row.Row.TheVariants.{Handled, Late, Listed, Resumed, Mark}
use Rattle.port_model.specs.declared.signal.Sender.TheVariants.{Process}
use Rattle.port_body.specs.LanePort.{AreFalling, rows_from}
use Rattle.port_history.specs.Laws.{count_of}
use Rattle.port_history.specs.Opening.{Opening, same_sender}
use Rattle.port_history.specs.State.{state}
use Rattle.port_history.specs.Suspension.{Entry}
use Rattle.suspended_calls.specs.Numbers.{number_from, listed_numbers}
use Rattle.suspended_calls.specs.Listed.{ListedCallsAreInOrder}
use Rattle.suspended_calls.proofs.Counting.{many-rows}
use Rattle.suspended_calls.proofs.Rising.{Rising}
use Rattle.suspended_calls.proofs.Senders.{sender-is}

-- the numbers of a process's entries, oldest first, of entries that stand newest first
abbrev pub oldest_numbers : ℕ → List Entry → List ℕ
oldest_numbers process [] = []
oldest_numbers process (e ∷ older) = oldest_numbers process older ++ number_from process e.from e.seq

listed-oldest : (port : Opening) (process : ℕ) (history : List Row) → listed_numbers process history ≡ oldest_numbers process (state port history).entries
listed-oldest port process [] = refl
listed-oldest port process (Handled from seq task outside effects ∷ older) = listed-oldest port process older
listed-oldest port process (Late from seq task ∷ older) = listed-oldest port process older
listed-oldest port process (Listed from seq ∷ older) = ap (λ ns. ns ++ number_from process from seq) (listed-oldest port process older)
listed-oldest port process (Resumed from seq word ∷ older) = listed-oldest port process older
listed-oldest port process (Mark kind ∷ older) = listed-oldest port process older

-- a fact of the entries of a process is one of its numbers
all-append : (P : ℕ → Type 0) (xs ys : List ℕ) → AllByRecursion P xs → AllByRecursion P ys → AllByRecursion P (xs ++ ys)
all-append P [] ys a b = b
all-append P (x ∷ xs) ys a b = (a.0, all-append P xs ys a.1 b)

all-numbers : (P : ℕ → Type 0) (process : ℕ) (entries : List Entry) → AllByRecursion (λ (e : Entry). same_sender (Process process) e.from ≡ true → P e.seq) entries
    → AllByRecursion P (oldest_numbers process entries)
all-numbers P process [] all = tt
all-numbers P process (e ∷ older) all = all-append P (oldest_numbers process older) (number_from process e.from e.seq) (all-numbers P process older all.1)
    (elim (same_sender (Process process) e.from) as (λ b. same_sender (Process process) e.from ≡ b → AllByRecursion P (cond b (e.seq ∷ []) [])) [
      | true ↦ λ own. (all.0 own, tt)
      | false ↦ λ _. tt
    ] refl)

all-weaker : (P Q : Entry → Type 0) (entries : List Entry) → ((e : Entry) → P e → Q e) → AllByRecursion P entries → AllByRecursion Q entries
all-weaker P Q [] f all = tt
all-weaker P Q (e ∷ entries) f all = (f e all.0, all-weaker P Q entries f all.1)

rising-push : (ns : List ℕ) (n : ℕ) → Rising ns → AllByRecursion (λ m. m < n) ns → Rising (ns ++ n ∷ [])
rising-push [] n rising below = (tt, tt)
rising-push (m ∷ ns) n rising below =
    (all-append (λ k. m + 1 ≤ k) ns (n ∷ []) rising.0 (let h = below.0 in omega (arith, h), tt), rising-push ns n rising.1 below.1)

oldest-rise : (process : ℕ) (entries : List Entry) → AreFalling entries → Rising (oldest_numbers process entries)
oldest-rise process [] falling = tt
oldest-rise process (e ∷ older) falling =
    let numbers = oldest_numbers process older in
    let rest = oldest-rise process older falling.1 in
    elim (same_sender (Process process) e.from) as (λ b. same_sender (Process process) e.from ≡ b → Rising (numbers ++ cond b (e.seq ∷ []) [])) [
      | true ↦ λ own. rising-push numbers e.seq rest (all-numbers (λ m. m < e.seq) process older
          (subst (λ f. AllByRecursion (λ (o : Entry). same_sender f o.from ≡ true → o.seq < e.seq) older) (sym (sender-is (Process process) e.from own)) falling.0))
      | false ↦ λ _. subst Rising (sym (append-nil numbers)) rest
    ] refl

increasing : (ns : List ℕ) → Rising ns → IsStrictlyIncreasing ns
increasing [] rising k below = absurd (omega (arith, below))
increasing (n ∷ []) rising k below = absurd (omega (arith, below))
increasing (n ∷ m ∷ ns) rising zero below = let h = rising.0.0 in let e : n < m = omega (arith, h) in e
increasing (n ∷ m ∷ ns) rising (suc k) below =
    subst (λ i. slice_index (m ∷ ns) k < slice_index (n ∷ m ∷ ns) i) (let e : suc (k + 1) ≡ suc k + 1 = omega arith in e) (increasing (m ∷ ns) rising.1 k (omega (arith, below)))

pub listed-in-order : ListedCallsAreInOrder
listed-in-order port process history order =
    let s = state port history in
    let numbers = oldest_numbers process s.entries in
    let same : numbers ≡ listed_numbers process history = sym (listed-oldest port process history) in
    let many = many-rows port process history in
    let below = all-numbers (λ m. m < length (rows_from (Process process) history)) process s.entries
    (all-weaker (λ e. e.seq < count_of e.from s.senders) (λ e. same_sender (Process process) e.from ≡ true → e.seq < length (rows_from (Process process) history)) s.entries
    (λ e less own. let at = ap (λ f. count_of f s.senders) (sender-is (Process process) e.from own) in omega (arith, less, at, many)) order.have_rows) in
    record {
      rising = subst IsStrictlyIncreasing same (increasing numbers (oldest-rise process s.entries order.falling));
      have_rows = All-from_recursion (λ m. m < length (rows_from (Process process) history)) (listed_numbers process history)
          (subst (AllByRecursion (λ m. m < length (rows_from (Process process) history))) same below);
    }
