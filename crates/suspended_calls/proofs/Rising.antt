-- Numbers that rise along a list: two such lists in which the same numbers stand are one.
use Rattle.std.proofs.Common.{◌≡◌, ℕ, ◌+◌, ◌<◌, ◌≤◌, cond, eqb, suc, Bool, true, false, List, [], ◌∷◌, ◌++◌, length, refl, sym, ap, ◌∙◌, subst, arith, ⊎_elim}
use Rattle.std.specs.Prelude.{nat_eq, count_by, AllPairs, slice_index_or}
use Rattle.std.specs.List.{AllByRecursion}
use Rattle.std.proofs.lemmas.Bool.{lt-ltb, le-ltb, eq-eqb, ne_eqb, cases_order, cases_lt}
use Rattle.std.proofs.lemmas.List.Elements.{All-from_get_or, recursion_from_All}
use Rattle.std.proofs.lemmas.List.Kept.{AllPairs-from_increasing}
use Rattle.std.proofs.lemmas.List.Recursion.{is_count_by}
use Rattle.port_model.specs.Tasks.{TaskView}
use Rattle.port_model.specs.declared.signal.Sender.TheVariants.{Process}
use Rattle.port_body.specs.LanePort.{rows_from}
use Rattle.suspended_calls.specs.Numbers.{listed_numbers, suspended_numbers}
use Rattle.suspended_calls.specs.Listed.{ListedCallsAreSuspended, SuspendedCallsAreListed}
use Rattle.suspended_calls.proofs.Counting.{times, once, AreListed, are-listed, known}
use Rattle.suspended_calls.proofs.Places.{places, suspended-are-places}
use Rattle.suspended_calls.proofs.Waiting.{resumed-are-listed}

-- each number is at least so much
abbrev pub From : ℕ → List ℕ → Type 0
From least ns = AllByRecursion (λ m. least ≤ m) ns

-- each number is below those after it
abbrev pub Rising : List ℕ → Type 0
Rising [] = Unit {0}
Rising (n ∷ ns) = From (n + 1) ns × Rising ns

rising-pairs : (ns : List ℕ) → AllPairs (λ x y. x < y) ns → Rising ns
rising-pairs [] pairs = tt
rising-pairs (n ∷ ns) pairs = (
  recursion_from_All (λ m. n + 1 ≤ m) ns (All-from_get_or (λ m. n + 1 ≤ m) ns 0 (λ i below.
      let less : n < slice_index_or ns i 0 = pairs 0 (suc i) 0 (omega arith) (omega (arith, below)) in omega (arith, less))),
  rising-pairs ns (λ i j d less below. pairs (suc i) (suc j) d (omega (arith, less)) (omega (arith, below))),
)

from-less : (least less : ℕ) (ns : List ℕ) → less ≤ least → From least ns → From less ns
from-less least less [] le from = tt
from-less least less (n ∷ ns) le from = (let h = from.0 in omega (arith, le, h), from-less least less ns le from.1)

places-from : (first : ℕ) (tasks : List TaskView) → From first (places first tasks)
places-from first [] = tt
places-from first (task ∷ tasks) =
    let more = from-less (first + 1) first (places (first + 1) tasks) (omega arith) (places-from (first + 1) tasks) in
    elim task.suspends as (λ b. From first (cond b (first ∷ []) [] ++ places (first + 1) tasks)) [
      | true ↦ (omega arith, more)
      | false ↦ more
    ]

places-rise : (first : ℕ) (tasks : List TaskView) → Rising (places first tasks)
places-rise first [] = tt
places-rise first (task ∷ tasks) = elim task.suspends as (λ b. Rising (cond b (first ∷ []) [] ++ places (first + 1) tasks)) [
  | true ↦ (places-from (first + 1) tasks, places-rise (first + 1) tasks)
  | false ↦ places-rise (first + 1) tasks
]

-- a number below all isn't there, and one above all isn't either
absent-below : (n least : ℕ) (ns : List ℕ) → From least ns → n < least → times n ns ≡ 0
absent-below n least [] from less = refl
absent-below n least (m ∷ ns) from less = let h = from.0 in rw (ne_eqb n m (λ same. omega (arith, same, h, less))) (absent-below n least ns from.1 less)

absent-above : (n k : ℕ) (ns : List ℕ) → AllByRecursion (λ m. m < k) ns → k ≤ n → times n ns ≡ 0
absent-above n k [] below le = refl
absent-above n k (m ∷ ns) below le = let h = below.0 in rw (ne_eqb n m (λ same. omega (arith, same, h, le))) (absent-above n k ns below.1 le)

first-there : (n : ℕ) (ns : List ℕ) → times n (n ∷ ns) ≡ 1 + times n ns
first-there n ns = ap (λ b. cond b (1 + times n ns) (times n ns)) (eq-eqb n n refl)

less-first : (x y : ℕ) (xs ys : List ℕ) → Rising (y ∷ ys) → times x (x ∷ xs) ≡ times x (y ∷ ys) → x < y → ⊥
less-first x y xs ys rising same less =
    let there = first-there x xs in
    let absent = absent-below x (x + 1) (y ∷ ys) (omega (arith, less), from-less (y + 1) (x + 1) ys (omega (arith, less)) rising.0) (omega arith) in
    omega (arith, there, same, absent)

same-tail : (b : Bool) (t u : ℕ) → cond b (1 + t) t ≡ cond b (1 + u) u → t ≡ u
same-tail true t u e = omega (arith, e)
same-tail false t u e = e

pub same-numbers : (xs ys : List ℕ) → Rising xs → Rising ys → ((n : ℕ) → times n xs ≡ times n ys) → xs ≡ ys
same-numbers [] [] a b same = refl
same-numbers [] (y ∷ ys) a b same = absurd (let there = first-there y ys in let e = same y in omega (arith, there, e))
same-numbers (x ∷ xs) [] a b same = absurd (let there = first-there x xs in let e = same x in omega (arith, there, e))
same-numbers (x ∷ xs) (y ∷ ys) a b same = ⊎_elim
    (λ (is : x ≡ y).
    let rest = same-numbers xs ys a.1 b.1 (λ n. same-tail (eqb n y) (times n xs) (times n ys) (ap (λ z. cond (eqb n z) (1 + times n xs) (times n xs)) (sym is) ∙ same n)) in
    λ i. is i ∷ rest i)
    (λ apart. ⊎_elim
    (λ (less : x < y). absurd (less-first x y xs ys b (same x) less))
    (λ (more : y < x). absurd (less-first y x ys xs a (sym (same y)) more))
    apart)
    (cases_order x y)

count-is : (n : ℕ) (ns : List ℕ) → times n ns ≡ count_by (nat_eq n) ns
count-is n ns = is_count_by (times n) (nat_eq n) refl (λ _ _. refl) ns

once-few : (b : Bool) → once b ≤ 1
once-few true = omega arith
once-few false = omega arith

pub listed-are-suspended : ListedCallsAreSuspended
listed-are-suspended port number process history soft asks receipts rows =
    let listed = listed_numbers process history in
    let tasks = rows_from (Process process) history in
    let suspended : suspended_numbers number receipts ≡ places 0 tasks = suspended-are-places number soft asks receipts rows.are_receipts ∙ ap (places 0) (sym rows.tasks) in
    let k = known port process history rows.lawful in
    record {
      once = λ n. subst (λ t. t ≤ 1) (sym (k.times n) ∙ count-is n listed) (once-few _);
      same = λ n below.
          sym (count-is n listed)
          ∙ sym (are-listed port process history rows.lawful n ∙ ap (λ b. cond b (times n listed) 0) (lt-ltb n (length tasks) below))
          ∙ ap (times n) (sym suspended)
          ∙ count-is n (suspended_numbers number receipts);
    }

all-there : (tasks : List TaskView) (listed : List ℕ) → AreListed tasks listed → AllByRecursion (λ m. m < length tasks) listed → (n : ℕ) → times n listed ≡ times n (places 0 tasks)
all-there tasks listed are below n = ⊎_elim
    (λ (less : n < length tasks). sym (are n ∙ ap (λ b. cond b (times n listed) 0) (lt-ltb n (length tasks) less)))
    (λ (more : length tasks ≤ n). absent-above n (length tasks) listed below more ∙ sym (are n ∙ ap (λ b. cond b (times n listed) 0) (le-ltb n (length tasks) more)))
    (cases_lt n (length tasks))

pub suspended-are-listed : SuspendedCallsAreListed
suspended-are-listed port number process history soft asks receipts rows finished order =
    let listed = listed_numbers process history in
    let tasks = rows_from (Process process) history in
    let suspended : suspended_numbers number receipts ≡ places 0 tasks = suspended-are-places number soft asks receipts rows.are_receipts ∙ ap (places 0) (sym rows.tasks) in
    let below = recursion_from_All (λ m. m < length tasks) listed order.have_rows in
    let same : listed ≡ suspended_numbers number receipts =
    same-numbers listed (places 0 tasks) (rising-pairs listed (AllPairs-from_increasing listed order.rising)) (places-rise 0 tasks)
    (all-there tasks listed (are-listed port process history rows.lawful) below) ∙ sym suspended in
    (same, resumed-are-listed port process history rows.lawful finished ∙ same)
