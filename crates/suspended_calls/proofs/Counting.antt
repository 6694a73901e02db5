-- How often a number stands among the listed ones, and among the places of the tasks that suspend.
use Rattle.std.proofs.Common.{◌≡◌, ℕ, ◌+◌, ◌<◌, ◌≤◌, cond, eqb, Bool, ltb, true, false, ◌&&◌, ◌||◌, not, List, [], ◌∷◌, ◌++◌, length, length-append, refl, sym, ap, ◌∙◌, arith, eqb-true, ⊎_elim}
use Rattle.std.specs.Prelude.{nat_le, if◌then◌else◌}
use Rattle.std.proofs.lemmas.Bool.{and_parts, not-true, leb-true, ltb-true, lt-ltb, le-ltb, eq-eqb, ne_eqb, cases_order}
use Rattle.std.proofs.lemmas.List.{append-nil}
use Rattle.std.proofs.lemmas.List.Sums.{sum_by-cons}
use Rattle.port_model.specs.declared.row.Row.{Row}
use Rattle.port_model.specs.declared.row.Row.TheVariants.{Handled, Late, Listed, Resumed, Mark}
use Rattle.port_model.specs.declared.signal.Sender.{Sender}
use Rattle.port_model.specs.declared.signal.Sender.TheVariants.{Process}
use Rattle.port_model.specs.Tasks.{TaskView}
use Rattle.port_body.specs.LanePort.{rows_from, task_from}
use Rattle.port_history.specs.Laws.{count_of, may_send, is_listed_right}
use Rattle.port_history.specs.Lawful.{Lawful}
use Rattle.port_history.specs.Opening.{Opening, same_sender}
use Rattle.port_history.specs.State.{State, state}
use Rattle.port_history.specs.Suspension.{entry, has_entry, has_sender}
use Rattle.suspended_calls.specs.Numbers.{number_from, listed_numbers}
use Rattle.suspended_calls.proofs.Places.{place_of, places, places-more}
use Rattle.suspended_calls.proofs.Senders.{sender-is}

-- 1 where it is so
abbrev pub once : Bool → ℕ
once true = 1
once false = 0

-- how often a number stands in a list
abbrev pub times : ℕ → List ℕ → ℕ
times n [] = 0
times n (m ∷ ms) = cond (eqb n m) (1 + times n ms) (times n ms)

pub times-append : (n : ℕ) (xs ys : List ℕ) → times n (xs ++ ys) ≡ times n xs + times n ys
times-append n [] ys = omega arith
times-append n (m ∷ xs) ys = elim (eqb n m) as (λ b. cond b (1 + times n (xs ++ ys)) (times n (xs ++ ys)) ≡ cond b (1 + times n xs) (times n xs) + times n ys) [
  | true ↦ let e = times-append n xs ys in omega (arith, e)
  | false ↦ times-append n xs ys
]

-- a number alone, if it is there
alone : (b : Bool) (n m : ℕ) → times n (cond b (m ∷ []) []) ≡ once (b && eqb n m)
alone true n m = elim (eqb n m) as (λ b. cond b (1 + 0) 0 ≡ once b) [
  | true ↦ refl
  | false ↦ refl
]
alone false n m = refl

-- a number is counted once if it was listed, and else not
pub record Known (port : Opening) (process : ℕ) (history : List Row) : Type 0 where
  pub times : (n : ℕ) → times n (listed_numbers process history) ≡ once (has_entry (entry (Process process) n) (state port history).entries)

one-more : (a b : Bool) (n : ℕ) → (a ≡ true → b ≡ false) → n ≡ once b → n + once a ≡ once (a || b)
one-more true b n none is = let e : n ≡ 0 = is ∙ ap once (none refl) in omega (arith, e)
one-more false b n none is = let e : n + 0 ≡ n = omega arith in e ∙ is

pub known : (port : Opening) (process : ℕ) (history : List Row) → Lawful port history → Known port process history
known port process [] lawful = record { times = λ n. refl }
known port process (Handled from seq task outside effects ∷ older) lawful = let k = known port process older lawful.1 in record { times = k.times }
known port process (Late from seq task ∷ older) lawful = let k = known port process older lawful.1 in record { times = k.times }
known port process (Resumed from seq word ∷ older) lawful = let k = known port process older lawful.1 in record { times = k.times }
known port process (Mark kind ∷ older) lawful = let k = known port process older lawful.1 in record { times = k.times }
known port process (Listed from seq ∷ older) lawful = record {
  times = λ n.
      let s = state port older in
      let k = known port process older lawful.1 in
      let fresh = not-true (has_entry (entry from seq) s.entries)
      (and_parts (not (has_entry (entry from seq) s.entries)) (nat_le (count_of from s.senders) seq)
      (and_parts (not (has_entry (entry from seq) s.entries) && nat_le (count_of from s.senders) seq) (not (has_sender from s.listed)) lawful.0.listed).0).0 in
      let own = same_sender (Process process) from in
      let none : (own && eqb n seq) ≡ true → has_entry (entry (Process process) n) s.entries ≡ false = λ is.
      let parts = and_parts own (eqb n seq) is in
      (λ i. has_entry (entry (sender-is (Process process) from parts.0 i) (eqb-true n seq parts.1 i)) s.entries) ∙ fresh in
      times-append n (listed_numbers process older) (number_from process from seq)
      ∙ ap (λ t. times n (listed_numbers process older) + t) (alone own n seq)
      ∙ one-more (own && eqb n seq) (has_entry (entry (Process process) n) s.entries) (times n (listed_numbers process older)) none (k.times n);
}

-- so many tasks of a process have a row
many-task : (process : ℕ) (from : Sender) (task : TaskView) (senders : List Sender) (tasks : List TaskView) → count_of (Process process) senders ≡ length tasks
    → count_of (Process process) (from ∷ senders) ≡ length (tasks ++ task_from (Process process) from task)
many-task process from task senders tasks many =
    let cons = sum_by-cons (λ x. cond (same_sender (Process process) x) 1 0) from senders in
    elim (same_sender (Process process) from) as (λ b. count_of (Process process) (from ∷ senders) ≡ cond b 1 0 + count_of (Process process) senders
    → count_of (Process process) (from ∷ senders) ≡ length (tasks ++ cond b (task ∷ []) [])) [
      | true ↦ λ e. let long = length-append tasks (task ∷ []) in omega (arith, e, many, long)
      | false ↦ λ e. let long = length-append tasks [] in omega (arith, e, many, long)
    ] cons

pub many-rows : (port : Opening) (process : ℕ) (history : List Row) → count_of (Process process) (state port history).senders ≡ length (rows_from (Process process) history)
many-rows port process [] = refl
many-rows port process (Handled from seq task outside effects ∷ older) =
    many-task process from task (state port older).senders (rows_from (Process process) older) (many-rows port process older)
many-rows port process (Late from seq task ∷ older) =
    many-task process from task (state port older).senders (rows_from (Process process) older) (many-rows port process older)
many-rows port process (Listed from seq ∷ older) = many-rows port process older
many-rows port process (Resumed from seq word ∷ older) = many-rows port process older
many-rows port process (Mark kind ∷ older) = many-rows port process older

-- the number of one more task, which suspends or doesn't
one-task : (n k t : ℕ) (b : Bool) → (n ≡ k → t ≡ once b) → cond (ltb n k) t 0 + once (b && eqb n k) ≡ cond (ltb n (k + 1)) t 0
one-task n k t b at = ⊎_elim
    (λ (same : n ≡ k). rw (le-ltb n k (omega arith), eq-eqb n k same, lt-ltb n (k + 1) (omega arith)) (let e = at same in elim b as (λ b. t ≡ once b → 0 + once (b && true) ≡ t) [
      | true ↦ λ e. sym e
      | false ↦ λ e. sym e
    ] e))
    (λ apart. ⊎_elim
    (λ (less : n < k). rw (lt-ltb n k less, ne_eqb n k (λ same. omega (arith, same, less)), lt-ltb n (k + 1) (omega arith)) (elim b as (λ b. t + once (b && false) ≡ t) [
      | true ↦ omega arith
      | false ↦ omega arith
    ]))
    (λ (more : k < n). rw (le-ltb n k (omega arith), ne_eqb n k (λ same. omega (arith, same, more)), le-ltb n (k + 1) (omega arith)) (elim b as (λ b. 0 + once (b && false) ≡ 0) [
      | true ↦ omega arith
      | false ↦ omega arith
    ]))
    apart)
    (cases_order n k)

is-suspended : (suspends has : Bool) → (if suspends then has else not has) ≡ true → has ≡ suspends
is-suspended true has is = is
is-suspended false has is = not-true has is

-- the numbers that stand among the places are those below the number of tasks that were listed
abbrev pub AreListed : List TaskView → List ℕ → Type 0
AreListed tasks listed = (n : ℕ) → times n (places 0 tasks) ≡ cond (ltb n (length tasks)) (times n listed) 0

listed-task : (process : ℕ) (s : State) (from : Sender) (seq : ℕ) (task : TaskView) (tasks : List TaskView) (listed : List ℕ) → seq ≡ count_of from s.senders
    → count_of (Process process) s.senders ≡ length tasks → is_listed_right s from seq task ≡ true
    → ((n : ℕ) → times n listed ≡ once (has_entry (entry (Process process) n) s.entries)) → AreListed tasks listed
    → AreListed (tasks ++ task_from (Process process) from task) listed
listed-task process s from seq task tasks listed next many right knows before n =
    elim (same_sender (Process process) from) as (λ b. same_sender (Process process) from ≡ b
    → times n (places 0 (tasks ++ cond b (task ∷ []) [])) ≡ cond (ltb n (length (tasks ++ cond b (task ∷ []) []))) (times n listed) 0) [
      | true ↦ λ own.
          let is = sender-is (Process process) from own in
          let place : seq ≡ length tasks = next ∙ ap (λ f. count_of f s.senders) (sym is) ∙ many in
          let at : n ≡ length tasks → times n listed ≡ once task.suspends = λ same.
          knows n ∙ (λ i. once (has_entry (entry (is i) ((same ∙ sym place) i)) s.entries)) ∙ ap once (is-suspended task.suspends (has_entry (entry from seq) s.entries) right) in
          let long : length (tasks ++ task ∷ []) ≡ length tasks + 1 = length-append tasks (task ∷ []) in
          ap (times n) (places-more tasks task)
          ∙ times-append n (places 0 tasks) (place_of (length tasks) task)
          ∙ (λ i. before n i + alone task.suspends n (length tasks) i)
          ∙ one-task n (length tasks) (times n listed) task.suspends at
          ∙ ap (λ k. cond (ltb n k) (times n listed) 0) (sym long)
      | false ↦ λ _. rw (append-nil tasks) (before n)
    ] refl

listed-later : (own : Bool) (n k seq t u : ℕ) → u ≡ t + once (own && eqb n seq) → (own ≡ true → k ≤ seq) → cond (ltb n k) t 0 ≡ cond (ltb n k) u 0
listed-later own n k seq t u is later = elim (ltb n k) as (λ b. ltb n k ≡ b → cond b t 0 ≡ cond b u 0) [
  | true ↦ λ less. none own is later (ltb-true n k less)
  | false ↦ λ _. refl
] refl
  where
    none : (own : Bool) → u ≡ t + once (own && eqb n seq) → (own ≡ true → k ≤ seq) → n < k → t ≡ u
    none true is later less =
        let le = later refl in
        let e = is ∙ ap (λ b. t + once b) (ne_eqb n seq (λ same. omega (arith, same, le, less))) in omega (arith, e)
    none false is later less = omega (arith, is)

pub are-listed : (port : Opening) (process : ℕ) (history : List Row) → Lawful port history → AreListed (rows_from (Process process) history) (listed_numbers process history)
are-listed port process [] lawful = λ n. elim (ltb n 0) as (λ b. times n [] ≡ cond b (times n []) 0) [
  | true ↦ refl
  | false ↦ refl
]
are-listed port process (Handled from seq task outside effects ∷ older) lawful =
    let s = state port older in
    let k = known port process older lawful.1 in
    listed-task process s from seq task (rows_from (Process process) older) (listed_numbers process older)
    (eqb-true seq (count_of from s.senders) (and_parts (eqb seq (count_of from s.senders)) (may_send from task.signal) lawful.0.order).0)
    (many-rows port process older) lawful.0.listed k.times (are-listed port process older lawful.1)
are-listed port process (Late from seq task ∷ older) lawful =
    let s = state port older in
    let k = known port process older lawful.1 in
    listed-task process s from seq task (rows_from (Process process) older) (listed_numbers process older)
    (eqb-true seq (count_of from s.senders) (and_parts (eqb seq (count_of from s.senders)) (may_send from task.signal) lawful.0.order).0)
    (many-rows port process older) lawful.0.listed k.times (are-listed port process older lawful.1)
are-listed port process (Resumed from seq word ∷ older) lawful = are-listed port process older lawful.1
are-listed port process (Mark kind ∷ older) lawful = are-listed port process older lawful.1
are-listed port process (Listed from seq ∷ older) lawful = λ n.
    let s = state port older in
    let own = same_sender (Process process) from in
    let tasks = rows_from (Process process) older in
    let listed = listed_numbers process older in
    let fresh = not (has_entry (entry from seq) s.entries) in
    let least = leb-true (count_of from s.senders) seq
    (and_parts fresh (nat_le (count_of from s.senders) seq) (and_parts (fresh && nat_le (count_of from s.senders) seq) (not (has_sender from s.listed)) lawful.0.listed).0).1 in
    let later : own ≡ true → length tasks ≤ seq = λ is.
    let many = sym (many-rows port process older) ∙ ap (λ f. count_of f s.senders) (sender-is (Process process) from is) in omega (arith, many, least) in
    are-listed port process older lawful.1 n
    ∙ listed-later own n (length tasks) seq (times n listed) (times n (listed ++ number_from process from seq))
    (times-append n listed (number_from process from seq) ∙ ap (λ t. times n listed + t) (alone own n seq)) later
