-- How the count of the jobs that weren't told done changes.
use Rattle.std.proofs.Common.{◌≡◌, ◌≢◌, ℕ, zero, suc, ◌+◌, ◌-◌, ◌<◌, ◌≤◌, eqb, cond, Bool, true, false, not, ◌||◌, add-one, add-zero, zero-add, List, [], ◌∷◌, ◌++◌, map, length, refl, sym, ap, ◌∙◌, subst, arith, ⊎_elim}
use Rattle.std.specs.Prelude.{nat_lt, if◌then◌else◌}
use Rattle.std.specs.List.{count_by, list_any, range_with_len}
use Rattle.std.specs.Ordering.{nat_cmp}
use Rattle.std.specs.BTreeSet.{BTreeSet, contains, keys}
use Rattle.std.specs.BTreeMap.{is_at}
use Rattle.std.proofs.lemmas.Bool.{cases_eq, eq-eqb, ne_eqb, eqb-true, not-true, not-false}
use Rattle.std.proofs.lemmas.Bool.Decides.{nat_tests}
use Rattle.std.proofs.lemmas.List.Sums.{sum_by_push, sum_by-cons, count_by-le-length}
use Rattle.std.proofs.lemmas.List.FromFn.{length-range_with_len}
use Rattle.port_history.specs.Jobs.{Submitted, is_done, is_submitted}
use Rattle.port_jobs.specs.Jobs.{JobsView, Agrees}
use Rattle.port_jobs.specs.Counted.{IsCounted}

-- a set's test by its order is the test by equality
at-is : (number other : ℕ) → is_at (nat_cmp number) other ≡ eqb other number
at-is number other = grind (arith, nat_tests)

pub has-is_done : (number : ℕ) (told : List ℕ) → list_any (is_at (nat_cmp number)) told ≡ is_done number told
has-is_done number [] = refl
has-is_done number (other ∷ told) = ap (λ b. b || list_any (is_at (nat_cmp number)) told) (at-is number other) ∙ ap (λ b. eqb other number || b) (has-is_done number told)

-- one more number at the end of a range
range-push : (first n last : ℕ) → first + n ≡ last → range_with_len first (suc n) ≡ range_with_len first n ++ last ∷ []
range-push first zero last e = ap (λ k. k ∷ []) (sym (add-zero first) ∙ e)
range-push first (suc n) last e = ap (λ l. first ∷ l) (range-push (first + 1) n last (omega arith))

pub range-more : (n : ℕ) → range_with_len 0 (n + 1) ≡ range_with_len 0 n ++ n ∷ []
range-more n = ap (range_with_len 0) (add-one n) ∙ range-push 0 n n (zero-add n)

counts : Bool → ℕ
counts b = cond b 1 0

count-cons : {X : Type 0} (p : X → Bool) (x : X) (xs : List X) → count_by p (x ∷ xs) ≡ counts (p x) + count_by p xs
unfolding counts
count-cons p x xs = sum_by-cons (λ y. cond (p y) 1 0) x xs

-- tests that agree on the numbers of a range count the same there
count-same : (p q : ℕ → Bool) (first n : ℕ) → ((m : ℕ) → first ≤ m → m < first + n → q m ≡ p m) → count_by q (range_with_len first n) ≡ count_by p (range_with_len first n)
count-same p q first zero same = refl
count-same p q first (suc n) same =
    let rest = count-same p q (first + 1) n (λ m low high. same m (omega arith) (omega arith)) in
    let head = ap counts (same first (omega arith) (omega arith)) in
    omega (arith, rest, head, count-cons p first (range_with_len (first + 1) n), count-cons q first (range_with_len (first + 1) n))

counts-yes : (b : Bool) → b ≡ true → counts b ≡ 1
unfolding counts
counts-yes b e = ap counts e

counts-no : (b : Bool) → b ≡ false → counts b ≡ 0
unfolding counts
counts-no b e = ap counts e

-- of two tests that differ at one number of the range alone, the one that holds there counts one more
count-less : (p q : ℕ → Bool) (k first n : ℕ) → ((m : ℕ) → m ≢ k → q m ≡ p m) → p k ≡ true → q k ≡ false → first ≤ k → k < first + n
    → count_by q (range_with_len first n) + 1 ≡ count_by p (range_with_len first n)
count-less p q k first zero same holds fails low high = absurd (omega arith)
count-less p q k first (suc n) same holds fails low high = ⊎_elim
    (λ (here : first ≡ k).
    let rest = count-same p q (first + 1) n (λ m low' high'. same m (λ e. omega arith)) in
    let one = counts-yes (p first) (ap p here ∙ holds) in
    let none = counts-no (q first) (ap q here ∙ fails) in
    omega (arith, rest, one, none, count-cons p first (range_with_len (first + 1) n), count-cons q first (range_with_len (first + 1) n)))
    (λ (there : first ≢ k).
    let rest = count-less p q k (first + 1) n same holds fails (omega arith) (omega arith) in
    let head = ap counts (same first there) in
    omega (arith, rest, head, count-cons p first (range_with_len (first + 1) n), count-cons q first (range_with_len (first + 1) n)))
    (cases_eq first k)

-- which numbers are told done once one more is
abbrev pub AddsTold : ℕ → List ℕ → List ℕ → Type 0
AddsTold k old new = (m : ℕ) → is_done m new ≡ (eqb k m || is_done m old)

other-told : (k m : ℕ) (b : Bool) → m ≢ k → not (eqb k m || b) ≡ not b
other-told k m b differ = ap (λ t. not (t || b)) (ne_eqb k m (λ e. differ (sym e)))

-- a submitted job that wasn't told done is told done
pub counted-told : (submitted waiting k : ℕ) (old new : List ℕ) → IsCounted submitted old waiting → AddsTold k old new → is_done k old ≡ false → k < submitted
    → IsCounted submitted new (waiting - 1) × (1 ≤ waiting)
counted-told submitted waiting k old new is adds fresh below =
    let less = count-less (λ m. not (is_done m old)) (λ m. not (is_done m new)) k 0 submitted
    (λ m differ. ap not (adds m) ∙ other-told k m (is_done m old) differ)
    (ap not fresh) (ap not (adds k) ∙ ap (λ t. not (t || is_done k old)) (eq-eqb k k refl)) (omega arith) (omega arith) in
    (omega (arith, less, is), omega (arith, less, is))

or-known : (a b : Bool) → (a ≡ true → b ≡ true) → (a || b) ≡ b
or-known true b known = sym (known refl)
or-known false b known = refl

-- a job that wasn't submitted yet is told done, or one that was told before
pub counted-other : (submitted waiting k : ℕ) (old new : List ℕ) → IsCounted submitted old waiting → AddsTold k old new → ((m : ℕ) → m < submitted → eqb k m ≡ true → is_done m old ≡ true)
    → IsCounted submitted new waiting
counted-other submitted waiting k old new is adds other =
    is ∙ sym (count-same (λ m. not (is_done m old)) (λ m. not (is_done m new)) 0 submitted
    (λ m low high. ap not (adds m ∙ or-known (eqb k m) (is_done m old) (other m (omega arith)))))

-- one more job is submitted
pub counted-more : (submitted waiting : ℕ) (told : List ℕ) → IsCounted submitted told waiting → IsCounted (submitted + 1) told (waiting + cond (not (is_done submitted told)) 1 0)
counted-more submitted waiting told is =
    ap (λ n. n + cond (not (is_done submitted told)) 1 0) is
    ∙ sym (ap (count_by (λ m. not (is_done m told))) (range-more submitted)
    ∙ sum_by_push (λ m. cond (not (is_done m told)) 1 0) (range_with_len 0 submitted) submitted)

count-map : (p : ℕ → Bool) (jobs : List Submitted) → count_by (λ (job : Submitted). p job.number) jobs ≡ count_by p (map (λ (job : Submitted). job.number) jobs)
count-map p [] = refl
count-map p (job ∷ jobs) =
    let rest = count-map p jobs in
    omega (arith, rest, count-cons (λ (other : Submitted). p other.number) job jobs, count-cons p job.number (map (λ (other : Submitted). other.number) jobs))

count-told : (told done : List ℕ) (numbers : List ℕ) → ((m : ℕ) → is_done m told ≡ is_done m done) → count_by (λ m. not (is_done m told)) numbers ≡ count_by (λ m. not (is_done m done)) numbers
count-told told done [] same = refl
count-told told done (m ∷ numbers) same =
    let head = ap (λ b. counts (not b)) (same m) in
    let rest = count-told told done numbers same in
    omega (arith, head, rest, count-cons (λ n. not (is_done n told)) m numbers, count-cons (λ n. not (is_done n done)) m numbers)

-- what is kept agrees with a history where its count, its numbers and what was told do
pub agrees : (view : JobsView) (jobs : List Submitted) (done : List ℕ) → IsCounted view.submitted view.told view.waiting → view.submitted ≡ length jobs
    → map (λ (job : Submitted). job.number) jobs ≡ range_with_len 0 (length jobs) → ((m : ℕ) → is_done m view.told ≡ is_done m done) → Agrees view jobs done
agrees view jobs done counted count numbers told = record {
  count = count;
  numbers = numbers;
  told = told;
  waiting = counted ∙ (count-told view.told done (range_with_len 0 view.submitted) told
      ∙ (ap (λ n. count_by (λ m. not (is_done m done)) (range_with_len 0 n)) count
      ∙ (ap (count_by (λ m. not (is_done m done))) (sym numbers) ∙ sym (count-map (λ m. not (is_done m done)) jobs))));
}

any-map : (p : ℕ → Bool) (jobs : List Submitted) → list_any (λ (job : Submitted). p job.number) jobs ≡ list_any p (map (λ (job : Submitted). job.number) jobs)
any-map p [] = refl
any-map p (job ∷ jobs) = ap (λ b. p job.number || b) (any-map p jobs)

any-range : (number first n : ℕ) → list_any (λ m. eqb m number) (range_with_len first n) ≡ (if nat_lt number first then false else nat_lt number (first + n))
any-range number first zero = grind (arith, nat_tests)
any-range number first (suc n) = rw (any-range number (first + 1) n) (grind (arith, nat_tests))

-- which numbers were submitted
pub submitted-below : (view : JobsView) (jobs : List Submitted) (done : List ℕ) → Agrees view jobs done → (number : ℕ) → nat_lt number view.submitted ≡ is_submitted number jobs
submitted-below view jobs done is number =
    ap (nat_lt number) is.count
    ∙ sym (any-map (λ m. eqb m number) jobs ∙ (ap (list_any (λ m. eqb m number)) is.numbers ∙ (any-range number 0 (length jobs) ∙ grind (arith, nat_tests))))

-- at most all wait
pub counted-le : (submitted waiting : ℕ) (told : List ℕ) → IsCounted submitted told waiting → waiting ≤ submitted
counted-le submitted waiting told is = omega (arith, is, count_by-le-length (λ m. not (is_done m told)) (range_with_len 0 submitted), length-range_with_len 0 submitted)

cond-or : (b other : Bool) → cond b true other ≡ (b || other)
cond-or true other = refl
cond-or false other = refl

eqb-turned : (a b : ℕ) → eqb a b ≡ eqb b a
eqb-turned a b = grind (arith, nat_tests)

-- a number went into the set of those that were told done
pub adds-told : (k : ℕ) (old new : BTreeSet ℕ) → ((q : ℕ) → contains nat_cmp new q ≡ cond (is_at (nat_cmp k) q) true (contains nat_cmp old q)) → AddsTold k (keys old) (keys new)
adds-told k old new updates m =
    sym (has-is_done m (keys new))
    ∙ (updates m ∙ (cond-or (is_at (nat_cmp k) m) (contains nat_cmp old m)
    ∙ (ap (λ b. b || contains nat_cmp old m) (at-is k m ∙ eqb-turned m k) ∙ ap (λ b. eqb k m || b) (has-is_done m (keys old)))))

-- what inserting a number tells of those that were told done before
pub was-fresh : (k : ℕ) (old : BTreeSet ℕ) (added : Bool) → added ≡ not (contains nat_cmp old k) → added ≡ true → is_done k (keys old) ≡ false
was-fresh k old added is fresh = sym (has-is_done k (keys old)) ∙ not-true (contains nat_cmp old k) (sym is ∙ fresh)

pub was-known : (k : ℕ) (old : BTreeSet ℕ) (added : Bool) → added ≡ not (contains nat_cmp old k) → added ≡ false → is_done k (keys old) ≡ true
was-known k old added is known = sym (has-is_done k (keys old)) ∙ not-false (contains nat_cmp old k) (sym is ∙ known)

pub counted-late : (submitted waiting k : ℕ) (old new : List ℕ) → IsCounted submitted old waiting → AddsTold k old new → submitted ≤ k → IsCounted submitted new waiting
counted-late submitted waiting k old new is adds late = counted-other submitted waiting k old new is adds (λ m low same. absurd (omega (arith, eqb-true k m same)))

pub counted-known : (submitted waiting k : ℕ) (old new : List ℕ) → IsCounted submitted old waiting → AddsTold k old new → is_done k old ≡ true → IsCounted submitted new waiting
counted-known submitted waiting k old new is adds known = counted-other submitted waiting k old new is adds (λ m low same. subst (λ n. is_done n old ≡ true) (eqb-true k m same) known)

-- a job is submitted that wasn't told done, or that was
pub counted-waits : (submitted waiting : ℕ) (told : List ℕ) → IsCounted submitted told waiting → is_done submitted told ≡ false → IsCounted (submitted + 1) told (waiting + 1)
counted-waits submitted waiting told is fresh = subst (λ b. IsCounted (submitted + 1) told (waiting + cond (not b) 1 0)) fresh (counted-more submitted waiting told is)

pub counted-before : (submitted waiting : ℕ) (told : List ℕ) → IsCounted submitted told waiting → is_done submitted told ≡ true → IsCounted (submitted + 1) told waiting
counted-before submitted waiting told is known = subst (λ n. IsCounted (submitted + 1) told n) (add-zero waiting) (subst (λ b. IsCounted (submitted + 1) told (waiting + cond (not b) 1 0)) known (counted-more submitted waiting told is))
