-- Jobs whose numbers rise along a list, and those that a worker gets of them.
use Rattle.std.proofs.Common.{◌≡◌, ℕ, ◌+◌, ◌≤◌, cond, Bool, true, false, List, [], ◌∷◌, ◌++◌, length, map, refl, sym, ap, ◌∙◌, subst, inl, inr, arith, ◌⊎◌}
use Rattle.std.specs.List.{filter, range_with_len}
use Rattle.port_history.specs.Jobs.{Submitted}

-- the job is among these
abbrev pub In : {X : Type 0} → X → List X → Type 0
In x [] = ⊥
In x (y ∷ ys) = (x ≡ y) ⊎ In x ys

-- the number of each is at least so much
abbrev pub From : ℕ → List Submitted → Type 0
From least [] = Unit {0}
From least (job ∷ jobs) = (least ≤ job.number) × From least jobs

-- the numbers rise
abbrev pub Rising : List Submitted → Type 0
Rising [] = Unit {0}
Rising (job ∷ jobs) = From (job.number + 1) jobs × Rising jobs

pub in-front : {X : Type 0} (x : X) (xs ys : List X) → In x xs → In x (xs ++ ys)
in-front x [] ys i = absurd i
in-front x (y ∷ xs) ys (inl same) = inl same
in-front x (y ∷ xs) ys (inr i) = inr (in-front x xs ys i)

pub in-behind : {X : Type 0} (x : X) (xs ys : List X) → In x ys → In x (xs ++ ys)
in-behind x [] ys i = i
in-behind x (y ∷ xs) ys i = inr (in-behind x xs ys i)

pub in-parts : {X : Type 0} (x : X) (xs ys : List X) → In x (xs ++ ys) → In x xs ⊎ In x ys
in-parts x [] ys i = inr i
in-parts x (y ∷ xs) ys (inl same) = inl (inl same)
in-parts x (y ∷ xs) ys (inr i) = elim (in-parts x xs ys i) [
  | inl a ↦ inl (inr a)
  | inr b ↦ inr b
]

from-in : (least : ℕ) (job : Submitted) (jobs : List Submitted) → From least jobs → In job jobs → least ≤ job.number
from-in least job [] from i = absurd i
from-in least job (other ∷ jobs) from (inl same) = let at : job.number ≡ other.number = ap (λ j. j.number) same in let h = from.0 in omega (arith, at, h)
from-in least job (other ∷ jobs) from (inr i) = from-in least job jobs from.1 i

from-less : (least less : ℕ) (jobs : List Submitted) → less ≤ least → From least jobs → From less jobs
from-less least less [] le from = tt
from-less least less (job ∷ jobs) le from = (let h = from.0 in omega (arith, le, h), from-less least less jobs le from.1)

-- two of one number are one
pub same-job : (job other : Submitted) (jobs : List Submitted) → Rising jobs → In job jobs → In other jobs → job.number ≡ other.number → job ≡ other
same-job job other [] rising i j same = absurd i
same-job job other (x ∷ jobs) rising (inl a) (inl b) same = a ∙ sym b
same-job job other (x ∷ jobs) rising (inl a) (inr j) same =
    absurd (let more = from-in (x.number + 1) other jobs rising.0 j in let at : job.number ≡ x.number = ap (λ k. k.number) a in omega (arith, more, at, same))
same-job job other (x ∷ jobs) rising (inr i) (inl b) same =
    absurd (let more = from-in (x.number + 1) job jobs rising.0 i in let at : other.number ≡ x.number = ap (λ k. k.number) b in omega (arith, more, at, same))
same-job job other (x ∷ jobs) rising (inr i) (inr j) same = same-job job other jobs rising.1 i j same

-- those in front of a job have smaller numbers
pub less-in-front : (job other : Submitted) (front behind : List Submitted) → Rising (front ++ job ∷ behind) → In other front → other.number + 1 ≤ job.number
less-in-front job other [] behind rising i = absurd i
less-in-front job other (x ∷ front) behind rising (inl same) =
    let more = from-in (x.number + 1) job (front ++ job ∷ behind) rising.0 (in-behind job front (job ∷ behind) (inl refl)) in
    let at : other.number ≡ x.number = ap (λ k. k.number) same in omega (arith, more, at)
less-in-front job other (x ∷ front) behind rising (inr i) = less-in-front job other front behind rising.1 i

from-filter : (p : Submitted → Bool) (least : ℕ) (jobs : List Submitted) → From least jobs → From least (filter p jobs)
from-filter p least [] from = tt
from-filter p least (job ∷ jobs) from = elim (p job) as (λ b. From least (cond b (job ∷ filter p jobs) (filter p jobs))) [
  | true ↦ (from.0, from-filter p least jobs from.1)
  | false ↦ from-filter p least jobs from.1
]

pub rising-filter : (p : Submitted → Bool) (jobs : List Submitted) → Rising jobs → Rising (filter p jobs)
rising-filter p [] rising = tt
rising-filter p (job ∷ jobs) rising = elim (p job) as (λ b. Rising (cond b (job ∷ filter p jobs) (filter p jobs))) [
  | true ↦ (from-filter p (job.number + 1) jobs rising.0, rising-filter p jobs rising.1)
  | false ↦ rising-filter p jobs rising.1
]

pub in-filter : (p : Submitted → Bool) (job : Submitted) (jobs : List Submitted) → In job (filter p jobs) → In job jobs × (p job ≡ true)
in-filter p job [] i = absurd i
in-filter p job (x ∷ jobs) i = elim (p x) as (λ b. p x ≡ b → In job (cond b (x ∷ filter p jobs) (filter p jobs)) → In job (x ∷ jobs) × (p job ≡ true)) [
  | true ↦ λ yes. λ j. elim j [
    | inl same ↦ (inl same, ap p same ∙ yes)
    | inr k ↦ let h = in-filter p job jobs k in (inr h.0, h.1)
  ]
  | false ↦ λ no. λ j. let h = in-filter p job jobs j in (inr h.0, h.1)
] refl i

pub in-filtered : (p : Submitted → Bool) (job : Submitted) (jobs : List Submitted) → In job jobs → p job ≡ true → In job (filter p jobs)
in-filtered p job [] i passes = absurd i
in-filtered p job (x ∷ jobs) (inl same) passes =
    subst (λ b. In job (cond b (x ∷ filter p jobs) (filter p jobs))) (sym passes ∙ ap p same) (inl same)
in-filtered p job (x ∷ jobs) (inr i) passes = elim (p x) as (λ b. In job (cond b (x ∷ filter p jobs) (filter p jobs))) [
  | true ↦ inr (in-filtered p job jobs i passes)
  | false ↦ in-filtered p job jobs i passes
]

from-numbered : (first least : ℕ) (jobs : List Submitted) → map (λ job. job.number) jobs ≡ range_with_len first (length jobs) → least ≤ first → From least jobs
from-numbered first least [] numbered le = tt
from-numbered first least (job ∷ jobs) numbered le =
    let at : job.number ≡ first = cc in
    let rest : map (λ job. job.number) jobs ≡ range_with_len (first + 1) (length jobs) = cc in
    (omega (arith, at, le), from-numbered (first + 1) least jobs rest (omega (arith, le)))

-- jobs that are numbered one after another
pub rising-numbered : (first : ℕ) (jobs : List Submitted) → map (λ job. job.number) jobs ≡ range_with_len first (length jobs) → Rising jobs
rising-numbered first [] numbered = tt
rising-numbered first (job ∷ jobs) numbered =
    let at : job.number ≡ first = cc in
    let rest : map (λ job. job.number) jobs ≡ range_with_len (first + 1) (length jobs) = cc in
    (from-numbered (first + 1) (job.number + 1) jobs rest (omega (arith, at)), rising-numbered (first + 1) jobs rest)
