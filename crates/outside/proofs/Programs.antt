-- What programs of memory give, as they are given more and as chunks are begun.
use Rattle.std.proofs.Common.{◌≡◌, ℕ, zero, suc, ◌+◌, ◌<◌, ◌≤◌, Bool, true, false, List, [], ◌∷◌, ◌++◌, length, take, drop, Option, None, Some, ℤ, cond, nat_lt, IsSome, IfSome, is_some, inl, inr, ◌⊎◌, slice_index_or, leb, refl, sym, ap, ◌∙◌, arith}
use Rattle.std.proofs.lemmas.Bool.{ltb-true, ltb-false, le-ltb, lt-ltb, le-leb, lt-leb}
use Rattle.std.proofs.lemmas.List.{append_assoc, append-nil, drop-drop}
use Rattle.outside.specs.declared.chunk.Chunk.{Chunk}
use Rattle.outside.specs.declared.chunk.Ending.{Ending}
use Rattle.outside.specs.Children.{Stand, GoesOn}
use Rattle.outside.specs.Programs.{ready, ended, upcoming}

-- what waits for no more at a count waits for no more at a later one
later : (given more need : ℕ) → given ≤ more → nat_lt given need ≡ false → nat_lt more need ≡ false
later given more need grows met = le-ltb more need (let enough = ltb-false given need met in omega (arith, grows, enough))

-- what a program has to give stays in front as it is given more
pub ready-more : (given more : ℕ) (chunks : List Chunk) → given ≤ more → (rest : List ℕ) × (ready more chunks ≡ ready given chunks ++ rest)
ready-more given more [] grows = ([], refl)
ready-more given more (chunk ∷ chunks) grows =
    elim (nat_lt given chunk.need) as (λ b. nat_lt given chunk.need ≡ b → (rest : List ℕ) × (ready more (chunk ∷ chunks) ≡ cond b [] (chunk.bytes.items ++ ready given chunks) ++ rest)) [
      | true ↦ λ unmet. (ready more (chunk ∷ chunks), refl)
      | false ↦ λ met.
          let (rest, same) = ready-more given more chunks grows in
          (rest, rw (later given more chunk.need grows met, same) (sym (append_assoc chunk.bytes.items (ready given chunks) rest)))
    ] refl

-- nothing comes once the output has ended
pub ended-more : (given more : ℕ) (chunks : List Chunk) (ending : Option Ending) → given ≤ more → IsSome (ended given chunks ending)
    → (ready more chunks ≡ ready given chunks) × (ended more chunks ending ≡ ended given chunks ending)
ended-more given more [] None grows some = (refl, refl)
ended-more given more [] (Some ending) grows some =
    elim (nat_lt given ending.need) as (λ b. nat_lt given ending.need ≡ b → IsSome (cond b None (Some ending.status))
    → (ready more [] ≡ ready given []) × (ended more [] (Some ending) ≡ cond b None (Some ending.status))) [
      | true ↦ λ unmet none. absurd (cc)
      | false ↦ λ met some. (refl, rw (later given more ending.need grows met) refl)
    ] refl some
ended-more given more (chunk ∷ chunks) ending grows some =
    elim (nat_lt given chunk.need) as (λ b. nat_lt given chunk.need ≡ b → IsSome (cond b None (ended given chunks ending))
    → (ready more (chunk ∷ chunks) ≡ cond b [] (chunk.bytes.items ++ ready given chunks)) × (ended more (chunk ∷ chunks) ending ≡ cond b None (ended given chunks ending))) [
      | true ↦ λ unmet none. absurd (cc)
      | false ↦ λ met some.
          let (same, still) = ended-more given more chunks ending grows some in
          (rw (later given more chunk.need grows met, same) refl, rw (later given more chunk.need grows met) still)
    ] refl some

-- an output that has ended has the status of the end
pub ended-status : (given : ℕ) (chunks : List Chunk) (ending : Ending) → IsSome (ended given chunks (Some ending)) → ended given chunks (Some ending) ≡ Some ending.status
ended-status given [] ending some =
    elim (nat_lt given ending.need) as (λ b. IsSome (cond b None (Some ending.status)) → cond b None (Some ending.status) ≡ Some ending.status) [
      | true ↦ λ none. absurd (cc)
      | false ↦ λ some. refl
    ] some
ended-status given (chunk ∷ chunks) ending some =
    elim (nat_lt given chunk.need) as (λ b. IsSome (cond b None (ended given chunks (Some ending))) → cond b None (ended given chunks (Some ending)) ≡ Some ending.status) [
      | true ↦ λ none. absurd (cc)
      | false ↦ λ some. ended-status given chunks ending some
    ] some

-- whether the next chunk is ready
pub has-next : (given : ℕ) (chunks : List Chunk) (chunk : Chunk) → 0 < length chunks → chunk ≡ slice_index_or chunks 0 chunk
    → leb chunk.need given ≡ nat_lt 0 (length (upcoming given chunks))
has-next given [] chunk some is = absurd (omega (arith, some))
has-next given (first ∷ rest) chunk some is = rw is (
    elim (nat_lt given first.need) as (λ b. nat_lt given first.need ≡ b → leb first.need given ≡ nat_lt 0 (length (cond b [] first.bytes.items))) [
      | true ↦ λ unmet. lt-leb first.need given (ltb-true given first.need unmet)
      | false ↦ λ met. (le-leb first.need given (ltb-false given first.need met)) ∙ sym (lt-ltb 0 (length first.bytes.items) first.some)
    ] refl)

-- a chunk holds some byte
has_bytes : (chunk : Chunk) → chunk.bytes.items ≡ [] → ⊥
has_bytes chunk none = let some = chunk.some in absurd (omega (arith, some, ap length none))

-- where no chunk is ready, nothing is
pub ready-nothing : (given : ℕ) (chunks : List Chunk) → upcoming given chunks ≡ [] → ready given chunks ≡ []
ready-nothing given [] none = refl
ready-nothing given (chunk ∷ chunks) none =
    elim (nat_lt given chunk.need) as (λ b. cond b [] chunk.bytes.items ≡ [] → cond b [] (chunk.bytes.items ++ ready given chunks) ≡ []) [
      | true ↦ λ h. refl
      | false ↦ λ h. absurd (has_bytes chunk h)
    ] none

-- and where chunks are left then, the output hasn't ended
pub ended-nothing : (given : ℕ) (chunks : List Chunk) (ending : Option Ending) → upcoming given chunks ≡ [] → 0 < length chunks → ended given chunks ending ≡ None
ended-nothing given [] ending none some = absurd (omega (arith, some))
ended-nothing given (chunk ∷ chunks) ending none some =
    elim (nat_lt given chunk.need) as (λ b. cond b [] chunk.bytes.items ≡ [] → cond b None (ended given chunks ending) ≡ None) [
      | true ↦ λ h. refl
      | false ↦ λ h. absurd (has_bytes chunk h)
    ] none

-- a program without an end doesn't end
pub ended-never : (given : ℕ) (chunks : List Chunk) → ended given chunks None ≡ None
ended-never given [] = refl
ended-never given (chunk ∷ chunks) = rw (ended-never given chunks) (elim (nat_lt given chunk.need) as (λ b. cond {A = Option ℤ} b None None ≡ None) [ true ↦ refl | false ↦ refl ])

-- to begin a chunk that is ready changes nothing of what comes
pub ready-begin : (given : ℕ) (chunk : Chunk) (chunks : List Chunk) → nat_lt 0 (length (upcoming given (chunk ∷ chunks))) ≡ true
    → (chunk.bytes.items ++ ready given chunks ≡ ready given (chunk ∷ chunks)) × (chunk.bytes.items ≡ upcoming given (chunk ∷ chunks))
ready-begin given chunk chunks some =
    elim (nat_lt given chunk.need) as (λ b. nat_lt 0 (length (cond b [] chunk.bytes.items)) ≡ true
    → (chunk.bytes.items ++ ready given chunks ≡ cond b [] (chunk.bytes.items ++ ready given chunks)) × (chunk.bytes.items ≡ cond b [] chunk.bytes.items)) [
      | true ↦ λ h. absurd (cc)
      | false ↦ λ h. (refl, refl)
    ] some

pub ended-begin : (given : ℕ) (chunk : Chunk) (chunks : List Chunk) (ending : Option Ending) → nat_lt 0 (length (upcoming given (chunk ∷ chunks))) ≡ true
    → ended given chunks ending ≡ ended given (chunk ∷ chunks) ending
ended-begin given chunk chunks ending some =
    elim (nat_lt given chunk.need) as (λ b. nat_lt 0 (length (cond b [] chunk.bytes.items)) ≡ true → ended given chunks ending ≡ cond b None (ended given chunks ending)) [
      | true ↦ λ h. absurd (cc)
      | false ↦ λ h. refl
    ] some

-- to begin a chunk that is ready leaves how the program stands
pub stands-begin : (takes : Bool) (given : ℕ) (chunk : Chunk) (chunks : List Chunk) (ending : Option Ending) → nat_lt 0 (length (upcoming given (chunk ∷ chunks))) ≡ true
    → (let now : Stand = record { gives = chunk.bytes.items ++ ready given chunks; takes = takes; ended = ended given chunks ending } in
    let was : Stand = record { gives = ready given (chunk ∷ chunks); takes = takes; ended = ended given (chunk ∷ chunks) ending } in now ≡ was)
stands-begin takes given chunk chunks ending some =
    rw (← (ready-begin given chunk chunks some).0, ← ended-begin given chunk chunks ending some) refl

-- a list that is not longer than nothing is empty
pub nothing-left : {X : Type 0} (xs : List X) → nat_lt 0 (length xs) ≡ false → xs ≡ []
nothing-left [] none = refl
nothing-left (x ∷ xs) none = absurd (let short = ltb-false 0 (length (x ∷ xs)) none in omega (arith, short))

-- whether an output has ended, where no chunk is ready
pub ended-none : (given : ℕ) (chunks : List Chunk) (ending : Option Ending) → upcoming given chunks ≡ [] → (0 < length chunks) ⊎ (ending ≡ None) → false ≡ is_some (ended given chunks ending)
ended-none given chunks ending nothing (inl some) = rw (ended-nothing given chunks ending nothing some) refl
ended-none given chunks ending nothing (inr none) = rw (none, ended-never given chunks) refl

pub ended-last : (given : ℕ) (chunks : List Chunk) (ending : Ending) → chunks ≡ [] → leb ending.need given ≡ is_some (ended given chunks (Some ending))
ended-last given chunks ending empty = rw empty (
    elim (nat_lt given ending.need) as (λ b. nat_lt given ending.need ≡ b → leb ending.need given ≡ is_some (cond b None (Some ending.status))) [
      | true ↦ λ unmet. lt-leb ending.need given (ltb-true given ending.need unmet)
      | false ↦ λ met. le-leb ending.need given (ltb-false given ending.need met)
    ] refl)

still-ended : (begun : List ℕ) (given more : ℕ) (chunks : List Chunk) (ending : Option Ending) (o : Option ℤ) → ended given chunks ending ≡ o → given ≤ more
    → IfSome o (λ status. (begun ++ ready more chunks ≡ begun ++ ready given chunks) × (ended more chunks ending ≡ Some status))
still-ended begun given more chunks ending None is grows = tt
still-ended begun given more chunks ending (Some status) is grows =
    let (same, still) = ended-more given more chunks ending grows (rw is refl) in (rw same refl, still ∙ is)

-- a program that is given more goes on
pub given-more : (begun : List ℕ) (takes : Bool) (given more : ℕ) (chunks : List Chunk) (ending : Option Ending) → given ≤ more
    → GoesOn (record { gives = begun ++ ready given chunks; takes = takes; ended = ended given chunks ending }) (record { gives = begun ++ ready more chunks; takes = takes; ended = ended more chunks ending })
given-more begun takes given more chunks ending grows = record {
  gives = let (rest, same) = ready-more given more chunks grows in (rest, rw same (sym (append_assoc begun (ready given chunks) rest)));
  ended = still-ended begun given more chunks ending (ended given chunks ending) refl grows;
}

-- a program that stays goes on
same-end : (gives : List ℕ) (o : Option ℤ) → IfSome o (λ status. (gives ≡ gives) × (o ≡ Some status))
same-end gives None = tt
same-end gives (Some status) = (refl, refl)

pub goes-on-same : (stand : Stand) → GoesOn stand stand
goes-on-same stand = record { gives = ([], sym (append-nil stand.gives)); ended = same-end stand.gives stand.ended }

-- what isn't there is None
pub none-of : (o : Option ℤ) → is_some o ≡ false → o ≡ None
none-of None absent = refl
none-of (Some status) absent = absurd (cc)

pub dropped-some : (xs : List ℕ) (n : ℕ) → n < length xs → drop n xs ≡ [] → ⊥
dropped-some [] n within none = absurd (omega (arith, within))
dropped-some (x ∷ xs) zero within none = absurd (let l = ap length none in omega (arith, l))
dropped-some (x ∷ xs) (suc n) within none = dropped-some xs n (omega (arith, within)) none

pub dropped-all : (xs : List ℕ) (n : ℕ) → length xs ≤ n → drop n xs ≡ []
dropped-all [] zero past = refl
dropped-all [] (suc n) past = refl
dropped-all (x ∷ xs) zero past = absurd (omega (arith, past))
dropped-all (x ∷ xs) (suc n) past = dropped-all xs n (omega (arith, past))

-- what is taken and dropped of a front
pub front : (rest tail : List ℕ) (count : ℕ) → count ≤ length rest
    → (length (take count rest) ≡ count) × (take count (rest ++ tail) ≡ take count rest) × (drop count (rest ++ tail) ≡ drop count rest ++ tail)
front rest tail zero within = (refl, refl, refl)
front [] tail (suc count) within = absurd (omega (arith, within))
front (x ∷ rest) tail (suc count) within =
    let (len, taken, left) = front rest tail count (omega (arith, within)) in (ap suc len, ap (λ xs. x ∷ xs) taken, left)

-- a program without an end isn't over
pub never-over : (given : ℕ) (chunks : List Chunk) (ending : Option Ending) → ending ≡ None → IsSome (ended given chunks ending) → ⊥
never-over given chunks ending none some = let over : IsSome {T = ℤ} None = rw (none, ended-never given chunks) at some in absurd (cc)

-- what is dropped in two steps
pub dropped-more : (xs : List ℕ) (first more : ℕ) → drop (first + more) xs ≡ drop more (drop first xs)
dropped-more xs first more = sym (drop-drop more first xs)
