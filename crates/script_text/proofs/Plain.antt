-- The bytes of a text that stand for themselves, in a run.
use Rattle.std.proofs.Common.{◌≡◌, ℕ, zero, suc, ◌+◌, ◌-◌, ◌<◌, ◌≤◌, false, List, [], ◌∷◌, ◌++◌, length, take, drop, get_or, Option, Some, None, refl, sym, ap, ◌∙◌, arith, inl, inr, append_assoc}
use Rattle.std.specs.Prelude.{All, ◌==◌}
use Rattle.std.proofs.lemmas.Bool.{cases_Bool, or_parts}
use Rattle.std.proofs.lemmas.List.{get_or-take, length-take-le, take-append-drop, length-append}
use Rattle.std.proofs.lemmas.List.Elements.{All-from_get_or}
use Rattle.memchr.specs.Find.{Nowhere, Passes, is_byte2}
use Rattle.script_text.specs.Reading.{◌>>=◌, byte_at, content_at}
use Rattle.script_text.proofs.Turns.{with_front}

-- neither a quote nor a backslash
abbrev pub IsPlain : ℕ → Type 0
IsPlain byte = is_byte2 34 92 byte ≡ false

-- no byte of the front passes
pub plain_before : (bytes : List ℕ) (n : ℕ) → n ≤ length bytes → Nowhere (Passes (is_byte2 34 92) bytes) 0 n → All IsPlain (take n bytes)
plain_before bytes n le nowhere =
    All-from_get_or IsPlain (take n bytes) 0 (λ i lt.
    let within : i < n = omega (arith, lt, length-take-le n bytes le) in
    let same : get_or (take n bytes) i 0 ≡ get_or bytes i 0 = get_or-take n bytes i 0 within in
    elim (cases_Bool (is_byte2 34 92 (get_or bytes i 0))) [
      | inl e ↦ absurd (nowhere i (omega arith) within e)
      | inr e ↦ rw same e
    ])

plain-head : (byte : ℕ) (plain : List ℕ) → All IsPlain (byte ∷ plain) → IsPlain byte
plain-head byte plain all = all 0 0 (omega arith)

plain-tail : (byte : ℕ) (plain : List ℕ) → All IsPlain (byte ∷ plain) → All IsPlain plain
plain-tail byte plain all = λ k d lt. all (suc k) d (omega (arith, lt))

pub with_front-none : {A : Type 0} (read : Option (List A × List ℕ)) → with_front [] read ≡ read
with_front-none (Some x) = refl
with_front-none None = refl

with_front-more : {A : Type 0} (x : A) (front : List A) (read : Option (List A × List ℕ)) → (with_front front read >>= λ y. Some (x ∷ y.0, y.1)) ≡ with_front (x ∷ front) read
with_front-more x front (Some y) = refl
with_front-more x front None = refl

with_front-twice : {A : Type 0} (front more : List A) (read : Option (List A × List ℕ)) → with_front front (with_front more read) ≡ with_front (front ++ more) read
with_front-twice front more (Some y) = ap (λ (xs : List _). Some (xs, y.1)) (simp append_assoc)
with_front-twice front more None = refl

-- one byte that stands for itself
content-plain : (n byte : ℕ) (bytes : List ℕ) → IsPlain byte → content_at (suc n) (byte ∷ bytes) ≡ (content_at n bytes >>= λ others. Some (byte ∷ others.0, others.1))
unfolding content_at byte_at
content-plain n byte bytes plain =
    let p = or_parts (byte == 34) (byte == 92) plain in
    rw (p.0, p.1) refl

-- a run of them
content-run : (plain behind : List ℕ) (n : ℕ) → All IsPlain plain → content_at (length plain + n) (plain ++ behind) ≡ with_front plain (content_at n behind)
content-run [] behind n all = let none : 0 + n ≡ n = omega arith in rw none (sym (with_front-none (content_at n behind)))
content-run (byte ∷ plain) behind n all =
    let one : suc (length plain) + n ≡ suc (length plain + n) = omega arith in
    rw (one, content-plain (length plain + n) byte (plain ++ behind) (plain-head byte plain all), content-run plain behind n (plain-tail byte plain all)) (with_front-more byte plain (content_at n behind))

-- a run that is too long
content-long : (plain behind : List ℕ) (n : ℕ) → All IsPlain plain → n ≤ length plain → content_at n (plain ++ behind) ≡ None
unfolding content_at
content-long plain behind zero all le = refl
content-long [] behind (suc n) all le = absurd (omega (arith, le))
content-long (byte ∷ plain) behind (suc n) all le =
    rw (content-plain n byte (plain ++ behind) (plain-head byte plain all), content-long plain behind n (plain-tail byte plain all) (omega (arith, le))) refl

-- a run is taken
pub run_goes_on : (front : List ℕ) (n k : ℕ) (bytes rest : List ℕ) → k ≤ length rest → All IsPlain (take k rest) → length front + k ≤ n
    → with_front front (content_at (n - length front) rest) ≡ content_at n bytes → with_front (front ++ take k rest) (content_at (n - (length front + k)) (drop k rest)) ≡ content_at n bytes
run_goes_on front n k bytes rest within all le so_far =
    let len : length (take k rest) ≡ k = length-take-le k rest within in
    let left : n - length front ≡ length (take k rest) + (n - (length front + k)) = omega (arith, len, le) in
    let parts : rest ≡ take k rest ++ drop k rest = sym (take-append-drop k rest) in
    let run = content-run (take k rest) (drop k rest) (n - (length front + k)) all in
    let read : content_at (n - length front) rest ≡ with_front (take k rest) (content_at (n - (length front + k)) (drop k rest)) =
    ap (λ (xs : List ℕ). content_at (n - length front) xs) parts ∙ ap (λ m. content_at m (take k rest ++ drop k rest)) left ∙ run in
    sym (with_front-twice front (take k rest) (content_at (n - (length front + k)) (drop k rest))) ∙ ap (with_front front) (sym read) ∙ so_far

-- a run is too long
pub run_past : (front : List ℕ) (n k : ℕ) (bytes rest : List ℕ) → k ≤ length rest → All IsPlain (take k rest) → n ≤ length front + k
    → with_front front (content_at (n - length front) rest) ≡ content_at n bytes → content_at n bytes ≡ None
run_past front n k bytes rest within all le so_far =
    let len : length (take k rest) ≡ k = length-take-le k rest within in
    let few : n - length front ≤ length (take k rest) = omega (arith, len, le) in
    let parts : rest ≡ take k rest ++ drop k rest = sym (take-append-drop k rest) in
    let none : content_at (n - length front) rest ≡ None =
    ap (λ (xs : List ℕ). content_at (n - length front) xs) parts ∙ content-long (take k rest) (drop k rest) (n - length front) all few in
    sym so_far ∙ ap (with_front front) none

-- the same of the run by another name, and what it makes the front
pub run_is_read : (front more : List ℕ) (n k : ℕ) (bytes rest plain behind : List ℕ) → k ≤ length rest → All IsPlain (take k rest) → plain ≡ take k rest → behind ≡ drop k rest → more ≡ front ++ plain → length more ≤ n
    → with_front front (content_at (n - length front) rest) ≡ content_at n bytes → with_front more (content_at (n - length more) behind) ≡ content_at n bytes
run_is_read front more n k bytes rest plain behind within all is_front is_back is_more le so_far =
    let len : length plain ≡ k = ap (λ (xs : List ℕ). length xs) is_front ∙ length-take-le k rest within in
    let sum : length more ≡ length front + k = ap (λ (xs : List ℕ). length xs) is_more ∙ length-append front plain ∙ ap (λ m. length front + m) len in
    let few : length front + k ≤ n = omega (arith, sum, le) in
    rw (sum, is_back, is_more, is_front) (run_goes_on front n k bytes rest within all few so_far)
