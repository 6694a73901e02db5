-- The first line of a text, and the lines behind it.
use Rattle.std.proofs.Common.{◌≡◌, ℕ, suc, ◌+◌, ◌-◌, ◌<◌, ◌≤◌, true, false, List, [], ◌∷◌, ◌++◌, length, take, drop, get_or, refl, sym, ap, ◌∙◌, subst, arith, inl, inr}
use Rattle.std.specs.Prelude.{All}
use Rattle.std.specs.List.{slice_split}
use Rattle.std.proofs.lemmas.Bool.{cases_Bool}
use Rattle.std.proofs.lemmas.List.{append-nil, get_or-take, length-take-le, take-append-drop, take_all, take_rest, drop-drop}
use Rattle.std.proofs.lemmas.List.Elements.{All-from_get_or}
use Rattle.memchr.specs.Find.{Nowhere, Passes, is_byte}
use Rattle.gateway_script.specs.Lines.{is_line_end}

-- no byte of the front ends a line
pub line_before : (text : List ℕ) (n : ℕ) → n ≤ length text → Nowhere (Passes (is_byte 10) text) 0 n → All (λ byte. is_line_end byte ≡ false) (take n text)
line_before text n le nowhere =
    All-from_get_or (λ byte. is_line_end byte ≡ false) (take n text) 0 (λ i lt.
    let within : i < n = omega (arith, lt, length-take-le n text le) in
    let same : get_or (take n text) i 0 ≡ get_or text i 0 = get_or-take n text i 0 within in
    elim (cases_Bool (is_byte 10 (get_or text i 0))) [
      | inl e ↦ absurd (nowhere i (omega arith) within e)
      | inr e ↦ rw same e
    ])

-- a text without a line end is one line
pub one_line : (line : List ℕ) → All (λ byte. is_line_end byte ≡ false) line → slice_split is_line_end line ≡ line ∷ []
one_line [] all = refl
one_line (byte ∷ line) all = rw (all 0 0 (omega arith), one_line line (λ k d lt. all (suc k) d (omega (arith, lt)))) refl

-- a line that ends, and what stands behind its end
pub line_and_rest : (line rest : List ℕ) (byte : ℕ) → All (λ byte. is_line_end byte ≡ false) line → is_line_end byte ≡ true → slice_split is_line_end (line ++ byte ∷ rest) ≡ line ∷ slice_split is_line_end rest
line_and_rest [] rest byte all e = rw e refl
line_and_rest (other ∷ line) rest byte all e =
    rw (all 0 0 (omega arith), line_and_rest line rest byte (λ k d lt. all (suc k) d (omega (arith, lt))) e) refl

-- where nothing stands behind the front, the text is one line
pub line_of_all : (text front back : List ℕ) (n : ℕ) → All (λ byte. is_line_end byte ≡ false) (take n text) → front ≡ take n text → back ≡ drop n text → length back < 1
    → slice_split is_line_end text ≡ front ∷ []
line_of_all text front [] n all is_front is_back few =
    let whole : text ≡ take n text = sym (take-append-drop n text) ∙ ap (λ xs. take n text ++ xs) (sym is_back) ∙ append-nil (take n text) in
    ap (slice_split is_line_end) whole ∙ one_line (take n text) all ∙ ap (λ xs. xs ∷ []) (sym is_front)
line_of_all text front (byte ∷ back) n all is_front is_back few = absurd (omega (arith, few))

-- where a line end stands behind the front, it is a line, and what stands behind the end has the others
pub line_in_front : (text front back : List ℕ) (n : ℕ) → All (λ byte. is_line_end byte ≡ false) (take n text) → All (λ byte. is_line_end byte ≡ true) (take 1 (drop n text))
    → front ≡ take n text → back ≡ drop n text → 1 ≤ length back → slice_split is_line_end text ≡ front ∷ slice_split is_line_end (take (length back - 1) (drop 1 back))
line_in_front text front [] n all ends is_front is_back more = absurd (omega (arith, more))
line_in_front text front (byte ∷ back) n all ends is_front is_back more =
    let whole : text ≡ take n text ++ byte ∷ back = sym (take-append-drop n text) ∙ ap (λ xs. take n text ++ xs) (sym is_back) in
    let P : List ℕ → Type 0 = λ xs. All (λ byte. is_line_end byte ≡ true) (take 1 xs) in
    let end : is_line_end byte ≡ true = subst P (sym is_back) ends 0 0 (omega arith) in
    let rest : take (length (byte ∷ back) - 1) back ≡ back = take_all (length (byte ∷ back) - 1) back (omega arith) in
    ap (slice_split is_line_end) whole ∙ line_and_rest (take n text) back byte all end
    ∙ ap (λ xs. xs ∷ slice_split is_line_end back) (sym is_front) ∙ ap (λ xs. front ∷ slice_split is_line_end xs) (sym rest)

-- a front of the text is as many bytes of it as it has
pub front-is : (text front : List ℕ) (n : ℕ) → n ≤ length text → front ≡ take n text → front ≡ take (length front) text
front-is text front n within is = is ∙ ap (λ m. take m text) (sym (ap (λ (xs : List ℕ). length xs) is ∙ length-take-le n text within))

-- behind the byte behind the front stands what is left of the text
pub rest-is : (text front back : List ℕ) (n : ℕ) → n ≤ length text → front ≡ take n text → back ≡ drop n text → take (length back - 1) (drop 1 back) ≡ drop (length front + 1) text
rest-is text front back n within is_front is_back =
    let len : length front ≡ n = ap (λ (xs : List ℕ). length xs) is_front ∙ length-take-le n text within in
    take_rest back 1 ∙ ap (λ (xs : List ℕ). drop 1 xs) is_back ∙ drop-drop 1 n text ∙ ap (λ m. drop (m + 1) text) (sym len)
