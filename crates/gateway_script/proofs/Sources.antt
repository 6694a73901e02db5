-- Where the bytes that are left of a line stand in the text of a script.
use Rattle.std.proofs.Common.{◌≡◌, ℕ, suc, ◌+◌, ◌-◌, ◌≤◌, List, [], ◌++◌, Some, length, take, drop, refl, sym, ap, ◌∙◌, arith}
use Rattle.std.specs.Prelude.{slice_range}
use Rattle.std.specs.List.{take_while, prefix_len}
use Rattle.std.proofs.lemmas.List.{append-nil, append_assoc, length-append, length-drop, take-append-drop, take-append-le, drop-append-le, drop_at, drop-drop}
use Rattle.script_text.specs.Tokens.{gap}
use Rattle.script_text.proofs.Fronts.{front_parts}
use Rattle.gateway_script.specs.Source.{EndsAt}
use Rattle.gateway_script.specs.Words.{is_word_byte, gap_at, next_word_at, next_name_at, number_within}
use Rattle.gateway_script.proofs.FoundParts.{gap_found, next_word_found, next_name_found, number_within_found}

-- what stands behind a front of the bytes ends where they do
pub ends-behind : (text : List ℕ) (end : ℕ) (front rest bytes : List ℕ) → bytes ≡ front ++ rest → EndsAt text end bytes → EndsAt text end rest
ends-behind text end front rest bytes parts ends =
    let sum : length bytes ≡ length front + length rest = ap (λ (xs : List ℕ). length xs) parts ∙ length-append front rest in
    record {
      front = ends.front ++ front;
      behind = ends.behind;
      parts = ends.parts ∙ ap (λ xs. ends.front ++ xs ++ ends.behind) parts ∙ ap (λ xs. xs ++ ends.behind) (sym (append_assoc ends.front front rest));
      place = omega (arith, ends.place, sum, length-append ends.front front);
    }

-- behind a word
pub ends-word : (text : List ℕ) (end : ℕ) (bytes rest : List ℕ) → rest ≡ drop (prefix_len is_word_byte bytes) bytes → EndsAt text end bytes → EndsAt text end rest
ends-word text end bytes rest is ends =
    ends-behind text end (take_while is_word_byte bytes) rest bytes (front_parts is_word_byte bytes ∙ ap (λ xs. take_while is_word_byte bytes ++ xs) (sym is)) ends

-- behind a gap
pub ends-gap : (text : List ℕ) (end : ℕ) (bytes rest : List ℕ) → gap_at bytes ≡ Some rest → EndsAt text end bytes → EndsAt text end rest
ends-gap text end bytes rest found ends =
    let g = gap_found bytes rest found in
    ends-behind text end (gap (suc g.more)) rest bytes g.is ends

-- behind a word that stands behind a gap
pub ends-next_word : (text : List ℕ) (end : ℕ) (bytes word rest : List ℕ) → next_word_at bytes ≡ Some (word, rest) → EndsAt text end bytes → EndsAt text end rest
ends-next_word text end bytes word rest found ends =
    let g = next_word_found bytes word rest found in
    ends-behind text end (gap (suc g.more) ++ word) rest bytes (g.is ∙ sym (append_assoc (gap (suc g.more)) word rest)) ends

-- behind a name that stands behind a gap
pub ends-next_name : (text : List ℕ) (end : ℕ) (bytes name rest : List ℕ) → next_name_at bytes ≡ Some (name, rest) → EndsAt text end bytes → EndsAt text end rest
ends-next_name text end bytes name rest found ends =
    let g = (next_name_found bytes name rest found).gapped in
    ends-behind text end (gap (suc g.more) ++ name) rest bytes (g.is ∙ sym (append_assoc (gap (suc g.more)) name rest)) ends

-- behind a number that stands behind a gap
pub ends-number : (text : List ℕ) (end low high : ℕ) (bytes : List ℕ) (number : ℕ) (rest : List ℕ) → number_within low high bytes ≡ Some (number, rest) → EndsAt text end bytes → EndsAt text end rest
ends-number text end low high bytes number rest found ends =
    let g = number_within_found low high bytes number rest found in
    ends-behind text end (gap (suc g.more) ++ g.text) rest bytes (g.is ∙ sym (append_assoc (gap (suc g.more)) g.text rest)) ends

-- the whole text ends where it does
pub ends-whole : (text : List ℕ) → EndsAt text (length text) text
ends-whole text = record { front = []; behind = []; parts = sym (append-nil text); place = omega arith }

-- the first line of what ends where the text does
pub ends-line : (text lines line : List ℕ) → EndsAt text (length text) lines → line ≡ take (length line) lines → EndsAt text (length text - length lines + length line) line
ends-line text lines line ends is =
    let rest = drop (length line) lines in
    let parted : lines ≡ line ++ rest = sym (take-append-drop (length line) lines) ∙ ap (λ xs. xs ++ rest) (sym is) in
    record {
      front = ends.front;
      behind = rest ++ ends.behind;
      parts = ends.parts ∙ ap (λ xs. ends.front ++ xs ++ ends.behind) parted ∙ ap (λ xs. xs ++ ends.behind) (sym (append_assoc ends.front line rest))
          ∙ append_assoc (ends.front ++ line) rest ends.behind;
      place = omega (arith, ends.place);
    }

-- what stands behind the first so many bytes
pub ends-drop : (text : List ℕ) (end n : ℕ) (bytes rest : List ℕ) → rest ≡ drop n bytes → EndsAt text end bytes → EndsAt text end rest
ends-drop text end n bytes rest is ends =
    ends-behind text end (take n bytes) rest bytes (sym (take-append-drop n bytes) ∙ ap (λ xs. take n bytes ++ xs) (sym is)) ends

-- what is borrowed behind the first byte of the bytes is this part of the text
pub part-is : (text : List ℕ) (end : ℕ) (bytes content : List ℕ) (start : ℕ) → EndsAt text end bytes → start ≡ end - length bytes + 1 → length content + 1 ≤ length bytes
    → take (length content) (drop 1 bytes) ≡ content → slice_range text start (start + length content) ≡ content
part-is text end bytes content start ends at fits is =
    let begins : start ≡ length ends.front + 1 = omega (arith, at, ends.place) in
    let count : start + length content - start ≡ length content = omega arith in
    let front : drop (length ends.front) (ends.front ++ bytes) ≡ bytes = drop_at ends.front bytes (length ends.front) refl in
    let first : drop (length ends.front + 1) (ends.front ++ bytes) ≡ drop 1 bytes = sym (drop-drop 1 (length ends.front) (ends.front ++ bytes)) ∙ ap (λ (xs : List ℕ). drop 1 xs) front in
    let within : length ends.front + 1 ≤ length (ends.front ++ bytes) = omega (arith, fits, length-append ends.front bytes) in
    let few : length content ≤ length (drop 1 bytes) = omega (arith, fits, length-drop 1 bytes) in
    rw (count, begins, ends.parts, drop-append-le (length ends.front + 1) (ends.front ++ bytes) ends.behind within, first, take-append-le (length content) (drop 1 bytes) ends.behind few) is
