-- What is spelled by the grammar is read, whatever stands behind it.
use Rattle.std.proofs.Common.{◌≡◌, ◌≢◌, ℕ, ℤ, pos, negsuc, zero, suc, ◌+◌, ◌<◌, ◌≤◌, ◌^◌, Bool, true, false, cond, List, [], ◌∷◌, ◌++◌, length, get_or, Some, None, refl, ap, ◌∙◌, append_assoc, arith, inl, inr}
use Rattle.std.specs.Prelude.{◌||◌, ◌==◌, nat_le, FitsSigned}
use Rattle.std.specs.List.{list_all}
use Rattle.std.specs.Int.{w64}
use Rattle.std.proofs.lemmas.Bool.{cases_lt, and_parts, or_parts, eq-eqb, ne_eqb, le-leb, lt-leb, leb-true, lt-ltb, le-ltb}
use Rattle.script_text.specs.Tokens.{is_digit, is_letter, is_name_byte, is_name, value_of, IsDigits, SpellsNumber, SpellsWhole}
use Rattle.script_text.specs.Tokens as T
use Rattle.script_text.specs.Texts.{hex_digit, SpellsByte, SpellsBytes, SpellsText}
use Rattle.script_text.specs.Texts as X
use Rattle.script_text.specs.InFront.{IsEnd}
use Rattle.port_terms.specs.declared.values.TheConstants.{MAX_ITEMS}
use Rattle.script_text.specs.Reading.{after, number_at, fits, signed, digits_at, whole_at, name_at, hex_value, byte_at, content_at, text_at}
use Rattle.script_text.proofs.Fronts.{front_len, front_is, behind_is}
use Rattle.script_text.proofs.Names.{parts_of_name}

pub after_same : (byte : ℕ) (rest : List ℕ) → after byte (byte ∷ rest) ≡ Some rest
after_same byte rest = rw (eq-eqb byte byte refl) refl

pub after_other : (byte first : ℕ) (rest : List ℕ) → first ≢ byte → after byte (first ∷ rest) ≡ None
after_other byte first rest ne = rw (ne_eqb first byte ne) refl

-- ---- numbers and names

-- no digit follows
pub no_digit : (rest : List ℕ) → IsEnd rest → is_digit (get_or rest 0 0) ≡ false
no_digit rest e =
    let byte = get_or rest 0 0 in
    (or_parts (is_letter byte) (is_digit byte) (or_parts (is_letter byte || is_digit byte) (byte == 95) e).0).1

pub number_again : (number : ℕ) (text rest : List ℕ) → SpellsNumber number text → is_digit (get_or rest 0 0) ≡ false → number_at (text ++ rest) ≡ Some (number, rest)
number_again number text rest s stops =
    let all = s.digits.digits in
    rw (front_is is_digit text rest all refl stops, behind_is is_digit text rest all refl stops, front_len is_digit text rest all refl stops, le-leb 1 (length text) s.digits.some, le-leb (length text) 10 s.few, ← s.value) refl

signed_fits : (z : ℤ) → FitsSigned w64 z → fits z ≡ true
signed_fits (pos n) f = lt-ltb n (2 ^ 63) f.sfits
signed_fits (negsuc n) f = lt-ltb n (2 ^ 63) f.sfits

digits_again : (minus : Bool) (text rest : List ℕ) → IsDigits text → FitsSigned w64 (signed minus (value_of text)) → is_digit (get_or rest 0 0) ≡ false → digits_at minus (text ++ rest) ≡ Some (signed minus (value_of text), rest)
digits_again minus text rest s f stops =
    let all = s.digits in
    rw (front_is is_digit text rest all refl stops, behind_is is_digit text rest all refl stops, front_len is_digit text rest all refl stops, le-leb 1 (length text) s.some, signed_fits (signed minus (value_of text)) f) refl

digit_bounds : (byte : ℕ) → is_digit byte ≡ true → (48 ≤ byte) × (byte ≤ 57)
digit_bounds byte e = let h = and_parts (nat_le 48 byte) (nat_le byte 57) e in (leb-true 48 byte h.0, leb-true byte 57 h.1)

-- the first of some digits
pub record FirstDigit (text : List ℕ) : Type 0 where
  pub first : ℕ
  pub others : List ℕ
  pub is : text ≡ first ∷ others
  pub low : 48 ≤ first
  pub high : first ≤ 57

pub first_digit : (text : List ℕ) → IsDigits text → FirstDigit text
first_digit [] s = absurd (omega (arith, s.some))
first_digit (byte ∷ others) s =
    let bounds = digit_bounds byte (and_parts (is_digit byte) (list_all is_digit others) s.digits).0 in
    record { first = byte; others = others; is = refl; low = bounds.0; high = bounds.1 }

plain_again : (text rest : List ℕ) → IsDigits text → FitsSigned w64 (pos (value_of text)) → is_digit (get_or rest 0 0) ≡ false → whole_at (text ++ rest) ≡ Some (pos (value_of text), rest)
unfolding whole_at
plain_again [] rest s f stops = absurd (omega (arith, s.some))
plain_again (byte ∷ others) rest s f stops =
    let bounds = digit_bounds byte (and_parts (is_digit byte) (list_all is_digit others) s.digits).0 in
    let first : byte ≢ 45 = λ e. omega arith in
    let no_minus : (byte == 45) ≡ false = ne_eqb byte 45 first in
    ap (λ (minus : Bool). cond minus (digits_at true (others ++ rest)) (digits_at false (byte ∷ others ++ rest))) no_minus ∙ digits_again false (byte ∷ others) rest s f stops

pub whole_again : (number : ℤ) (text : List ℕ) → SpellsWhole number text → (rest : List ℕ) → is_digit (get_or rest 0 0) ≡ false → whole_at (text ++ rest) ≡ Some (number, rest)
unfolding whole_at
whole_again _ _ (T.plain text s f) rest stops = plain_again text rest s f stops
whole_again _ _ (T.minus text s f) rest stops = digits_again true text rest s f stops

pub name_again : (text rest : List ℕ) → is_name text ≡ true → IsEnd rest → name_at (text ++ rest) ≡ Some (text, rest)
unfolding name_at
name_again text rest e stops =
    let all = (parts_of_name text e).all in
    rw (front_is is_name_byte text rest all refl stops, behind_is is_name_byte text rest all refl stops, e) refl

-- ---- texts

hex_again : (n : ℕ) → n < 16 → hex_value (hex_digit n) ≡ Some n
hex_again n lt =
    elim (cases_lt n 10) [
      | inl low ↦ rw (lt-ltb n 10 low, le-leb 48 (48 + n) (omega arith), le-leb (48 + n) 57 (omega arith)) (ap Some (omega arith))
      | inr high ↦ rw (le-ltb n 10 high, le-leb 48 (87 + n) (omega arith), lt-leb (87 + n) 57 (omega arith), le-leb 97 (87 + n) (omega arith), le-leb (87 + n) 102 (omega arith)) (ap Some (omega arith))
    ]

byte_again : (byte : ℕ) (text : List ℕ) → SpellsByte byte text → (rest : List ℕ) → byte_at (text ++ rest) ≡ Some (byte, rest)
unfolding byte_at
byte_again _ _ (X.itself byte not_quote not_backslash) rest = rw (ne_eqb byte 34 not_quote, ne_eqb byte 92 not_backslash) refl
byte_again _ _ X.newline rest = refl
byte_again _ _ X.carriage_return rest = refl
byte_again _ _ X.tab rest = refl
byte_again _ _ X.backslash rest = refl
byte_again _ _ X.quote rest = refl
byte_again _ _ (X.hexadecimal high low h l) rest = rw (hex_again high h, hex_again low l) refl

-- no byte of a text begins with a double quote
not_closed : (byte : ℕ) (text : List ℕ) → SpellsByte byte text → (rest : List ℕ) → after 34 (text ++ rest) ≡ None
not_closed _ _ (X.itself byte not_quote not_backslash) rest = after_other 34 byte rest not_quote
not_closed _ _ X.newline rest = refl
not_closed _ _ X.carriage_return rest = refl
not_closed _ _ X.tab rest = refl
not_closed _ _ X.backslash rest = refl
not_closed _ _ X.quote rest = refl
not_closed _ _ (X.hexadecimal high low h l) rest = refl

content_again : (n : ℕ) (bytes text : List ℕ) → SpellsBytes bytes text → (rest : List ℕ) → length bytes < n → content_at n (text ++ 34 ∷ rest) ≡ Some (bytes, rest)
unfolding content_at
content_again zero bytes text s rest lt = absurd (omega arith)
content_again (suc n) _ _ X.nothing rest lt = refl
content_again (suc n) _ _ (X.one_more byte bytes first others s all) rest lt =
    let whole = append_assoc first others (34 ∷ rest) in
    ap (content_at (suc n)) whole ∙ rw (not_closed byte first s (others ++ 34 ∷ rest), byte_again byte first s (others ++ 34 ∷ rest), content_again n bytes others all rest (omega arith)) refl

pub text_again : (bytes text : List ℕ) → SpellsText bytes text → (rest : List ℕ) → text_at (text ++ rest) ≡ Some (bytes, rest)
unfolding text_at
text_again bytes text s rest =
    let whole : text ++ rest ≡ 34 ∷ (s.content ++ 34 ∷ rest) = ap (λ (xs : List ℕ). xs ++ rest) s.quoted ∙ ap (λ (xs : List ℕ). 34 ∷ xs) (append_assoc s.content (34 ∷ []) rest) in
    rw whole (content_again (MAX_ITEMS + 1) bytes s.content s.spelled rest (omega (arith, s.few)))
