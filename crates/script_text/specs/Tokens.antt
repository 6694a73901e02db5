-- The smallest parts of a line: gaps, numbers and names.
use Rattle.std.specs.Prelude.{◌≡◌, ℕ, ℤ, pos, neg_ℤ, ◌-◌, ◌≤◌, ◌==◌, List, ◌∷◌, length, map, slice_index, replicate, Bool, true, ◌&&◌, ◌||◌, nat_le, FitsSigned}
use Rattle.std.specs.List.{list_all}
use Rattle.std.specs.Int.{w64}
use Rattle.std.specs.Int.Digits.{number_from_digits}

-- so many spaces
abbrev pub gap : ℕ → List ℕ
gap spaces = replicate spaces 32

-- a byte 0 to 9
abbrev pub is_digit : ℕ → Bool
is_digit byte = nat_le 48 byte && nat_le byte 57

-- a byte a to z
abbrev pub is_letter : ℕ → Bool
is_letter byte = nat_le 97 byte && nat_le byte 122

-- a byte that a name may have behind its first one: a letter, a digit or `_`
abbrev pub is_name_byte : ℕ → Bool
is_name_byte byte = is_letter byte || is_digit byte || byte == 95

-- whether a text is a name: a letter, and up to 15 letters, digits or `_`
abbrev pub is_name : List ℕ → Bool
is_name text = is_letter (slice_index text 0) && list_all is_name_byte text && nat_le (length text) 16

-- the number that decimal digits spell, the most significant first
abbrev pub value_of : List ℕ → ℕ
value_of digits = number_from_digits 10 (map (λ byte. byte - 48) digits)

-- the text is one or more decimal digits
pub record IsDigits (text : List ℕ) : Type 0 where
  pub digits : list_all is_digit text ≡ true
  pub some : 1 ≤ length text

-- a NUMBER: 1 to 10 decimal digits, of which the first may be zeros
pub record SpellsNumber (number : ℕ) (text : List ℕ) : Type 0 where
  pub digits : IsDigits text
  pub few : length text ≤ 10
  pub value : number ≡ value_of text

-- a whole number of 64 bits: decimal digits, with `-` before them or not
pub data SpellsWhole : ℤ → List ℕ → Type 0 where
  plain : (text : List ℕ) → IsDigits text → FitsSigned w64 (pos (value_of text)) → SpellsWhole (pos (value_of text)) text
  minus : (text : List ℕ) → IsDigits text → FitsSigned w64 (neg_ℤ (pos (value_of text))) → SpellsWhole (neg_ℤ (pos (value_of text))) (45 ∷ text)
