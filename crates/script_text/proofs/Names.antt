-- A name is ASCII, and short.
use Rattle.std.proofs.Common.{◌≡◌, ℕ, zero, suc, ◌<◌, ◌≤◌, true, List, [], ◌∷◌, length, get_or, arith, inl, inr}
use Rattle.std.specs.Prelude.{◌&&◌, ◌||◌, ◌==◌, nat_le}
use Rattle.std.specs.List.{list_all}
use Rattle.std.specs.Str.{IsAscii}
use Rattle.std.proofs.lemmas.Bool.{and_parts, or_cases, leb-true, eqb-true}
use Rattle.script_text.specs.Tokens.{is_digit, is_letter, is_name_byte, is_name}

name_byte_is_ascii : (byte : ℕ) → is_name_byte byte ≡ true → byte < 128
name_byte_is_ascii byte e =
    elim (or_cases (is_letter byte || is_digit byte) (byte == 95) e) [
      | inl h ↦ elim (or_cases (is_letter byte) (is_digit byte) h) [
        | inl letter ↦ omega (arith, leb-true byte 122 (and_parts (nat_le 97 byte) (nat_le byte 122) letter).1)
        | inr digit ↦ omega (arith, leb-true byte 57 (and_parts (nat_le 48 byte) (nat_le byte 57) digit).1)
      ]
      | inr h ↦ omega (arith, eqb-true byte 95 h)
    ]

all_are_ascii : (text : List ℕ) → list_all is_name_byte text ≡ true → IsAscii text
all_are_ascii [] all i = omega arith
all_are_ascii (byte ∷ text) all zero = name_byte_is_ascii byte (and_parts (is_name_byte byte) (list_all is_name_byte text) all).0
all_are_ascii (byte ∷ text) all (suc i) = all_are_ascii text (and_parts (is_name_byte byte) (list_all is_name_byte text) all).1 i

-- the parts of a name
pub record HasParts (text : List ℕ) : Type 0 where
  pub first : is_letter (get_or text 0 0) ≡ true
  pub all : list_all is_name_byte text ≡ true
  pub few : length text ≤ 16

pub parts_of_name : (text : List ℕ) → is_name text ≡ true → HasParts text
parts_of_name text e =
    let h = and_parts (is_letter (get_or text 0 0) && list_all is_name_byte text) (nat_le (length text) 16) e in
    let k = and_parts (is_letter (get_or text 0 0)) (list_all is_name_byte text) h.0 in
    record { first = k.0; all = k.1; few = leb-true (length text) 16 h.1 }

pub name_is_ascii : (text : List ℕ) → is_name text ≡ true → IsAscii text
name_is_ascii text e = all_are_ascii text (parts_of_name text e).all
