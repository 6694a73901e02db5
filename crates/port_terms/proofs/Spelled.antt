-- What is written of a term that keeps its limits is a spelling of it.
use Rattle.std.proofs.Common.{◌≡◌, ℕ, ℤ, pos, negsuc, suc, ◌<◌, ◌≤◌, ◌^◌, Bool, true, false, List, ◌∷◌, ◌++◌, length, reverse, refl, sym, ap, subst, ◌∙◌, arith, inl, inr}
use Rattle.std.specs.Prelude.{FitsSigned, encode_utf8_all}
use Rattle.std.specs.Int.{w16, w32, w64, to_be_bytes, cast_signed, cast_unsigned}
use Rattle.std.specs.Int.Digits.{digits_of, number_from_digits}
use Rattle.std.proofs.lemmas.Bool.{cases_lt, lt-ltb, le-ltb, ltb-true}
use Rattle.std.proofs.lemmas.Int.{to_z-of_z, to_z_pos}
use Rattle.std.proofs.lemmas.Int.Digits.{number_digits_of}
use Rattle.std.proofs.lemmas.List.{reverse-reverse, length-reverse}
use Rattle.port_terms.specs.declared.values.TheConstants.{MAX_ITEMS}
use Rattle.port_terms.specs.Tree.{Tree, Forest, int, atom, bin, tuple, list, none, more, count}
use Rattle.port_terms.specs.Spelling.{Spells, SpellAll, IsName, ints, little_endian, signed, small_integer, integer, small_big, small_atom_utf8, atom_utf8, small_tuple, large_tuple, nil, string, list_ext, binary, nothing, one_more}
use Rattle.port_terms.specs.Limits.{IsTerm, AreTerms}
use Rattle.port_terms.specs.Written.{written, written_all, written_int, written_big, written_name, written_list, written_string, is_byte, are_bytes, is_string, byte_of, bytes_of}
use Rattle.port_terms.proofs.Digits.{few_digits}
use Rattle.port_terms.proofs.Lists.{both, string_is_short, string_is_bytes}
use Rattle.port_terms.proofs.Sizes.{length_bytes_of}

number_again : (n : ℕ) → little_endian (reverse (digits_of 256 n)) ≡ n
number_again n = ap (number_from_digits 256) (reverse-reverse (digits_of 256 n)) ∙ number_digits_of 256 n (omega arith)

big_spelled : (sign n : ℕ) → n < 2 ^ 64 → FitsSigned w64 (signed sign n) → Spells (int (signed sign n)) (written_big sign n)
big_spelled sign n lt fits =
    let digits : List ℕ = reverse (digits_of 256 n) in
    let len = length-reverse (digits_of 256 n) in
    let value : little_endian digits ≡ n = number_again n in
    let one : Spells (int (signed sign (little_endian digits))) (110 ∷ length digits ∷ sign ∷ digits) =
    small_big sign digits (omega (arith, len, few_digits n lt)) (subst (λ (v : ℕ). FitsSigned w64 (signed sign v)) (sym value) fits) in
    let two : Spells (int (signed sign n)) (110 ∷ length digits ∷ sign ∷ digits) = subst (λ (v : ℕ). Spells (int (signed sign v)) (110 ∷ length digits ∷ sign ∷ digits)) value one in
    subst (λ (k : ℕ). Spells (int (signed sign n)) (110 ∷ k ∷ sign ∷ digits)) len two

word_spelled : (z : ℤ) (n : ℕ) → n < 2 ^ 32 → cast_signed w32 n ≡ z → Spells (int z) (98 ∷ to_be_bytes w32 n)
word_spelled z n lt e = subst (λ (y : ℤ). Spells (int y) (98 ∷ to_be_bytes w32 n)) e (integer n lt)

int_spelled : (z : ℤ) → FitsSigned w64 z → Spells (int z) (written_int z)
int_spelled (pos n) fits =
    elim (cases_lt n (2 ^ 8)) [
      | inl byte ↦ rw (lt-ltb n (2 ^ 8) byte) (small_integer n byte)
      | inr more8 ↦ elim (cases_lt n (2 ^ 31)) [
        | inl word ↦ rw (le-ltb n (2 ^ 8) more8, lt-ltb n (2 ^ 31) word) (word_spelled (pos n) n (omega arith) (to_z_pos w32 n word))
        | inr more31 ↦ rw (le-ltb n (2 ^ 8) more8, le-ltb n (2 ^ 31) more31) (big_spelled 0 n (omega (arith, fits.sfits)) fits)
      ]
    ]
int_spelled (negsuc n) fits =
    elim (cases_lt n (2 ^ 31)) [
      | inl word ↦ rw (lt-ltb n (2 ^ 31) word) (word_spelled (negsuc n) (cast_unsigned w32 (negsuc n)) (omega arith) (to_z-of_z w32 (negsuc n) (record { sfits = word })))
      | inr more31 ↦ rw (le-ltb n (2 ^ 31) more31) (big_spelled 1 (suc n) (omega (arith, fits.sfits)) fits)
    ]

name_spelled : (name : List ℕ) → IsName name → Spells (atom name) (written_name (encode_utf8_all name))
name_spelled name h =
    elim (cases_lt (length (encode_utf8_all name)) (2 ^ 8)) [
      | inl lt ↦ rw (lt-ltb (length (encode_utf8_all name)) (2 ^ 8) lt) (small_atom_utf8 name h lt)
      | inr le ↦ rw (le-ltb (length (encode_utf8_all name)) (2 ^ 8) le) (atom_utf8 name h)
    ]

tuple_spelled : (ts : Forest) → count ts ≤ MAX_ITEMS → SpellAll ts (written_all ts) → Spells (tuple ts) (written (tuple ts))
tuple_spelled ts few all =
    elim (cases_lt (count ts) (2 ^ 8)) [
      | inl lt ↦ rw (lt-ltb (count ts) (2 ^ 8) lt) (small_tuple ts (written_all ts) lt all)
      | inr le ↦ rw (le-ltb (count ts) (2 ^ 8) le) (large_tuple ts (written_all ts) few all)
    ]

byte_again : (t : Tree) → is_byte t ≡ true → int (pos (byte_of t)) ≡ t
byte_again (int (pos n)) e = refl
byte_again (int (negsuc n)) e = absurd cc
byte_again (atom name) e = absurd cc
byte_again (bin bytes) e = absurd cc
byte_again (tuple ts) e = absurd cc
byte_again (list ts) e = absurd cc

ints_again : (ts : Forest) → are_bytes ts ≡ true → ints (bytes_of ts) ≡ ts
ints_again none e = refl
ints_again (more t ts) e =
    let h = both (is_byte t) (are_bytes ts) e in
    ap (λ (u : Tree). more u (ints (bytes_of ts))) (byte_again t h.0) ∙ ap (λ (us : Forest). more t us) (ints_again ts h.1)

string_spelled : (ts : Forest) → is_string ts ≡ true → Spells (list ts) (written_string ts)
string_spelled ts e =
    let len = length_bytes_of ts in
    let one = string (bytes_of ts) (omega (arith, len, string_is_short ts e)) in
    let two : Spells (list ts) (107 ∷ to_be_bytes w16 (length (bytes_of ts)) ++ bytes_of ts) = subst (λ (us : Forest). Spells (list us) (107 ∷ to_be_bytes w16 (length (bytes_of ts)) ++ bytes_of ts)) (ints_again ts (string_is_bytes ts e)) one in
    subst (λ (k : ℕ). Spells (list ts) (107 ∷ to_be_bytes w16 k ++ bytes_of ts)) len two

items_spelled : (t : Tree) (ts : Forest) (items : List ℕ) (b : Bool) → is_string (more t ts) ≡ b → count (more t ts) ≤ MAX_ITEMS → SpellAll (more t ts) items → Spells (list (more t ts)) (written_list (more t ts) items)
items_spelled t ts items true e few all = rw e (string_spelled (more t ts) e)
items_spelled t ts items false e few all = rw e (list_ext (more t ts) items few all)

list_spelled : (ts : Forest) (items : List ℕ) → count ts ≤ MAX_ITEMS → SpellAll ts items → Spells (list ts) (written_list ts items)
list_spelled none items few all = nil
list_spelled (more t ts) items few all = items_spelled t ts items (is_string (more t ts)) refl few all

mutual
  pub written_spelled : (t : Tree) → IsTerm t → Spells t (written t)
  written_spelled (int z) h = int_spelled z h
  written_spelled (atom name) h = name_spelled name h
  written_spelled (bin bytes) h = binary bytes h
  written_spelled (tuple ts) h = tuple_spelled ts h.0 (all_spelled ts h.1)
  written_spelled (list ts) h = list_spelled ts (written_all ts) h.0 (all_spelled ts h.1)

  pub all_spelled : (ts : Forest) → AreTerms ts → SpellAll ts (written_all ts)
  all_spelled none h = nothing
  all_spelled (more t ts) h = one_more t ts (written t) (written_all ts) (written_spelled t h.0) (all_spelled ts h.1)

-- Bytes as integers keep the limits.
byte_is_term : (t : Tree) → is_byte t ≡ true → IsTerm t
byte_is_term (int (pos n)) e = record { sfits = omega (arith, ltb-true n (2 ^ 8) e) }
byte_is_term (int (negsuc n)) e = absurd cc
byte_is_term (atom name) e = absurd cc
byte_is_term (bin bytes) e = absurd cc
byte_is_term (tuple ts) e = absurd cc
byte_is_term (list ts) e = absurd cc

pub bytes_are_terms : (ts : Forest) → are_bytes ts ≡ true → AreTerms ts
bytes_are_terms none e = tt
bytes_are_terms (more t ts) e = let h = both (is_byte t) (are_bytes ts) e in (byte_is_term t h.0, bytes_are_terms ts h.1)

pub none_are_terms : (ts : Forest) → count ts ≡ 0 → AreTerms ts
none_are_terms none e = tt
none_are_terms (more t ts) e = absurd (omega arith)
