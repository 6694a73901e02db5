-- The number that digits spell, as far as they were read.
use Rattle.std.proofs.Common.{◌≡◌, ℕ, zero, suc, ◌+◌, ◌-◌, ◌*◌, ◌^◌, ◌<◌, ◌≤◌, true, List, [], ◌∷◌, length, map, take, drop, get_or, refl, sym, ap, ◌∙◌, arith}
use Rattle.std.specs.List.{list_all}
use Rattle.std.specs.Prelude.{nat_le}
use Rattle.std.specs.Int.Digits.{number_from_digits, number_from_digits_after, AllBelowBase}
use Rattle.std.proofs.Math.Nat.{pow-le-pow_right}
use Rattle.std.proofs.lemmas.Bool.{and_parts, leb-true}
use Rattle.std.proofs.lemmas.Int.Digits.{number_more, number_after_append, number_after_ge, number_lt}
use Rattle.std.proofs.lemmas.List.{take-append-drop, take-map, length-map, map-append}
use Rattle.script_text.specs.Tokens.{is_digit, value_of}

-- the number that a digit stands for
abbrev digit : ℕ → ℕ
digit byte = byte - 48

get_or-digits : (text : List ℕ) (i : ℕ) → get_or (map digit text) i 0 ≡ get_or text i 0 - 48
get_or-digits [] i = refl
get_or-digits (byte ∷ text) zero = refl
get_or-digits (byte ∷ text) (suc i) = get_or-digits text i

pub value_more : (text : List ℕ) (i : ℕ) → i < length text → value_of (take (i + 1) text) ≡ value_of (take i text) * 10 + (get_or text i 0 - 48)
value_more text i lt =
    let within : i < length (map digit text) = omega (arith, length-map text digit) in
    ap (number_from_digits 10) (sym (take-map digit (i + 1) text))
    ∙ number_more 10 (map digit text) i within
    ∙ ap (λ (front : List ℕ). number_from_digits 10 front * 10 + get_or (map digit text) i 0) (take-map digit i text)
    ∙ ap (λ (n : ℕ). value_of (take i text) * 10 + n) (get_or-digits text i)

pub front_le : (text : List ℕ) (i : ℕ) → value_of (take i text) ≤ value_of text
front_le text i =
    let front = take i text in
    let parts : value_of text ≡ number_from_digits_after 10 (value_of front) (map digit (drop i text)) =
    ap value_of (sym (take-append-drop i text)) ∙ ap (number_from_digits 10) (map-append digit front (drop i text)) ∙ number_after_append 10 0 (map digit front) (map digit (drop i text)) in
    omega (arith, parts, number_after_ge 10 (value_of front) (map digit (drop i text)) (omega arith))

is_digit_bounds : (byte : ℕ) → is_digit byte ≡ true → (48 ≤ byte) × (byte ≤ 57)
is_digit_bounds byte e = let h = and_parts (nat_le 48 byte) (nat_le byte 57) e in (leb-true 48 byte h.0, leb-true byte 57 h.1)

pub digit_ge : (text : List ℕ) (i : ℕ) → list_all is_digit text ≡ true → i < length text → 48 ≤ get_or text i 0
digit_ge [] i all lt = absurd (omega arith)
digit_ge (byte ∷ text) zero all lt = (is_digit_bounds byte (and_parts (is_digit byte) (list_all is_digit text) all).0).0
digit_ge (byte ∷ text) (suc i) all lt = digit_ge text i (and_parts (is_digit byte) (list_all is_digit text) all).1 (omega arith)

below_base : (text : List ℕ) → list_all is_digit text ≡ true → AllBelowBase 10 (map digit text)
below_base [] all = tt
below_base (byte ∷ text) all =
    let h = and_parts (is_digit byte) (list_all is_digit text) all in
    let bounds = is_digit_bounds byte h.0 in
    (omega arith, below_base text h.1)

pow_le : (k : ℕ) → k ≤ 10 → 10 ^ k ≤ 10 ^ 10
pow_le k le = pow-le-pow_right {n = 10} (omega arith) le

-- a NUMBER has less than 64 bits
pub number_fits : (text : List ℕ) → list_all is_digit text ≡ true → length text ≤ 10 → value_of text < 2 ^ 64
number_fits text all few = omega (arith, number_lt 10 (map digit text) (below_base text all), length-map text digit, pow_le (length (map digit text)) (omega (arith, length-map text digit)))
