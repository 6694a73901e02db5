-- Digits in base 256: of a number, and of a number as far as it was read.
use Rattle.std.proofs.Common.{◌≡◌, ℕ, ◌+◌, ◌-◌, ◌*◌, ◌/◌, ◌%◌, ◌^◌, ◌<◌, ◌≤◌, List, [], ◌∷◌, length, reverse, take, drop, get_or, sym, ap, ◌∙◌, arith}
use Rattle.std.specs.Int.Digits.{digits_of, number_from_digits, number_from_digits_after}
use Rattle.std.proofs.lemmas.Int.Digits.{digits_of_step, length-digits_of_step, length-digits_of-le, number_more, number_after_append, number_after_ge}
use Rattle.std.proofs.lemmas.List.{reverse-append, get_or-reverse, take-append-drop, length-reverse}
use Rattle.port_terms.specs.Spelling.{little_endian}

pub few_digits : (n : ℕ) → n < 2 ^ 64 → length (digits_of 256 n) ≤ 8
few_digits n lt = length-digits_of-le 256 8 n (omega arith) lt

-- the least digit, and those of the quotient
pub digits_step : (n : ℕ) → 0 < n → reverse (digits_of 256 n) ≡ n % 256 ∷ reverse (digits_of 256 (n / 256))
digits_step n lt = ap reverse (digits_of_step 256 n (omega arith) lt) ∙ reverse-append (digits_of 256 (n / 256)) (n % 256 ∷ [])

pub one_digit_less : (n : ℕ) → 0 < n → length (digits_of 256 n) ≡ length (digits_of 256 (n / 256)) + 1
one_digit_less n lt = length-digits_of_step 256 n (omega arith) lt

-- one more digit of a number that is read from its most significant digit
pub one_more_digit : (digits : List ℕ) (i number : ℕ) → i < length digits → number ≡ number_from_digits 256 (take i (reverse digits)) → number * 256 + get_or digits (length digits - 1 - i) 0 ≡ number_from_digits 256 (take (i + 1) (reverse digits))
one_more_digit digits i number lt so_far =
    let within : i < length (reverse digits) = omega (arith, length-reverse digits) in
    let digit : get_or (reverse digits) i 0 ≡ get_or digits (length digits - 1 - i) 0 = get_or-reverse digits i 0 lt in
    rw (so_far, ← digit) (sym (number_more 256 (reverse digits) i within))

-- What was read is at most the number.
pub front_le : (digits : List ℕ) (i : ℕ) → number_from_digits 256 (take i (reverse digits)) ≤ little_endian digits
front_le digits i =
    let parts : little_endian digits ≡ number_from_digits_after 256 (number_from_digits 256 (take i (reverse digits))) (drop i (reverse digits)) =
    ap (number_from_digits 256) (sym (take-append-drop i (reverse digits))) ∙ number_after_append 256 0 (take i (reverse digits)) (drop i (reverse digits)) in
    omega (arith, parts, number_after_ge 256 (number_from_digits 256 (take i (reverse digits))) (drop i (reverse digits)) (omega arith))
