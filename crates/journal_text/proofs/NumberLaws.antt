-- Words that are numbers, statuses and names.
use Rattle.std.proofs.Common.{◌≡◌, ℕ, ℤ, pos, negsuc, zero, suc, ◌+◌, ◌^◌, ◌<◌, ◌≤◌, Bool, true, false, List, [], ◌∷◌, length, get_or, Option, Some, None, refl, sym, ap, ◌∙◌, arith, inl, inr, rules, cond}
use Rattle.std.specs.Prelude.{◌==◌, ◌&&◌, ◌||◌, not, nat_lt, nat_le, is_none}
use Rattle.std.specs.List.{list_all}
use Rattle.std.specs.Fmt.{decimal, signed_decimal}
use Rattle.std.specs.Str.Parse.{digits_value}
use Rattle.std.proofs.lemmas.Bool.{cases_Bool, cases_lt, and_parts, eqb-true, leb-true, le-leb, ltb-true, lt-ltb}
use Rattle.std.proofs.lemmas.Bool.Decides.{nat_tests}
use Rattle.std.proofs.lemmas.Option.{option_and_then_some, cond_some}
use Rattle.std.proofs.lemmas.Fmt.{decimal-digits_value, digits_decimal, digits_value-decimal, decimal_nonempty, first_decimal, decimal_digit}
use Rattle.std.proofs.lemmas.Str.Parse.{IsDigitsTest, IsNumeralModel, numerals_by_value}
use Rattle.port_signal.specs.Name.{name_fault, fault_from, may_stand}
use Rattle.journal_text.specs.Words.{is_word_byte, is_name, is_status}
use Rattle.journal_text.specs.Reading.{◌>>=◌, is_digit, is_numeral, number_of, negative, status_of, name_of}
use Rattle.journal_text.proofs.ReadingLaws.{both, Exact}

pub all_from : (p q : ℕ → Bool) → ((byte : ℕ) → p byte ≡ true → q byte ≡ true) → (xs : List ℕ) → list_all p xs ≡ true → list_all q xs ≡ true
all_from p q each [] all = refl
all_from p q each (x ∷ xs) all =
    let h = and_parts (p x) (list_all p xs) all in
    both (q x) (list_all q xs) (each x h.0) (all_from p q each xs h.1)

-- ---- digits

tells : IsDigitsTest (λ ds. list_all is_digit ds ≡ true)
tells = record {
  empty = refl;
  parts = λ c cs h. let p = and_parts (is_digit c) (list_all is_digit cs) h in let q = and_parts (nat_le 48 c) (nat_le c 57) p.0 in ((leb-true 48 c q.0, leb-true c 57 q.1), p.1);
  more = λ c cs within h. both (is_digit c) (list_all is_digit cs) (both (nat_le 48 c) (nat_le c 57) (le-leb 48 c within.0) (le-leb c 57 within.1)) h;
}

pub own : IsNumeralModel (λ ds. list_all is_digit ds ≡ true) (digits_value 10)
own = numerals_by_value (λ ds. list_all is_digit ds ≡ true) tells

digit_word : (byte : ℕ) → is_digit byte ≡ true → is_word_byte byte ≡ true
digit_word byte e = grind (arith, nat_tests)

pub record Numeral (word : List ℕ) : Type 0 where
  pub digits : list_all is_digit word ≡ true
  pub some : 0 < length word
  pub first : get_or word 0 0 ≡ 48 → length word ≡ 1

or_left : (a b : Bool) → (a || b) ≡ true → a ≡ false → b ≡ true
or_left true b h e = absurd cc
or_left false b h e = h

pub numeral_parts : (word : List ℕ) → is_numeral word ≡ true → Numeral word
numeral_parts [] h = absurd cc
numeral_parts (c ∷ cs) h =
    let p = and_parts (list_all is_digit (c ∷ cs)) (not (c == 48) || length cs == 0) h in
    record {
      digits = p.0;
      some = omega arith;
      first = λ (e : c ≡ 48). let q = rw e at p.1 in let none : length cs ≡ 0 = eqb-true (length cs) 0 q in omega arith;
    }

pub numeral_from : (word : List ℕ) → Numeral word → is_numeral word ≡ true
numeral_from [] n = absurd (omega (arith, n.some))
numeral_from (c ∷ cs) n =
    both (list_all is_digit (c ∷ cs)) (not (c == 48) || length cs == 0) n.digits
    (elim (cases_Bool (c == 48)) [
      | inl e ↦
          let one : length (c ∷ cs) ≡ 1 = n.first (eqb-true c 48 e) in
          let none : length cs ≡ 0 = omega arith in
          rw (e, none) refl
      | inr e ↦ rw e refl
    ])

decimal_numeral : (n : ℕ) → n < 2 ^ 64 → Numeral (decimal n)
decimal_numeral zero lt = rw (decimal_digit 0 (omega arith)) (record { digits = refl; some = omega arith; first = λ _. refl })
decimal_numeral (suc n) lt = record {
  digits = digits_decimal own (suc n) lt;
  some = decimal_nonempty (suc n) lt;
  first = λ e. absurd (omega (arith, first_decimal (suc n) (omega arith) lt));
}

number_again : (limit n : ℕ) → n < 2 ^ 64 → nat_lt n limit ≡ true → number_of limit (decimal n) ≡ Some n
unfolding number_of
number_again limit n lt h = rw (numeral_from (decimal n) (decimal_numeral n lt), digits_value-decimal own n lt, h) refl

number_found : (limit : ℕ) → limit ≤ 2 ^ 64 → (word : List ℕ) (n : ℕ) → number_of limit word ≡ Some n → (word ≡ decimal n) × (nat_lt n limit ≡ true)
unfolding number_of
number_found limit le word n h =
    let v = digits_value 10 word in
    let p = cond_some (is_numeral word && nat_lt v limit) v n h in
    let q = and_parts (is_numeral word) (nat_lt v limit) p.0 in
    let parts = numeral_parts word q.0 in
    let below : v < limit = ltb-true v limit q.1 in
    (sym (decimal-digits_value own word parts.digits parts.some parts.first (omega arith)) ∙ ap decimal p.1, ap (λ (m : ℕ). nat_lt m limit) (sym p.1) ∙ q.1)

pub decimal_words : (n : ℕ) → n < 2 ^ 64 → list_all is_word_byte (decimal n) ≡ true
decimal_words n lt = all_from is_digit is_word_byte digit_word (decimal n) (digits_decimal own n lt)

below_64 : (limit n : ℕ) → limit ≤ 2 ^ 64 → nat_lt n limit ≡ true → n < 2 ^ 64
below_64 limit n le h = omega (arith, ltb-true n limit h)

pub number_exact : (limit : ℕ) → limit ≤ 2 ^ 64 → Exact decimal (λ n. nat_lt n limit) (number_of limit)
number_exact limit le = record {
  found = number_found limit le;
  again = λ n h. number_again limit n (below_64 limit n le h) h;
  word = λ n h. decimal_words n (below_64 limit n le h);
}

-- ---- statuses

negative_found : (first : ℕ) (digits : List ℕ) (n : ℕ) (z : ℤ) → first ≡ 45 → number_of (2 ^ 31 + 1) digits ≡ Some n → negative n ≡ Some z → (first ∷ digits ≡ signed_decimal z) × (is_status z ≡ true)
negative_found first digits zero z e read made = absurd cc
negative_found first digits (suc m) z e read made =
    let found = number_found (2 ^ 31 + 1) (omega arith) digits (suc m) read in
    let is : negsuc m ≡ z = cc in
    rw (← is) (rw (e, found.0) refl, lt-ltb m (2 ^ 31) (omega (arith, ltb-true (suc m) (2 ^ 31 + 1) found.1)))

status_found : (word : List ℕ) (z : ℤ) → status_of word ≡ Some z → (word ≡ signed_decimal z) × (is_status z ≡ true)
unfolding status_of
status_found [] z h = absurd cc
status_found (first ∷ digits) z h =
    elim (cases_Bool (first == 45)) [
      | inl e ↦ option_and_then_some negative (number_of (2 ^ 31 + 1) digits) z (rw e at h) (λ n read made. negative_found first digits n z (eqb-true first 45 e) read made)
      | inr e ↦ option_and_then_some _ (number_of (2 ^ 31) (first ∷ digits)) z (rw e at h) (λ n read made.
          let found = number_found (2 ^ 31) (omega arith) (first ∷ digits) n read in
          let is : pos n ≡ z = cc in
          rw (← is) found)
    ]

digit_minus : (byte : ℕ) → is_digit byte ≡ true → (byte == 45) ≡ false
digit_minus byte e = grind (arith, nat_tests)

-- a word that doesn't begin with `-`
status_plain : (word : List ℕ) → 0 < length word → list_all is_digit word ≡ true → status_of word ≡ (number_of (2 ^ 31) word >>= λ n. Some (pos n))
unfolding status_of
status_plain [] some all = absurd (omega arith)
status_plain (c ∷ cs) some all =
    let h = and_parts (is_digit c) (list_all is_digit cs) all in
    rw (digit_minus c h.0) refl

status_again : (z : ℤ) → is_status z ≡ true → status_of (signed_decimal z) ≡ Some z
unfolding status_of
status_again (pos n) h =
    let lt : n < 2 ^ 64 = omega (arith, ltb-true n (2 ^ 31) h) in
    status_plain (decimal n) (decimal_nonempty n lt) (digits_decimal own n lt) ∙ ap (λ (o : Option ℕ). o >>= λ m. Some (pos m)) (number_again (2 ^ 31) n lt h)
status_again (negsuc n) h =
    let lt : n < 2 ^ 31 = ltb-true n (2 ^ 31) h in
    ap (λ (o : Option ℕ). o >>= negative) (number_again (2 ^ 31 + 1) (suc n) (omega arith) (lt-ltb (suc n) (2 ^ 31 + 1) (omega arith)))

status_words : (z : ℤ) → is_status z ≡ true → list_all is_word_byte (signed_decimal z) ≡ true
status_words (pos n) h = decimal_words n (omega (arith, ltb-true n (2 ^ 31) h))
status_words (negsuc n) h = decimal_words (suc n) (omega (arith, ltb-true n (2 ^ 31) h))

pub status_exact : Exact signed_decimal is_status status_of
status_exact = record { found = status_found; again = status_again; word = status_words }

-- ---- names

may_be_word : (at byte : ℕ) → may_stand at byte ≡ true → is_word_byte byte ≡ true
may_be_word at byte e = grind (arith, nat_tests)

some_none : (b : Bool) (o : Option ℕ) (at : ℕ) → cond b o (Some at) ≡ None → (b ≡ true) × (o ≡ None)
some_none true o at h = (refl, h)
some_none false o at h = absurd cc

fault_words : (at : ℕ) (bytes : List ℕ) → fault_from at bytes ≡ None → list_all is_word_byte bytes ≡ true
fault_words at [] h = refl
fault_words at (byte ∷ bytes) h =
    let p = some_none (nat_lt at 16 && may_stand at byte) (fault_from (at + 1) bytes) at h in
    let q = and_parts (nat_lt at 16) (may_stand at byte) p.0 in
    both (is_word_byte byte) (list_all is_word_byte bytes) (may_be_word at byte q.1) (fault_words (at + 1) bytes p.1)

none_is : (o : Option ℕ) → is_none o ≡ true → o ≡ None
none_is (Some x) h = absurd cc
none_is None h = refl

name_words : (name : List ℕ) → is_name name ≡ true → list_all is_word_byte name ≡ true
name_words [] h = refl
name_words (byte ∷ bytes) h = fault_words 0 (byte ∷ bytes) (none_is (name_fault (byte ∷ bytes)) h)

name_found : (word name : List ℕ) → name_of word ≡ Some name → (word ≡ name) × (is_name name ≡ true)
unfolding name_of
name_found word name h =
    let p = cond_some (is_none (name_fault word)) word name h in
    (p.1, ap is_name (sym p.1) ∙ p.0)

name_again : (name : List ℕ) → is_name name ≡ true → name_of name ≡ Some name
unfolding name_of
name_again name h = rw h refl

pub name_exact : Exact (λ name. name) is_name name_of
name_exact = record { found = name_found; again = name_again; word = name_words }
