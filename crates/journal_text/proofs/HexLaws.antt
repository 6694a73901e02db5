-- Words that are bytes.
use Rattle.std.proofs.Common.{◌≡◌, ℕ, zero, suc, ◌+◌, ◌-◌, ◌*◌, ◌/◌, ◌%◌, ◌<◌, Bool, true, false, cond, List, [], ◌∷◌, length, slice_index, Option, Some, None, Result, Ok, Err, refl, sym, ap, ◌∙◌, arith, inl, inr}
use Rattle.std.specs.Prelude.{◌==◌, ◌&&◌, nat_lt, nat_le, codes}
use Rattle.std.specs.List.{list_all}
use Rattle.std.specs.Str.{bytes_eq}
use Rattle.std.proofs.lemmas.Bool.{cases_Bool, cases_lt, and_parts, eqb-true, ltb-true, lt-ltb}
use Rattle.std.proofs.lemmas.Bool.Decides.{nat_tests}
use Rattle.std.proofs.lemmas.Option.{cond_some}
use Rattle.std.proofs.lemmas.Slice.Eq.{bytes_eq-Decides}
use Rattle.hex.specs.Hex.{IsBytes, decode_of, decode_pairs, digit_or_error, hex_digit_value, encode_lower, encode_with, lower_digits, pair_value, value_at, ◌>>=◌}
use Rattle.hex.specs.declared.error.FromHexError.{FromHexError}
use Rattle.hex.proofs.HexLemmas.{decode_of-encode_lower}
use Rattle.journal_text.specs.Words.{is_word_byte, bytes_text, are_bytes}
use Rattle.journal_text.specs.Reading.{is_lower_digit, decoded, bytes_of}
use Rattle.journal_text.proofs.ReadingLaws.{both, Exact}
use Rattle.journal_text.proofs.NumberLaws.{all_from}

-- a test of each number below n
abbrev below : (ℕ → Bool) → ℕ → Bool
below test zero = true
below test (suc n) = test n && below test n

below_at : (test : ℕ → Bool) (n k : ℕ) → below test n ≡ true → k < n → test k ≡ true
below_at test zero k h lt = absurd (omega arith)
below_at test (suc n) k h lt =
    let parts = and_parts (test n) (below test n) h in
    elim (cases_lt k n) [
      | inl under ↦ below_at test n k parts.1 under
      | inr top ↦
          let e : k ≡ n = omega arith in
          rw e parts.0
    ]

-- the digit of a number below 16
abbrev digit_byte : ℕ → ℕ
digit_byte d = cond (nat_lt d 10) (48 + d) (87 + d)

table : (d : ℕ) → d < 16 → slice_index lower_digits d ≡ digit_byte d
table d lt = eqb-true (slice_index lower_digits d) (digit_byte d) (below_at (λ k. slice_index lower_digits k == digit_byte k) 16 d refl lt)

lower_at : (d : ℕ) → d < 16 → is_lower_digit (slice_index lower_digits d) ≡ true
lower_at d lt = below_at (λ k. is_lower_digit (slice_index lower_digits k)) 16 d refl lt

-- a lower digit that has a value is the digit of that value
digit_found : (c v : ℕ) → is_lower_digit c ≡ true → hex_digit_value c ≡ Some v → (v < 16) × (digit_byte v ≡ c)
digit_found c v lower h =
    elim (cases_Bool (nat_le 65 c && nat_le c 70)) [
      | inl e ↦ absurd (grind (arith, nat_tests))
      | inr e1 ↦
          let h1 = rw e1 at h in
          elim (cases_Bool (nat_le 97 c && nat_le c 102)) [
            | inl e ↦ let is : c - 87 ≡ v = (let h2 = rw e at h1 in cc) in grind (arith, nat_tests)
            | inr e2 ↦
                let h2 = rw e2 at h1 in
                let p = cond_some (nat_le 48 c && nat_le c 57) (c - 48) v h2 in
                let is = p.1 in let within = p.0 in grind (arith, nat_tests)
          ]
    ]

-- what a step that did not fail shows
bind_ok : {A B : Type 0} (r : Result A FromHexError) (f : A → Result B FromHexError) (y : B) → (r >>= f) ≡ Ok y → (x : A) × (r ≡ Ok x) × (f x ≡ Ok y)
bind_ok (Ok x) f y h = (x, refl, h)
bind_ok (Err e) f y h = absurd cc

some_value : (c i : ℕ) (o : Option ℕ) (v : ℕ) → digit_or_error c i o ≡ Ok v → o ≡ Some v
some_value c i (Some w) v h = let e : w ≡ v = cc in ap Some e
some_value c i None v h = absurd cc

value_found : (c i v : ℕ) → is_lower_digit c ≡ true → value_at c i ≡ Ok v → (v < 16) × (digit_byte v ≡ c)
value_found c i v lower h = digit_found c v lower (some_value c i (hex_digit_value c) v h)

ok_is : {A : Type 0} (x y : A) → ◌≡◌ {A = Result A FromHexError} (Ok x) (Ok y) → x ≡ y
ok_is x y e = cc

pub record Decoded (word bytes : List ℕ) : Type 0 where
  pub text : encode_lower bytes ≡ word
  pub small : are_bytes bytes ≡ true

pairs_found : (i : ℕ) (word bytes : List ℕ) → list_all is_lower_digit word ≡ true → decode_pairs i word ≡ Ok bytes → Decoded word bytes
unfolding decode_pairs encode_with
pairs_found i [] bytes all h = let e : [] ≡ bytes = ok_is [] bytes h in rw (← e) (record { text = refl; small = refl })
pairs_found i (digit ∷ []) bytes all h = absurd cc
pairs_found i (high ∷ low ∷ rest) bytes all h =
    let p = and_parts (is_lower_digit high) (list_all is_lower_digit (low ∷ rest)) all in
    let q = and_parts (is_lower_digit low) (list_all is_lower_digit rest) p.1 in
    let one = bind_ok (pair_value high low i) (λ byte. decode_pairs (i + 2) rest >>= λ others. Ok (byte ∷ others)) bytes h in
    let two = bind_ok (decode_pairs (i + 2) rest) (λ others. Ok (one.0 ∷ others)) bytes one.2 in
    let first = bind_ok (value_at high i) (λ h. value_at low (i + 1) >>= λ l. Ok (h * 16 + l)) one.0 one.1 in
    let second = bind_ok (value_at low (i + 1)) (λ l. Ok (first.0 * 16 + l)) one.0 first.2 in
    let m = value_found high i first.0 p.0 first.1 in
    let n = value_found low (i + 1) second.0 q.0 second.1 in
    let sum : first.0 * 16 + second.0 ≡ one.0 = ok_is (first.0 * 16 + second.0) one.0 second.2 in
    let others = pairs_found (i + 2) rest two.0 q.1 two.1 in
    let whole : one.0 ∷ two.0 ≡ bytes = ok_is (one.0 ∷ two.0) bytes two.2 in
    let upper : one.0 / 16 ≡ first.0 = omega (arith, m.0, n.0, sum) in
    let lower : one.0 % 16 ≡ second.0 = omega (arith, m.0, n.0, sum) in
    let small : nat_lt one.0 256 ≡ true = lt-ltb one.0 256 (omega (arith, m.0, n.0, sum)) in
    let a : slice_index lower_digits (one.0 / 16) ≡ high = ap (slice_index lower_digits) upper ∙ table first.0 m.0 ∙ m.1 in
    let b : slice_index lower_digits (one.0 % 16) ≡ low = ap (slice_index lower_digits) lower ∙ table second.0 n.0 ∙ n.1 in
    rw (← whole) (record { text = rw (a, b, others.text) refl; small = both (nat_lt one.0 256) (are_bytes two.0) small others.small })

decoded_is : (r : Result (List ℕ) FromHexError) (bytes : List ℕ) → decoded r ≡ Some bytes → r ≡ Ok bytes
decoded_is (Ok x) bytes h = let e : x ≡ bytes = cc in ap Ok e
decoded_is (Err e) bytes h = absurd cc

-- what decodes has an even length
of_pairs : (word bytes : List ℕ) → decode_of word ≡ Ok bytes → decode_pairs 0 word ≡ Ok bytes
of_pairs word bytes h =
    elim (cases_Bool (length word % 2 == 1)) [
      | inl e ↦ absurd (let h1 = rw e at h in cc)
      | inr e ↦ rw e at h
    ]

some_text : (bytes word : List ℕ) → Decoded word bytes → nat_lt 0 (length word) ≡ true → (word ≡ bytes_text bytes) × (are_bytes bytes ≡ true)
unfolding encode_with
some_text [] word d some = absurd (let none : [] ≡ word = d.text in let h = rw (← none) at some in cc)
some_text (byte ∷ bytes) word d some = (sym d.text, d.small)

bytes_found : (word bytes : List ℕ) → bytes_of word ≡ Some bytes → (word ≡ bytes_text bytes) × (are_bytes bytes ≡ true)
unfolding bytes_of
bytes_found word bytes h =
    elim (cases_Bool (bytes_eq word (codes "-"))) [
      | inl e ↦
          let is : word ≡ codes "-" = (bytes_eq-Decides word (codes "-")).0 e in
          let none : [] ≡ bytes = (let h1 = rw e at h in cc) in
          rw (← none, is) (refl, refl)
      | inr e ↦
          let h1 = rw e at h in
          elim (cases_Bool (list_all is_lower_digit word && nat_lt 0 (length word))) [
            | inl t ↦
                let p = and_parts (list_all is_lower_digit word) (nat_lt 0 (length word)) t in
                let d = pairs_found 0 word bytes p.0 (of_pairs word bytes (decoded_is (decode_of word) bytes (rw t at h1))) in
                some_text bytes word d p.1
            | inr f ↦ absurd (let h2 = rw f at h1 in cc)
          ]
    ]

encode_lower_digits : (bytes : List ℕ) → are_bytes bytes ≡ true → list_all is_lower_digit (encode_lower bytes) ≡ true
unfolding encode_with
encode_lower_digits [] all = refl
encode_lower_digits (byte ∷ bytes) all =
    let h = and_parts (nat_lt byte 256) (are_bytes bytes) all in
    let lt : byte < 256 = ltb-true byte 256 h.0 in
    both (is_lower_digit (slice_index lower_digits (byte / 16))) (list_all is_lower_digit (slice_index lower_digits (byte % 16) ∷ encode_lower bytes)) (lower_at (byte / 16) (omega arith))
    (both (is_lower_digit (slice_index lower_digits (byte % 16))) (list_all is_lower_digit (encode_lower bytes)) (lower_at (byte % 16) (omega arith)) (encode_lower_digits bytes h.1))

is_bytes : (bytes : List ℕ) → are_bytes bytes ≡ true → IsBytes bytes
is_bytes [] all i = omega arith
is_bytes (byte ∷ bytes) all zero = ltb-true byte 256 (and_parts (nat_lt byte 256) (are_bytes bytes) all).0
is_bytes (byte ∷ bytes) all (suc i) = is_bytes bytes (and_parts (nat_lt byte 256) (are_bytes bytes) all).1 i

and_false : (b : Bool) → (b && false) ≡ false
and_false true = refl
and_false false = refl

not_dash : (byte : ℕ) (bytes : List ℕ) → bytes_eq (encode_lower (byte ∷ bytes)) (codes "-") ≡ false
unfolding encode_with
not_dash byte bytes = and_false (slice_index lower_digits (byte / 16) == 45)

some_digits : (byte : ℕ) (bytes : List ℕ) → nat_lt 0 (length (encode_lower (byte ∷ bytes))) ≡ true
unfolding encode_with
some_digits byte bytes = lt-ltb 0 (length (encode_lower (byte ∷ bytes))) (omega arith)

bytes_again : (bytes : List ℕ) → are_bytes bytes ≡ true → bytes_of (bytes_text bytes) ≡ Some bytes
unfolding bytes_of
bytes_again [] all = refl
bytes_again (byte ∷ bytes) all =
    rw (not_dash byte bytes, encode_lower_digits (byte ∷ bytes) all, some_digits byte bytes, decode_of-encode_lower (byte ∷ bytes) (is_bytes (byte ∷ bytes) all)) refl

lower_word : (byte : ℕ) → is_lower_digit byte ≡ true → is_word_byte byte ≡ true
lower_word byte e = grind (arith, nat_tests)

bytes_words : (bytes : List ℕ) → are_bytes bytes ≡ true → list_all is_word_byte (bytes_text bytes) ≡ true
bytes_words [] all = refl
bytes_words (byte ∷ bytes) all = all_from is_lower_digit is_word_byte lower_word (encode_lower (byte ∷ bytes)) (encode_lower_digits (byte ∷ bytes) all)

pub bytes_exact : Exact bytes_text are_bytes bytes_of
bytes_exact = record { found = bytes_found; again = bytes_again; word = bytes_words }
