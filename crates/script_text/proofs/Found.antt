-- What reading gives stands in front, spelled by the grammar.
use Rattle.std.proofs.Common.{◌≡◌, ℕ, ℤ, pos, negsuc, zero, suc, ◌+◌, ◌-◌, ◌*◌, ◌<◌, ◌≤◌, ◌^◌, Bool, true, false, List, [], ◌∷◌, ◌++◌, length, get_or, Option, Some, None, refl, sym, ap, subst, ◌∙◌, append_assoc, arith, inl, inr, ◌⊎◌}
use Rattle.std.specs.Prelude.{◌&&◌, ◌==◌, nat_le, FitsSigned}
use Rattle.std.specs.List.{prefix_len, take_while}
use Rattle.std.specs.Int.{w64}
use Rattle.std.proofs.lemmas.Bool.{cases_Bool, and_parts, eqb-true, eqb-false, leb-true, ltb-true, lt-ltb, le-ltb}
use Rattle.std.proofs.lemmas.Option.{cond_some, option_and_then_some}
use Rattle.std.proofs.lemmas.List.{length-take-le}
use Rattle.std.proofs.lemmas.List.Sums.{prefix_len-le-length}
use Rattle.port_terms.specs.declared.values.TheConstants.{MAX_ITEMS}
use Rattle.script_text.specs.Tokens.{is_digit, is_name, is_name_byte, value_of, IsDigits, SpellsNumber, SpellsWhole}
use Rattle.script_text.specs.Tokens as T
use Rattle.script_text.specs.Texts.{hex_digit, SpellsByte, SpellsBytes, SpellsText}
use Rattle.script_text.specs.Texts as X
use Rattle.script_text.specs.InFront.{InFront}
use Rattle.script_text.specs.Reading.{behind, after, after_twice, number_at, fits, signed, digits_at, whole_at, name_at, hex_value, hexadecimal_at, escape_at, byte_at, content_at, text_at}
use Rattle.script_text.proofs.Fronts.{front_passes, front_parts, front_stops}

-- a value that was read, or none
pub cases_option : {A : Type 0} (o : Option A) → ((x : A) × (o ≡ Some x)) ⊎ (o ≡ None)
cases_option (Some x) = inl (x, refl)
cases_option None = inr refl

-- the first byte is this one
pub after_is : (byte : ℕ) (bytes rest : List ℕ) → after byte bytes ≡ Some rest → bytes ≡ byte ∷ rest
after_is byte [] rest h = absurd cc
after_is byte (x ∷ xs) rest h =
    let p = cond_some (x == byte) xs rest h in
    rw (eqb-true x byte p.0, p.1) refl

pub after_twice_is : (byte : ℕ) (bytes rest : List ℕ) → after_twice byte bytes ≡ Some rest → bytes ≡ byte ∷ byte ∷ rest
after_twice_is byte bytes rest h =
    option_and_then_some (after byte) (after byte bytes) rest h (λ inner first second. after_is byte bytes inner first ∙ ap (λ (xs : List ℕ). byte ∷ xs) (after_is byte inner rest second))

-- ---- numbers and names

some_le : (n : ℕ) → nat_le 1 n ≡ true → 1 ≤ n
some_le n e = leb-true 1 n e

digits_found : (bytes : List ℕ) → nat_le 1 (prefix_len is_digit bytes) ≡ true → IsDigits (take_while is_digit bytes)
digits_found bytes e =
    record { digits = front_passes is_digit bytes; some = omega (arith, leb-true 1 (prefix_len is_digit bytes) e, length-take-le (prefix_len is_digit bytes) bytes (prefix_len-le-length is_digit bytes)) }

pub number_found : (bytes : List ℕ) (number : ℕ) (rest : List ℕ) → number_at bytes ≡ Some (number, rest) → InFront SpellsNumber number bytes rest
number_found bytes number rest h =
    let front = take_while is_digit bytes in
    let p = cond_some (nat_le 1 (prefix_len is_digit bytes) && nat_le (prefix_len is_digit bytes) 10) (value_of front, behind is_digit bytes) (number, rest) h in
    let q = and_parts (nat_le 1 (prefix_len is_digit bytes)) (nat_le (prefix_len is_digit bytes) 10) p.0 in
    subst (λ (x : ℕ × List ℕ). InFront SpellsNumber x.0 bytes x.1) p.1
    (record {
      text = front;
      parts = front_parts is_digit bytes;
      spelled = record {
        digits = digits_found bytes q.0;
        few = omega (arith, leb-true (prefix_len is_digit bytes) 10 q.1, length-take-le (prefix_len is_digit bytes) bytes (prefix_len-le-length is_digit bytes));
        value = refl;
      };
    })

-- all of its digits were read
pub number_end : (bytes : List ℕ) (number : ℕ) (rest : List ℕ) → number_at bytes ≡ Some (number, rest) → is_digit (get_or rest 0 0) ≡ false
number_end bytes number rest h =
    let front = take_while is_digit bytes in
    let p = cond_some (nat_le 1 (prefix_len is_digit bytes) && nat_le (prefix_len is_digit bytes) 10) (value_of front, behind is_digit bytes) (number, rest) h in
    subst (λ (x : ℕ × List ℕ). is_digit (get_or x.1 0 0) ≡ false) p.1 (front_stops is_digit bytes refl)

fits_signed : (z : ℤ) → fits z ≡ true → FitsSigned w64 z
fits_signed (pos n) e = record { sfits = ltb-true n (2 ^ 63) e }
fits_signed (negsuc n) e = record { sfits = ltb-true n (2 ^ 63) e }

signed_found : (minus : Bool) (bytes : List ℕ) (number : ℤ) (rest : List ℕ) → digits_at minus bytes ≡ Some (number, rest)
    → (text : List ℕ) × (bytes ≡ text ++ rest) × IsDigits text × FitsSigned w64 (signed minus (value_of text)) × (number ≡ signed minus (value_of text))
signed_found minus bytes number rest h =
    let front = take_while is_digit bytes in
    let p = cond_some (nat_le 1 (prefix_len is_digit bytes) && fits (signed minus (value_of front))) (signed minus (value_of front), behind is_digit bytes) (number, rest) h in
    let q = and_parts (nat_le 1 (prefix_len is_digit bytes)) (fits (signed minus (value_of front))) p.0 in
    (front, (front_parts is_digit bytes ∙ ap (λ (x : ℤ × List ℕ). front ++ x.1) p.1), digits_found bytes q.0, fits_signed (signed minus (value_of front)) q.1, sym (ap (λ (x : ℤ × List ℕ). x.0) p.1))

pub whole_found : (bytes : List ℕ) (number : ℤ) (rest : List ℕ) → whole_at bytes ≡ Some (number, rest) → InFront SpellsWhole number bytes rest
unfolding whole_at
whole_found [] number rest h =
    let d = signed_found false [] number rest h in
    subst (λ (z : ℤ). InFront SpellsWhole z [] rest) (sym d.4) (record { text = d.0; parts = d.1; spelled = T.plain d.0 d.2 d.3 })
whole_found (first ∷ xs) number rest h =
    elim (cases_Bool (first == 45)) [
      | inl e ↦
          let minus : first ≡ 45 = eqb-true first 45 e in
          let d = signed_found true xs number rest (rw e at h) in
          subst (λ (z : ℤ). InFront SpellsWhole z (first ∷ xs) rest) (sym d.4) (record { text = 45 ∷ d.0; parts = ap (λ (byte : ℕ). byte ∷ xs) minus ∙ ap (λ (ys : List ℕ). 45 ∷ ys) d.1; spelled = T.minus d.0 d.2 d.3 })
      | inr e ↦
          let d = signed_found false (first ∷ xs) number rest (rw e at h) in
          subst (λ (z : ℤ). InFront SpellsWhole z (first ∷ xs) rest) (sym d.4) (record { text = d.0; parts = d.1; spelled = T.plain d.0 d.2 d.3 })
    ]

pub name_found : (bytes name rest : List ℕ) → name_at bytes ≡ Some (name, rest) → InFront (λ value text. (value ≡ text) × (is_name text ≡ true)) name bytes rest
unfolding name_at
name_found bytes name rest h =
    let front = take_while is_name_byte bytes in
    let p = cond_some (is_name front) (front, behind is_name_byte bytes) (name, rest) h in
    subst (λ (x : List ℕ × List ℕ). InFront (λ (value text : List ℕ). (value ≡ text) × (is_name text ≡ true)) x.0 bytes x.1) p.1
    (record { text = front; parts = front_parts is_name_byte bytes; spelled = (refl, p.0) })

-- ---- texts

-- the number below 16 of a digit that stands there
hex_found : (byte value : ℕ) → hex_value byte ≡ Some value → (value < 16) × (hex_digit value ≡ byte)
hex_found byte value h =
    elim (cases_Bool (is_digit byte)) [
      | inl e ↦
          let h' = rw e at h in
          let is : byte - 48 ≡ value = cc in
          let q = and_parts (nat_le 48 byte) (nat_le byte 57) e in
          let low = leb-true 48 byte q.0 in
          let high = leb-true byte 57 q.1 in
          (omega arith, rw (lt-ltb value 10 (omega arith)) (omega arith))
      | inr e ↦
          let h' = rw e at h in
          let p = cond_some (nat_le 97 byte && nat_le byte 102) (byte - 87) value h' in
          let is = p.1 in
          let q = and_parts (nat_le 97 byte) (nat_le byte 102) p.0 in
          let low = leb-true 97 byte q.0 in
          let high = leb-true byte 102 q.1 in
          (omega arith, rw (le-ltb value 10 (omega arith)) (omega arith))
    ]

hexadecimal_found : (bytes : List ℕ) (byte : ℕ) (rest : List ℕ) → hexadecimal_at bytes ≡ Some (byte, rest) → InFront SpellsByte byte (92 ∷ 120 ∷ bytes) rest
hexadecimal_found [] byte rest h = absurd cc
hexadecimal_found (high ∷ []) byte rest h = absurd cc
hexadecimal_found (high ∷ low ∷ xs) byte rest h =
    option_and_then_some _ (hex_value high) (byte, rest) h (λ m first others. option_and_then_some _ (hex_value low) (byte, rest) others (λ n second made.
    let p = hex_found high m first in
    let q = hex_found low n second in
    let e : (16 * m + n, xs) ≡ (byte, rest) = cc in
    subst (λ (x : ℕ × List ℕ). InFront SpellsByte x.0 (92 ∷ 120 ∷ high ∷ low ∷ xs) x.1) e
    (record { text = 92 ∷ 120 ∷ hex_digit m ∷ hex_digit n ∷ []; parts = rw (p.1, q.1) refl; spelled = X.hexadecimal m n p.0 q.0 })))

-- an escape of one letter
escaped : (kind code byte byte' : ℕ) (rest rest' : List ℕ) → (kind == code) ≡ true → SpellsByte byte (92 ∷ code ∷ []) → ◌≡◌ {A = Option (ℕ × List ℕ)} (Some (byte, rest)) (Some (byte', rest')) → InFront SpellsByte byte' (92 ∷ kind ∷ rest) rest'
escaped kind code byte byte' rest rest' e spelled h =
    let is : kind ≡ code = eqb-true kind code e in
    let same : (byte, rest) ≡ (byte', rest') = cc in
    subst (λ (x : ℕ × List ℕ). InFront SpellsByte x.0 (92 ∷ kind ∷ rest) x.1) same (record { text = 92 ∷ code ∷ []; parts = rw is refl; spelled = spelled })

escape_found : (bytes : List ℕ) (byte : ℕ) (rest : List ℕ) → escape_at bytes ≡ Some (byte, rest) → InFront SpellsByte byte (92 ∷ bytes) rest
escape_found [] byte rest h = absurd cc
escape_found (kind ∷ xs) byte rest h =
    elim (cases_Bool (kind == 110)) [
      | inl e ↦ escaped kind 110 10 byte xs rest e X.newline (rw e at h)
      | inr e1 ↦
          let h1 = rw e1 at h in
          elim (cases_Bool (kind == 114)) [
            | inl e ↦ escaped kind 114 13 byte xs rest e X.carriage_return (rw e at h1)
            | inr e2 ↦
                let h2 = rw e2 at h1 in
                elim (cases_Bool (kind == 116)) [
                  | inl e ↦ escaped kind 116 9 byte xs rest e X.tab (rw e at h2)
                  | inr e3 ↦
                      let h3 = rw e3 at h2 in
                      elim (cases_Bool (kind == 92)) [
                        | inl e ↦ escaped kind 92 92 byte xs rest e X.backslash (rw e at h3)
                        | inr e4 ↦
                            let h4 = rw e4 at h3 in
                            elim (cases_Bool (kind == 34)) [
                              | inl e ↦ escaped kind 34 34 byte xs rest e X.quote (rw e at h4)
                              | inr e5 ↦
                                  let h5 = rw e5 at h4 in
                                  elim (cases_Bool (kind == 120)) [
                                    | inl e ↦
                                        let is : kind ≡ 120 = eqb-true kind 120 e in
                                        rw is (hexadecimal_found xs byte rest (rw e at h5))
                                    | inr e ↦ absurd (let h6 = rw e at h5 in cc)
                                  ]
                            ]
                      ]
                ]
          ]
    ]

pub byte_found : (bytes : List ℕ) (byte : ℕ) (rest : List ℕ) → byte_at bytes ≡ Some (byte, rest) → InFront SpellsByte byte bytes rest
unfolding byte_at
byte_found [] byte rest h = absurd cc
byte_found (first ∷ xs) byte rest h =
    elim (cases_Bool (first == 34)) [
      | inl e ↦ absurd (let h0 = rw e at h in cc)
      | inr e1 ↦
          let h1 = rw e1 at h in
          elim (cases_Bool (first == 92)) [
            | inl e ↦ let is : first ≡ 92 = eqb-true first 92 e in rw is (escape_found xs byte rest (rw e at h1))
            | inr e ↦
                let h2 = rw e at h1 in
                let same : (first, xs) ≡ (byte, rest) = cc in
                subst (λ (x : ℕ × List ℕ). InFront SpellsByte x.0 (first ∷ xs) x.1) same
                (record { text = first ∷ []; parts = refl; spelled = X.itself first (eqb-false first 34 e1) (eqb-false first 92 e) })
          ]
    ]

-- fewer than n bytes, and the closing quote
pub record Content (n : ℕ) (value bytes rest : List ℕ) : Type 0 where
  pub content : List ℕ
  pub parts : bytes ≡ content ++ 34 ∷ rest
  pub spelled : SpellsBytes value content
  pub few : length value < n

content_found : (n : ℕ) (bytes value rest : List ℕ) → content_at n bytes ≡ Some (value, rest) → Content n value bytes rest
unfolding content_at
content_found zero bytes value rest h = absurd cc
content_found (suc n) bytes value rest h =
    elim (cases_option (after 34 bytes)) [
      | inl closed ↦
          let h' = rw closed.1 at h in
          let same : ([], closed.0) ≡ (value, rest) = cc in
          subst (λ (x : List ℕ × List ℕ). Content (suc n) x.0 bytes x.1) same
          (record { content = []; parts = after_is 34 bytes closed.0 closed.1; spelled = X.nothing; few = omega arith })
      | inr unclosed ↦
          let h' = rw unclosed at h in
          option_and_then_some _ (byte_at bytes) (value, rest) h' (λ byte first others. option_and_then_some _ (content_at n byte.1) (value, rest) others (λ behind second made.
          let one = byte_found bytes byte.0 byte.1 first in
          let all = content_found n byte.1 behind.0 behind.1 second in
          let same : (byte.0 ∷ behind.0, behind.1) ≡ (value, rest) = cc in
          subst (λ (x : List ℕ × List ℕ). Content (suc n) x.0 bytes x.1) same
          (record {
            content = one.text ++ all.content;
            parts = one.parts ∙ ap (λ (xs : List ℕ). one.text ++ xs) all.parts ∙ sym (append_assoc one.text all.content (34 ∷ behind.1));
            spelled = X.one_more byte.0 behind.0 one.text all.content one.spelled all.spelled;
            few = omega (arith, all.few);
          })))
    ]

pub text_found : (bytes value rest : List ℕ) → text_at bytes ≡ Some (value, rest) → InFront SpellsText value bytes rest
unfolding text_at
text_found bytes value rest h =
    option_and_then_some _ (after 34 bytes) (value, rest) h (λ inner first second.
    let c = content_found (MAX_ITEMS + 1) inner value rest second in
    record {
      text = 34 ∷ c.content ++ 34 ∷ [];
      parts = after_is 34 bytes inner first ∙ ap (λ (xs : List ℕ). 34 ∷ xs) (c.parts ∙ sym (append_assoc c.content (34 ∷ []) rest));
      spelled = record { content = c.content; quoted = refl; spelled = c.spelled; few = omega (arith, c.few) };
    })
