use Rattle.std.proofs.Common.{◌≡◌, ℕ, ◌^◌, ◌<◌, true, List, length, Some, Result, Ok, Err, refl, sym, ap, ◌∙◌, inl, inr, subst}
use Rattle.std.specs.Result.{OkIff, result_ok}
use Rattle.std.specs.Str.Parse.{digits_value, ParsesUnsigned}
use Rattle.std.proofs.lemmas.Bool.{cases_lt, lt-ltb, le-ltb}
use Rattle.std.proofs.lemmas.Str.{IsUtf8-from_ascii}
use Rattle.std.proofs.lemmas.Str.Parse.{parse_digits}
use Rattle.std.proofs.lemmas.Fmt.{IsAscii-from_digits}
use Rattle.journal_text.specs.Reading.{is_numeral, number_of}
use Rattle.journal_text.proofs.NumberLaws.{own, numeral_parts}
use Rattle.journal_text.proofs.words.number_of.Goals as goal

-- what `parse` gives of a numeral
parsed : {E : Type 0} (word : List ℕ) (r : Result ℕ E) → is_numeral word ≡ true → OkIff r ((0 < length word) × (digits_value 10 word < 2 ^ 64)) (digits_value 10 word) → result_ok r ≡ number_of (2 ^ 64) word
unfolding number_of
parsed word (Ok n) h is = rw (h, lt-ltb (digits_value 10 word) (2 ^ 64) is.0.1) (ap Some is.1)
parsed word (Err e) h is =
    elim (cases_lt (digits_value 10 word) (2 ^ 64)) [
      | inl lt ↦ absurd (is ((numeral_parts word h).some, lt))
      | inr le ↦ rw (h, le-ltb (digits_value 10 word) (2 ^ 64) le) refl
    ]

pub returns-in-Err : goal.returns-in-Err
returns-in-Err c =
    let word = c.args.word.now in
    let n : is_numeral c.args.word.now ≡ true = sym c.is_numeral.ensures ∙ c.if-not-is_numeral.false in
    absurd (c.in-Err.ensures.cases.0 (IsUtf8-from_ascii word (IsAscii-from_digits word (own.to word (numeral_parts word n).digits))))

pub returns-in-Ok : goal.returns-in-Ok
returns-in-Ok c =
    let word = c.args.word.now in
    let n : is_numeral c.args.word.now ≡ true = sym c.is_numeral.ensures ∙ c.if-not-is_numeral.false in
    let p : ParsesUnsigned 64 10 c.args.word.now c.parse.result = subst (λ (text : List ℕ). ParsesUnsigned 64 10 text c.parse.result) c.in-Ok.ensures.cases.0 c.parse.ensures.value.0 in
    c.ok.ensures.value ∙ parsed word c.parse.result n (parse_digits own 64 word c.parse.result p (numeral_parts word n).digits)
