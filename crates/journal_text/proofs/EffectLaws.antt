-- The outside's answers, and effects.
use Rattle.std.proofs.Common.{◌≡◌, ℕ, ◌^◌, ◌≤◌, Bool, true, false, List, [], ◌∷◌, ◌++◌, Some, refl, ◌∙◌, arith, inl, inr}
use Rattle.std.specs.Prelude.{nat_lt, codes}
use Rattle.std.specs.List.{list_all}
use Rattle.std.specs.Str.{bytes_eq}
use Rattle.std.specs.Fmt.{decimal, signed_decimal}
use Rattle.std.proofs.lemmas.Bool.{and_parts, cases_Bool}
use Rattle.std.proofs.lemmas.Option.{option_and_then_some}
use Rattle.io_vector.specs.declared.flag.Flag.{Flag}
use Rattle.io_vector.specs.declared.flag.Flag.TheVariants as flag
use Rattle.port_signal.specs.declared.outside.Outside.{Outside}
use Rattle.port_signal.specs.declared.outside.Outside.TheVariants as answer
use Rattle.port_model.specs.declared.event.Dir.{Dir}
use Rattle.port_model.specs.declared.event.Dir.TheVariants.{Read, Write}
use Rattle.port_model.specs.declared.effect.Effect.{Effect}
use Rattle.port_model.specs.declared.effect.Effect.TheVariants as effect
use Rattle.journal_text.specs.Words.{is_word_byte, bytes_text, are_bytes, is_name, is_status}
use Rattle.journal_text.specs.Effects.{answer_text, is_answer, flag_text, dir_text, bit_text, effect_text, is_effect}
use Rattle.journal_text.specs.Reading.{made, pair_at, field_at, number_at, name_at, bytes_of, bytes_at, status_of, status_at, answer_by, answer_at, flag_of, dir_of, bit_of, reply_of, asking_by, effect_by, effect_at}
use Rattle.journal_text.proofs.ReadingLaws.{both, ends, Law, By, field_law, pair_law, pair_text, pair_fits, nothing, tag, bare, part, part_again, own_part, word_then, by_word_law}
use Rattle.journal_text.proofs.NumberLaws.{status_exact}
use Rattle.journal_text.proofs.HexLaws.{bytes_exact}
use Rattle.journal_text.proofs.SenderLaws.{word_is, meant, never}
use Rattle.journal_text.proofs.TaskLaws.{number_law, law_64, law_32, name_law, bytes_law}

status_law : Law signed_decimal is_status status_at
status_law = field_law signed_decimal is_status status_of status_exact

-- ---- answers

answer_found : By answer_text is_answer answer_by
unfolding answer_by
answer_found = record {
  found = (tag answer_text is_answer (codes "took") _ _ (part answer_text is_answer (codes "took") decimal (λ n. nat_lt n (2 ^ 32)) (number_at (2 ^ 32)) answer.Took law_32 refl (λ x. refl) (λ x h. h))
      (tag answer_text is_answer (codes "got") _ _ (part answer_text is_answer (codes "got") bytes_text are_bytes bytes_at answer.Got bytes_law refl (λ x. refl) (λ x h. h))
      (tag answer_text is_answer (codes "again") _ _ (bare answer_text is_answer answer.Again refl refl)
      (tag answer_text is_answer (codes "end") _ _ (bare answer_text is_answer answer.End refl refl)
      (tag answer_text is_answer (codes "failed") _ _ (bare answer_text is_answer answer.Failed refl refl)
      (tag answer_text is_answer (codes "status") _ _ (part answer_text is_answer (codes "status") signed_decimal is_status status_at answer.Status status_law refl (λ x. refl) (λ x h. h))
      (nothing answer_text is_answer))))))).found;
}

answer_again : (x : Outside) (rest : List ℕ) → is_answer x ≡ true → ends rest ≡ true → answer_at (answer_text x ++ rest) ≡ Some (x, rest)
unfolding answer_by
answer_again (answer.Took n) rest h e = word_then answer_by (codes "took") (32 ∷ (decimal n ++ rest)) refl refl ∙ part_again decimal (λ n. nat_lt n (2 ^ 32)) (number_at (2 ^ 32)) answer.Took law_32 n rest h e
answer_again (answer.Got bytes) rest h e = word_then answer_by (codes "got") (32 ∷ (bytes_text bytes ++ rest)) refl refl ∙ part_again bytes_text are_bytes bytes_at answer.Got bytes_law bytes rest h e
answer_again answer.Again rest h e = word_then answer_by (codes "again") rest refl e
answer_again answer.End rest h e = word_then answer_by (codes "end") rest refl e
answer_again answer.Failed rest h e = word_then answer_by (codes "failed") rest refl e
answer_again (answer.Status z) rest h e = word_then answer_by (codes "status") (32 ∷ (signed_decimal z ++ rest)) refl refl ∙ part_again signed_decimal is_status status_at answer.Status status_law z rest h e

pub answer_law : Law answer_text is_answer answer_at
answer_law = by_word_law answer_text is_answer answer_by answer_found answer_again

-- ---- words of effects

flag_found : (word : List ℕ) (x : Flag) → flag_of word ≡ Some x → (word ≡ flag_text x) × (true ≡ true)
unfolding flag_of
flag_found word x h =
    (meant flag_text word (codes "plain") flag.Plain x _ refl (meant flag_text word (codes "eol") flag.Eol x _ refl (meant flag_text word (codes "noeol") flag.Noeol x _ refl (never flag_text word x))) h, refl)

flag_again : (x : Flag) → true ≡ true → flag_of (flag_text x) ≡ Some x
unfolding flag_of
flag_again flag.Plain h = refl
flag_again flag.Eol h = refl
flag_again flag.Noeol h = refl

flag_words : (x : Flag) → true ≡ true → list_all is_word_byte (flag_text x) ≡ true
flag_words flag.Plain h = refl
flag_words flag.Eol h = refl
flag_words flag.Noeol h = refl

flag_law : Law flag_text (λ x. true) (field_at flag_of)
flag_law = field_law flag_text (λ x. true) flag_of (record { found = flag_found; again = flag_again; word = flag_words })

dir_found : (word : List ℕ) (x : Dir) → dir_of word ≡ Some x → (word ≡ dir_text x) × (true ≡ true)
unfolding dir_of
dir_found word x h = (meant dir_text word (codes "r") Read x _ refl (meant dir_text word (codes "w") Write x _ refl (never dir_text word x)) h, refl)

dir_again : (x : Dir) → true ≡ true → dir_of (dir_text x) ≡ Some x
unfolding dir_of
dir_again Read h = refl
dir_again Write h = refl

dir_words : (x : Dir) → true ≡ true → list_all is_word_byte (dir_text x) ≡ true
dir_words Read h = refl
dir_words Write h = refl

dir_law : Law dir_text (λ x. true) (field_at dir_of)
dir_law = field_law dir_text (λ x. true) dir_of (record { found = dir_found; again = dir_again; word = dir_words })

bit_found : (word : List ℕ) (x : Bool) → bit_of word ≡ Some x → (word ≡ bit_text x) × (true ≡ true)
unfolding bit_of
bit_found word x h = (meant bit_text word (codes "0") false x _ refl (meant bit_text word (codes "1") true x _ refl (never bit_text word x)) h, refl)

bit_again : (x : Bool) → true ≡ true → bit_of (bit_text x) ≡ Some x
unfolding bit_of
bit_again false h = refl
bit_again true h = refl

bit_words : (x : Bool) → true ≡ true → list_all is_word_byte (bit_text x) ≡ true
bit_words false h = refl
bit_words true h = refl

bit_law : Law bit_text (λ x. true) (field_at bit_of)
bit_law = field_law bit_text (λ x. true) bit_of (record { found = bit_found; again = bit_again; word = bit_words })

-- ---- replies

abbrev reply_text : Effect → List ℕ
reply_text (effect.Reply bytes) = bytes_text bytes
reply_text effect.ReplyBadarg = codes "badarg"
reply_text other = []

abbrev is_reply : Effect → Bool
is_reply (effect.Reply bytes) = are_bytes bytes
is_reply effect.ReplyBadarg = true
is_reply other = false

reply_found : (word : List ℕ) (x : Effect) → reply_of word ≡ Some x → (word ≡ reply_text x) × (is_reply x ≡ true)
unfolding reply_of
reply_found word x h =
    elim (cases_Bool (bytes_eq word (codes "badarg"))) [
      | inl e ↦ let is : effect.ReplyBadarg ≡ x = (let h1 = rw e at h in cc) in rw (← is) (word_is word (codes "badarg") e, refl)
      | inr e ↦ option_and_then_some _ (bytes_of word) x (rw e at h) (λ bytes read made.
          let found = bytes_exact.found word bytes read in
          let is : effect.Reply bytes ≡ x = cc in
          rw (← is) found)
    ]

-- bytes are not `badarg`
not_badarg : (word bytes : List ℕ) → bytes_of word ≡ Some bytes → bytes_eq word (codes "badarg") ≡ false
unfolding bytes_of
not_badarg word bytes some =
    elim (cases_Bool (bytes_eq word (codes "badarg"))) [
      | inl e ↦ absurd (let is = word_is word (codes "badarg") e in let h = rw is at some in cc)
      | inr e ↦ e
    ]

reply_again : (x : Effect) → is_reply x ≡ true → reply_of (reply_text x) ≡ Some x
unfolding reply_of
reply_again (effect.Reply bytes) h =
    let again = bytes_exact.again bytes h in
    rw (not_badarg (bytes_text bytes) bytes again, again) refl
reply_again effect.ReplyBadarg h = refl
reply_again other h = absurd cc

reply_words : (x : Effect) → is_reply x ≡ true → list_all is_word_byte (reply_text x) ≡ true
reply_words (effect.Reply bytes) h = bytes_exact.word bytes h
reply_words effect.ReplyBadarg h = refl
reply_words other h = absurd cc

reply_law : Law reply_text is_reply (field_at reply_of)
reply_law = field_law reply_text is_reply reply_of (record { found = reply_found; again = reply_again; word = reply_words })

reply_is : (names : ℕ) (x : Effect) → is_reply x ≡ true → (effect_text x ≡ codes "reply" ++ 32 ∷ reply_text x) × (is_effect names x ≡ true)
reply_is names (effect.Reply bytes) h = (refl, h)
reply_is names effect.ReplyBadarg h = (refl, refl)
reply_is names other h = absurd cc

-- ---- effects

message_law : Law (pair_text flag_text bytes_text) (pair_fits (λ x. true) are_bytes) (pair_at (field_at flag_of) bytes_at)
message_law = (pair_law flag_text (λ x. true) (field_at flag_of) bytes_text are_bytes bytes_at flag_law bytes_law)

selection_law : Law (pair_text decimal (pair_text dir_text bit_text)) (pair_fits (λ n. nat_lt n (2 ^ 32)) (pair_fits (λ x. true) (λ x. true))) (pair_at (number_at (2 ^ 32)) (pair_at (field_at dir_of) (field_at bit_of)))
selection_law = (pair_law decimal (λ n. nat_lt n (2 ^ 32)) (number_at (2 ^ 32)) (pair_text dir_text bit_text) (pair_fits (λ x. true) (λ x. true)) (pair_at (field_at dir_of) (field_at bit_of)) law_32 (pair_law dir_text (λ x. true) (field_at dir_of) bit_text (λ x. true) (field_at bit_of) dir_law bit_law))

job_law : Law (pair_text decimal (pair_text decimal (pair_text decimal bytes_text))) (pair_fits (λ n. nat_lt n (2 ^ 64)) (pair_fits (λ n. nat_lt n (2 ^ 32)) (pair_fits (λ n. nat_lt n 256) are_bytes))) (pair_at (number_at (2 ^ 64)) (pair_at (number_at (2 ^ 32)) (pair_at (number_at 256) bytes_at)))
job_law = (pair_law decimal (λ n. nat_lt n (2 ^ 64)) (number_at (2 ^ 64)) (pair_text decimal (pair_text decimal bytes_text)) (pair_fits (λ n. nat_lt n (2 ^ 32)) (pair_fits (λ n. nat_lt n 256) are_bytes)) (pair_at (number_at (2 ^ 32)) (pair_at (number_at 256) bytes_at)) law_64 (pair_law decimal (λ n. nat_lt n (2 ^ 32)) (number_at (2 ^ 32)) (pair_text decimal bytes_text) (pair_fits (λ n. nat_lt n 256) are_bytes) (pair_at (number_at 256) bytes_at) law_32 (pair_law decimal (λ n. nat_lt n 256) (number_at 256) bytes_text are_bytes bytes_at (number_law 256 (omega arith)) bytes_law)))

asking_found : (names : ℕ) → names ≤ 2 ^ 64 → By effect_text (is_effect names) (asking_by names)
unfolding asking_by
asking_found names le = record {
  found = (tag effect_text (is_effect names) (codes "select") _ _ (part effect_text (is_effect names) (codes "select") (pair_text decimal (pair_text dir_text bit_text)) (pair_fits (λ n. nat_lt n (2 ^ 32)) (pair_fits (λ x. true) (λ x. true))) (pair_at (number_at (2 ^ 32)) (pair_at (field_at dir_of) (field_at bit_of))) (λ p. effect.Select p.0 p.1.0 p.1.1) selection_law refl (λ x. refl) (λ x h. (and_parts (nat_lt x.0 (2 ^ 32)) true h).0))
      (tag effect_text (is_effect names) (codes "unuse") _ _ (part effect_text (is_effect names) (codes "unuse") decimal (λ n. nat_lt n (2 ^ 32)) (number_at (2 ^ 32)) effect.Unuse law_32 refl (λ x. refl) (λ x h. h))
      (tag effect_text (is_effect names) (codes "async") _ _ (part effect_text (is_effect names) (codes "async") (pair_text decimal (pair_text decimal (pair_text decimal bytes_text))) (pair_fits (λ n. nat_lt n (2 ^ 64)) (pair_fits (λ n. nat_lt n (2 ^ 32)) (pair_fits (λ n. nat_lt n 256) are_bytes))) (pair_at (number_at (2 ^ 64)) (pair_at (number_at (2 ^ 32)) (pair_at (number_at 256) bytes_at))) (λ p. effect.Async p.0 p.1.0 p.1.1.0 p.1.1.1) job_law refl (λ x. refl) (λ x h. h))
      (tag effect_text (is_effect names) (codes "watch") _ _ (part effect_text (is_effect names) (codes "watch") decimal (λ n. nat_lt n names) (number_at names) effect.Watch (number_law names le) refl (λ x. refl) (λ x h. h))
      (nothing effect_text (is_effect names)))))).found;
}

effect_found : (names : ℕ) → names ≤ 2 ^ 64 → By effect_text (is_effect names) (effect_by names)
unfolding effect_by
effect_found names le = record {
  found = (tag effect_text (is_effect names) (codes "data") _ _ (part effect_text (is_effect names) (codes "data") (pair_text flag_text bytes_text) (pair_fits (λ x. true) are_bytes) (pair_at (field_at flag_of) bytes_at) (λ p. effect.Message p.0 p.1) message_law refl (λ x. refl) (λ x h. h))
      (tag effect_text (is_effect names) (codes "eof") _ _ (bare effect_text (is_effect names) effect.Eof refl refl)
      (tag effect_text (is_effect names) (codes "xstatus") _ _ (part effect_text (is_effect names) (codes "xstatus") signed_decimal is_status status_at effect.Status status_law refl (λ x. refl) (λ x h. h))
      (tag effect_text (is_effect names) (codes "busy") _ _ (part effect_text (is_effect names) (codes "busy") bit_text (λ x. true) (field_at bit_of) effect.Busy bit_law refl (λ x. refl) (λ x h. h))
      (tag effect_text (is_effect names) (codes "reply") _ _ (own_part effect_text (is_effect names) (codes "reply") reply_text is_reply (field_at reply_of) reply_law refl (reply_is names))
      (tag effect_text (is_effect names) (codes "fail") _ _ (part effect_text (is_effect names) (codes "fail") (λ name. name) is_name name_at effect.Fail name_law refl (λ x. refl) (λ x h. h))
      (asking_found names le))))))).found;
}

effect_again : (names : ℕ) → names ≤ 2 ^ 64 → (x : Effect) (rest : List ℕ) → is_effect names x ≡ true → ends rest ≡ true → effect_at names (effect_text x ++ rest) ≡ Some (x, rest)
unfolding effect_by asking_by
effect_again names le (effect.Message flag bytes) rest h e = word_then (effect_by names) (codes "data") (32 ∷ ((pair_text flag_text bytes_text) (flag, bytes) ++ rest)) refl refl ∙ part_again (pair_text flag_text bytes_text) (pair_fits (λ x. true) are_bytes) (pair_at (field_at flag_of) bytes_at) (λ p. effect.Message p.0 p.1) message_law (flag, bytes) rest h e
effect_again names le effect.Eof rest h e = word_then (effect_by names) (codes "eof") rest refl e
effect_again names le (effect.Status z) rest h e = word_then (effect_by names) (codes "xstatus") (32 ∷ (signed_decimal z ++ rest)) refl refl ∙ part_again signed_decimal is_status status_at effect.Status status_law z rest h e
effect_again names le (effect.Busy b) rest h e = word_then (effect_by names) (codes "busy") (32 ∷ (bit_text b ++ rest)) refl refl ∙ part_again bit_text (λ x. true) (field_at bit_of) effect.Busy bit_law b rest refl e
effect_again names le (effect.Select event dir on) rest h e = word_then (effect_by names) (codes "select") (32 ∷ ((pair_text decimal (pair_text dir_text bit_text)) (event, (dir, on)) ++ rest)) refl refl ∙ part_again (pair_text decimal (pair_text dir_text bit_text)) (pair_fits (λ n. nat_lt n (2 ^ 32)) (pair_fits (λ x. true) (λ x. true))) (pair_at (number_at (2 ^ 32)) (pair_at (field_at dir_of) (field_at bit_of))) (λ p. effect.Select p.0 p.1.0 p.1.1) selection_law (event, (dir, on)) rest (both (nat_lt event (2 ^ 32)) true h refl) e
effect_again names le (effect.Unuse n) rest h e = word_then (effect_by names) (codes "unuse") (32 ∷ (decimal n ++ rest)) refl refl ∙ part_again decimal (λ n. nat_lt n (2 ^ 32)) (number_at (2 ^ 32)) effect.Unuse law_32 n rest h e
effect_again names le (effect.Async number key code input) rest h e = word_then (effect_by names) (codes "async") (32 ∷ ((pair_text decimal (pair_text decimal (pair_text decimal bytes_text))) (number, (key, (code, input))) ++ rest)) refl refl ∙ part_again (pair_text decimal (pair_text decimal (pair_text decimal bytes_text))) (pair_fits (λ n. nat_lt n (2 ^ 64)) (pair_fits (λ n. nat_lt n (2 ^ 32)) (pair_fits (λ n. nat_lt n 256) are_bytes))) (pair_at (number_at (2 ^ 64)) (pair_at (number_at (2 ^ 32)) (pair_at (number_at 256) bytes_at))) (λ p. effect.Async p.0 p.1.0 p.1.1.0 p.1.1.1) job_law (number, (key, (code, input))) rest h e
effect_again names le (effect.Watch n) rest h e = word_then (effect_by names) (codes "watch") (32 ∷ (decimal n ++ rest)) refl refl ∙ part_again decimal (λ n. nat_lt n names) (number_at names) effect.Watch (number_law names le) n rest h e
effect_again names le (effect.Reply bytes) rest h e = word_then (effect_by names) (codes "reply") (32 ∷ (bytes_text bytes ++ rest)) refl refl ∙ reply_law.again (effect.Reply bytes) rest h e
effect_again names le effect.ReplyBadarg rest h e = word_then (effect_by names) (codes "reply") (32 ∷ (codes "badarg" ++ rest)) refl refl ∙ reply_law.again effect.ReplyBadarg rest refl e
effect_again names le (effect.Fail name) rest h e = word_then (effect_by names) (codes "fail") (32 ∷ (name ++ rest)) refl refl ∙ part_again (λ name. name) is_name name_at effect.Fail name_law name rest h e

pub effect_law : (names : ℕ) → names ≤ 2 ^ 64 → Law effect_text (is_effect names) (effect_at names)
effect_law names le = by_word_law effect_text (is_effect names) (effect_by names) (effect_found names le) (effect_again names le)
