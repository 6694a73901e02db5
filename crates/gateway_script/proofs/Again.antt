-- What is written by the grammar of a line is read again.
use Rattle.std.proofs.Common.{◌≡◌, ℕ, zero, suc, ◌+◌, ◌≤◌, Bool, true, false, List, [], ◌∷◌, ◌++◌, length, Option, Some, None, refl, sym, ap, subst, ◌∙◌, arith, inl, inr, cond, get_or}
use Rattle.std.specs.Prelude.{codes, nat_le, nat_lt, nat_eq, ◌&&◌, ◌==◌, not}
use Rattle.std.specs.List.{list_all, prefix_len}
use Rattle.std.specs.Str.{bytes_eq}
use Rattle.std.proofs.lemmas.Bool.{and_parts, le-leb, or_parts}
use Rattle.std.proofs.lemmas.Bool.Decides.{nat_tests, eqb_tells}
use Rattle.std.proofs.lemmas.List.{append-nil, append_assoc, take_at, drop_at, length-append}
use Rattle.std.proofs.lemmas.Str.{is_utf8-from_IsUtf8}
use Rattle.packet_framing.specs.declared.mode.Mode.{Mode}
use Rattle.packet_framing.specs.declared.mode.Mode.TheVariants.{Packet1, Packet2, Packet4, Line}
use Rattle.port_signal.specs.Name.{fault_from, may_stand}
use Rattle.port_terms.specs.declared.values.TheConstants.{MAX_DEPTH}
use Rattle.port_terms.specs.Tree.{Tree}
use Rattle.port_terms.specs.Written.{external, flattened}
use Rattle.script_text.specs.Tokens.{gap, is_digit, SpellsNumber}
use Rattle.script_text.specs.Texts.{SpellsText}
use Rattle.script_text.specs.InFront.{IsEnd}
use Rattle.script_text.specs.Data.{SpellsIoList, SpellsTerm, Spells, Language, io_item, term}
use Rattle.script_text.specs.Reading.{is_space, io_bytes_at, number_at, text_at, value_at}
use Rattle.script_text.proofs.Fronts.{skip_gaps}
use Rattle.script_text.proofs.Again.{number_again, text_again, first_digit}
use Rattle.script_text.proofs.AgainData.{io_list_again, term_again, spelling_begins, begins}
use Rattle.gateway_script.specs.Words.{is_word_byte, gap_at, word_at, next_word_at, name_of, next_name_at, is_reserved, free_name_of, next_free_name_at, last, next_number_at, number_within, next_text_at, utf8_name_of, next_file_at, ◌>>=◌}
use Rattle.gateway_script.specs.Options.{suits}
use Rattle.gateway_script.specs.Forms.{limits_at, msgq_at, packet_of, packet_at, line_at, run_at, busy_at, option_behind, option_at, some_options_at, options_at, nosuspend_at, how_at, payload_at, term_at, command_at, file_at, send_at, control_at, call_at, only_number_at, only_name_at, named_at, action_at, step_behind, process_at, suited, port_at, journal_at, save_at, step_at, form_at, is_silent, statement_of}
use Rattle.gateway_script.specs.declared.options.LimitPair.{LimitPair}
use Rattle.gateway_script.specs.declared.options.PortOption.{PortOption}
use Rattle.gateway_script.specs.declared.options.PortOption.TheVariants.{Msgq, MsgqOff, Run, Framing, Busy}
use Rattle.gateway_script.specs.declared.statement.Statement.{Statement}
use Rattle.gateway_script.specs.declared.statement.Statement.TheVariants.{Nothing, Process, Port, Journal, Save, Step, Die}
use Rattle.gateway_script.specs.declared.statement.CommandOptions.{CommandOptions}
use Rattle.gateway_script.specs.declared.statement.Action.{Action}
use Rattle.gateway_script.specs.declared.statement.Action.TheVariants.{Command, File, Send, Control, Call, Connect, SendConnect, Exit, Expect, Bytes}
use Rattle.gateway_script.specs.Grammar.{IsName, IsFreeName, SpellsWithin, SpellsFile, SpellsLimits, SpellsOption, SpellsOptions, SpellsHow, SpellsAction, SpellsForm, SpellsLine}
use Rattle.gateway_script.specs.Grammar as G

-- ---- words

-- what follows a word: nothing, or a space
abbrev pub ends_word : List ℕ → Bool
ends_word [] = true
ends_word (byte ∷ rest) = byte == 32

-- a word: bytes that are no spaces, at least one
abbrev pub is_word : List ℕ → Bool
is_word [] = false
is_word (byte ∷ rest) = list_all is_word_byte (byte ∷ rest)

word_len : (word rest : List ℕ) → list_all is_word_byte word ≡ true → ends_word rest ≡ true → prefix_len is_word_byte (word ++ rest) ≡ length word
word_len [] [] all ends = refl
word_len [] (byte ∷ rest) all ends = rw ends refl
word_len (byte ∷ word) rest all ends =
    let h = and_parts (is_word_byte byte) (list_all is_word_byte word) all in
    rw (h.0, word_len word rest h.1 ends) (omega arith)

word_again : (word rest : List ℕ) → list_all is_word_byte word ≡ true → ends_word rest ≡ true → word_at (word ++ rest) ≡ (word, rest)
word_again word rest all ends =
    rw (word_len word rest all ends, take_at word rest (length word) refl, drop_at word rest (length word) refl) refl

-- a byte that is no space
not_true : (b : Bool) → not b ≡ true → b ≡ false
not_true true e = absurd cc
not_true false e = refl

gap_again : (n byte : ℕ) (rest : List ℕ) → is_space byte ≡ false → gap_at (gap (suc n) ++ (byte ∷ rest)) ≡ Some (byte ∷ rest)
gap_again n byte rest e = ap Some (skip_gaps n byte rest e)

next_word_again : (n : ℕ) (word rest : List ℕ) → is_word word ≡ true → ends_word rest ≡ true → next_word_at (gap (suc n) ++ (word ++ rest)) ≡ Some (word, rest)
unfolding next_word_at
next_word_again n [] rest is ends = absurd cc
next_word_again n (byte ∷ word) rest is ends =
    let h = and_parts (is_word_byte byte) (list_all is_word_byte word) is in
    ap (λ o. o >>= λ inner. Some (word_at inner)) (gap_again n byte (word ++ rest) (not_true (byte == 32) h.0))
    ∙ ap Some (word_again (byte ∷ word) rest is ends)

-- a word that ends the line
last_word_again : (n : ℕ) (word : List ℕ) → is_word word ≡ true → next_word_at (gap (suc n) ++ word) ≡ Some (word, [])
last_word_again n word is = ap (λ xs. next_word_at (gap (suc n) ++ xs)) (sym (append-nil word)) ∙ next_word_again n word [] is refl

-- ---- names

may_be_word : (at byte : ℕ) → may_stand at byte ≡ true → is_word_byte byte ≡ true
may_be_word at byte e = grind (arith, nat_tests)

may_be_first : (byte : ℕ) → may_stand 0 byte ≡ true → nat_eq byte 35 ≡ false
may_be_first byte e = grind (arith, nat_tests)

-- a test that led on was true
passed : (ok : Bool) (at : ℕ) (rest : Option ℕ) → cond ok rest (Some at) ≡ None → (ok ≡ true) × (rest ≡ None)
passed true at rest e = (refl, e)
passed false at rest e = absurd cc

name_bytes : (at : ℕ) (bytes : List ℕ) → fault_from at bytes ≡ None → list_all is_word_byte bytes ≡ true
name_bytes at [] e = refl
name_bytes at (byte ∷ bytes) e =
    let p = passed (nat_lt at 16 && may_stand at byte) at (fault_from (at + 1) bytes) e in
    let h = and_parts (nat_lt at 16) (may_stand at byte) p.0 in
    rw (may_be_word at byte h.1) (name_bytes (at + 1) bytes p.1)

name_is_word : (name : List ℕ) → IsName name → is_word name ≡ true
name_is_word [] e = absurd cc
name_is_word (byte ∷ name) e = name_bytes 0 (byte ∷ name) e

name_is_loud : (name rest : List ℕ) → IsName name → is_silent (name ++ rest) ≡ false
name_is_loud [] rest e = absurd cc
name_is_loud (byte ∷ name) rest e =
    let p = passed (nat_lt 0 16 && may_stand 0 byte) 0 (fault_from (0 + 1) name) e in
    may_be_first byte (and_parts (nat_lt 0 16) (may_stand 0 byte) p.0).1

name_of_again : (name : List ℕ) → IsName name → name_of name ≡ Some name
name_of_again name e = rw e refl

free_name_of_again : (name : List ℕ) → IsFreeName name → free_name_of name ≡ Some name
free_name_of_again name e = let n = e.0 in let r = e.1 in rw (n, r) refl

next_name_again : (n : ℕ) (name rest : List ℕ) → IsName name → ends_word rest ≡ true → next_name_at (gap (suc n) ++ (name ++ rest)) ≡ Some (name, rest)
unfolding next_name_at
next_name_again n name rest e ends =
    ap (λ o. o >>= λ word. (name_of word.0 >>= λ name. Some (name, word.1))) (next_word_again n name rest (name_is_word name e) ends)
    ∙ ap (λ o. o >>= λ name. Some (name, rest)) (name_of_again name e)

next_free_name_again : (n : ℕ) (name rest : List ℕ) → IsFreeName name → ends_word rest ≡ true → next_free_name_at (gap (suc n) ++ (name ++ rest)) ≡ Some (name, rest)
unfolding next_free_name_at
next_free_name_again n name rest e ends =
    ap (λ o. o >>= λ word. (free_name_of word.0 >>= λ name. Some (name, word.1))) (next_word_again n name rest (name_is_word name e.0) ends)
    ∙ ap (λ o. o >>= λ name. Some (name, rest)) (free_name_of_again name e)

only_name_again : (n : ℕ) (name : List ℕ) → IsName name → only_name_at (gap (suc n) ++ name) ≡ Some name
unfolding only_name_at
only_name_again n name e =
    ap (λ xs. only_name_at (gap (suc n) ++ xs)) (sym (append-nil name))
    ∙ ap (λ o. o >>= λ name. last name.1 name.0) (next_name_again n name [] e refl)

-- ---- parts of a line

-- behind a word no number and no name goes on
no_digit : (rest : List ℕ) → ends_word rest ≡ true → is_digit (get_or rest 0 0) ≡ false
no_digit [] e = refl
no_digit (byte ∷ rest) e = grind (arith, nat_tests)

no_name : (rest : List ℕ) → ends_word rest ≡ true → IsEnd rest
no_name [] e = refl
no_name (byte ∷ rest) e = grind (arith, nat_tests)

gap_text : (n : ℕ) (text rest : List ℕ) (first : ℕ) (others : List ℕ) → text ≡ first ∷ others → is_space first ≡ false → gap_at (gap (suc n) ++ (text ++ rest)) ≡ Some (text ++ rest)
gap_text n text rest first others is e = rw is (gap_again n first (others ++ rest) e)

no_space : (byte : ℕ) → begins byte ≡ true → is_space byte ≡ false
no_space byte e = elim (eqb_tells byte 32) [
  | inl (t, is) ↦ let P : ℕ → Type 0 = λ b. begins b ≡ true in let bad : begins 32 ≡ true = subst P is e in absurd cc
  | inr (t, is) ↦ t
]

gap_data : (n : ℕ) (language : Language) (t : Tree) (text rest : List ℕ) → Spells language t text → gap_at (gap (suc n) ++ (text ++ rest)) ≡ Some (text ++ rest)
gap_data n language t text rest s =
    let b = spelling_begins language t text s in
    gap_text n text rest b.first b.others b.is (no_space b.first b.may)

next_number_again : (n number : ℕ) (text rest : List ℕ) → SpellsNumber number text → ends_word rest ≡ true → next_number_at (gap (suc n) ++ (text ++ rest)) ≡ Some (number, rest)
unfolding next_number_at
next_number_again n number text rest s ends =
    let f = first_digit text s.digits in
    let e : is_space f.first ≡ false = elim (eqb_tells f.first 32) [ inl (t, is) ↦ absurd (omega arith) | inr (t, is) ↦ t ] in
    ap (λ o. o >>= number_at) (gap_text n text rest f.first f.others f.is e) ∙ number_again number text rest s (no_digit rest ends)

within_again : (low high n number : ℕ) (text rest : List ℕ) → SpellsWithin low high number text → ends_word rest ≡ true → number_within low high (gap (suc n) ++ (text ++ rest)) ≡ Some (number, rest)
unfolding number_within
within_again low high n number text rest s ends =
    ap (λ o. o >>= λ found. cond (nat_le low found.0 && nat_le found.0 high) (Some found) None) (next_number_again n number text rest s.spelled ends)
    ∙ ap (λ b. cond (b && nat_le number high) (Some (number, rest)) None) (le-leb low number s.least)
    ∙ ap (λ b. cond b (Some (number, rest)) None) (le-leb number high s.greatest)

next_text_again : (n : ℕ) (bytes text rest : List ℕ) → SpellsText bytes text → next_text_at (gap (suc n) ++ (text ++ rest)) ≡ Some (bytes, rest)
unfolding next_text_at
next_text_again n bytes text rest s =
    ap (λ o. o >>= text_at) (gap_text n text rest 34 (s.content ++ 34 ∷ []) s.quoted refl) ∙ text_again bytes text s rest

next_file_again : (n : ℕ) (name text rest : List ℕ) → SpellsFile name text → next_file_at (gap (suc n) ++ (text ++ rest)) ≡ Some (name, rest)
unfolding next_file_at
next_file_again n name text rest s =
    ap (λ o. o >>= λ found. (utf8_name_of found.0 >>= λ name. Some (name, found.1))) (next_text_again n name text rest s.spelled)
    ∙ ap (λ b. cond b (Some name) None >>= λ name. Some (name, rest)) (is_utf8-from_IsUtf8 name s.utf8)

payload_again : (n : ℕ) (t : Tree) (text rest : List ℕ) → SpellsIoList t text → payload_at (gap (suc n) ++ (text ++ rest)) ≡ Some (flattened t, rest)
unfolding payload_at io_bytes_at
payload_again n t text rest s =
    ap (λ o. o >>= io_bytes_at) (gap_data n io_item t text rest s.spelled)
    ∙ ap (λ o. o >>= λ list. Some (flattened list.0, list.1)) (io_list_again t text s rest)

term_part_again : (n : ℕ) (t : Tree) (text rest : List ℕ) → SpellsTerm t text → ends_word rest ≡ true → term_at (gap (suc n) ++ (text ++ rest)) ≡ Some (external t, rest)
unfolding term_at
term_part_again n t text rest s ends =
    ap (λ o. o >>= λ inner. (value_at term MAX_DEPTH inner >>= λ found. Some (external found.0, found.1))) (gap_data n term t text rest s.spelled)
    ∙ ap (λ o. o >>= λ found. Some (external found.0, found.1)) (term_again t text s rest (no_name rest ends))

-- ---- the options of a port

assoc : (xs ys zs : List ℕ) → (xs ++ ys) ++ zs ≡ xs ++ (ys ++ zs)
assoc xs ys zs = append_assoc xs ys zs

limits_again : (limits : LimitPair) (text rest : List ℕ) → SpellsLimits limits text → ends_word rest ≡ true → limits_at (text ++ rest) ≡ Some (limits, rest)
unfolding limits_at
limits_again limits text rest s ends =
    let high_rest = gap (suc s.between) ++ (s.high ++ rest) in
    let parts : text ++ rest ≡ gap (suc s.before) ++ (s.low ++ high_rest) =
    ap (λ xs. xs ++ rest) s.is ∙ assoc (gap (suc s.before)) (s.low ++ (gap (suc s.between) ++ s.high)) rest
    ∙ ap (λ xs. gap (suc s.before) ++ xs) (assoc s.low (gap (suc s.between) ++ s.high) rest)
    ∙ ap (λ xs. gap (suc s.before) ++ (s.low ++ xs)) (assoc (gap (suc s.between)) s.high rest)
    in
    ap (λ xs. limits_at xs) parts
    ∙ ap (λ o. o >>= λ low. (number_within 1 1073741824 low.1 >>= λ high. Some (record { low = low.0; high = high.0 }, high.1))) (within_again 1 1073741824 s.before limits.low s.low high_rest s.spelled_low refl)
    ∙ ap (λ o. o >>= λ high. Some (record { low = limits.low; high = high.0 }, high.1)) (within_again 1 1073741824 s.between limits.high s.high rest s.spelled_high ends)

digit_word : (byte : ℕ) → is_digit byte ≡ true → is_word_byte byte ≡ true
digit_word byte e = grind (arith, nat_tests)

digits_word : (text : List ℕ) → list_all is_digit text ≡ true → list_all is_word_byte text ≡ true
digits_word [] e = refl
digits_word (byte ∷ text) e =
    let h = and_parts (is_digit byte) (list_all is_digit text) e in
    let here : is_word_byte byte ≡ true = digit_word byte h.0 in
    rw here (digits_word text h.1)

number_is_word : (number : ℕ) (text : List ℕ) → SpellsNumber number text → is_word text ≡ true
number_is_word number [] s = absurd (omega (arith, s.digits.some))
number_is_word number (byte ∷ text) s = digits_word (byte ∷ text) s.digits.digits

-- a number is another word than `off`
no_off : (number : ℕ) (text : List ℕ) → SpellsNumber number text → bytes_eq text (codes "off") ≡ false
no_off number text s =
    let f = first_digit text s.digits in
    let other : (f.first == 111) ≡ false = elim (eqb_tells f.first 111) [ inl (t, is) ↦ absurd (omega (arith, f.high)) | inr (t, is) ↦ t ] in
    ap (λ xs. bytes_eq xs (codes "off")) f.is ∙ ap (λ b. b && bytes_eq f.others (codes "ff")) other

msgq_again : (limits : LimitPair) (text rest : List ℕ) → SpellsLimits limits text → ends_word rest ≡ true → msgq_at (text ++ rest) ≡ Some (Msgq limits, rest)
unfolding msgq_at
msgq_again limits text rest s ends =
    let high_rest = gap (suc s.between) ++ (s.high ++ rest) in
    let parts : text ++ rest ≡ gap (suc s.before) ++ (s.low ++ high_rest) =
    ap (λ xs. xs ++ rest) s.is ∙ assoc (gap (suc s.before)) (s.low ++ (gap (suc s.between) ++ s.high)) rest
    ∙ ap (λ xs. gap (suc s.before) ++ xs) (assoc s.low (gap (suc s.between) ++ s.high) rest)
    ∙ ap (λ xs. gap (suc s.before) ++ (s.low ++ xs)) (assoc (gap (suc s.between)) s.high rest)
    in
    let word : next_word_at (text ++ rest) ≡ Some (s.low, high_rest) =
    ap (λ xs. next_word_at xs) parts ∙ next_word_again s.before s.low high_rest (number_is_word limits.low s.low s.spelled_low.spelled) refl
    in
    ap (λ o. o >>= λ word. cond (bytes_eq word.0 (codes "off")) (Some (MsgqOff, word.1)) (limits_at (text ++ rest) >>= λ limits. Some (Msgq limits.0, limits.1))) word
    ∙ ap (λ b. cond b (Some (MsgqOff, high_rest)) (limits_at (text ++ rest) >>= λ limits. Some (Msgq limits.0, limits.1))) (no_off limits.low s.low s.spelled_low.spelled)
    ∙ ap (λ o. o >>= λ limits. Some (Msgq limits.0, limits.1)) (limits_again limits text rest s ends)

msgq_off_again : (n : ℕ) (rest : List ℕ) → ends_word rest ≡ true → msgq_at ((gap (suc n) ++ codes "off") ++ rest) ≡ Some (MsgqOff, rest)
unfolding msgq_at
msgq_off_again n rest ends =
    let text = gap (suc n) ++ codes "off" in
    let word : next_word_at (text ++ rest) ≡ Some (codes "off", rest) = ap (λ xs. next_word_at xs) (assoc (gap (suc n)) (codes "off") rest) ∙ next_word_again n (codes "off") rest refl ends in
    ap (λ o. o >>= λ word. cond (bytes_eq word.0 (codes "off")) (Some (MsgqOff, word.1)) (limits_at (text ++ rest) >>= λ limits. Some (Msgq limits.0, limits.1))) word

packet_again : (number n : ℕ) (text rest : List ℕ) (mode : Mode) → SpellsNumber number text → packet_of number ≡ Some mode → ends_word rest ≡ true → packet_at ((gap (suc n) ++ text) ++ rest) ≡ Some (Framing mode, rest)
unfolding packet_at
packet_again number n text rest mode s e ends =
    ap (λ xs. packet_at xs) (assoc (gap (suc n)) text rest)
    ∙ ap (λ o. o >>= λ number. (packet_of number.0 >>= λ mode. Some (Framing mode, number.1))) (next_number_again n number text rest s ends)
    ∙ ap (λ o. o >>= λ mode. Some (Framing mode, rest)) e

option_behind_again : (option : PortOption) (kind text rest : List ℕ) → SpellsOption option kind text → ends_word rest ≡ true → option_behind kind (text ++ rest) ≡ Some (option, rest)
unfolding option_behind line_at run_at busy_at
option_behind_again _ _ _ rest (G.msgq limits text s) ends = msgq_again limits text rest s ends
option_behind_again _ _ _ rest (G.msgq_off n) ends = msgq_off_again n rest ends
option_behind_again _ _ _ rest (G.run command n text s) ends =
    ap (λ xs. next_text_at xs >>= λ command. Some (Run command.0, command.1)) (assoc (gap (suc n)) text rest)
    ∙ ap (λ o. o >>= λ command. Some (Run command.0, command.1)) (next_text_again n command text rest s)
option_behind_again _ _ _ rest (G.packet1 n number s) ends = packet_again 1 n number rest Packet1 s refl ends
option_behind_again _ _ _ rest (G.packet2 n number s) ends = packet_again 2 n number rest Packet2 s refl ends
option_behind_again _ _ _ rest (G.packet4 n number s) ends = packet_again 4 n number rest Packet4 s refl ends
option_behind_again _ _ _ rest (G.line limit n number s) ends =
    ap (λ xs. number_within 1 262143 xs >>= λ limit. Some (Framing (Line limit.0), limit.1)) (assoc (gap (suc n)) number rest)
    ∙ ap (λ o. o >>= λ limit. Some (Framing (Line limit.0), limit.1)) (within_again 1 262143 n limit number rest s ends)
option_behind_again _ _ _ rest G.stream ends = refl
option_behind_again _ _ _ rest G.eof ends = refl
option_behind_again _ _ _ rest G.exit_status ends = refl
option_behind_again _ _ _ rest (G.busy limits text s) ends = ap (λ o. o >>= λ limits. Some (Busy limits.0, limits.1)) (limits_again limits text rest s ends)

-- the word for an option, and what follows it
pub record OptionWord (kind text : List ℕ) : Type 0 where
  pub word : is_word kind ≡ true
  pub ends : (rest : List ℕ) → ends_word rest ≡ true → ends_word (text ++ rest) ≡ true

limits_end : (limits : LimitPair) (text rest : List ℕ) → SpellsLimits limits text → ends_word (text ++ rest) ≡ true
limits_end limits text rest s = ap (λ xs. ends_word (xs ++ rest)) s.is

option_word : (option : PortOption) (kind text : List ℕ) → SpellsOption option kind text → OptionWord kind text
option_word _ _ _ (G.msgq limits text s) = record { word = refl; ends = λ rest e. limits_end limits text rest s }
option_word _ _ _ (G.msgq_off n) = record { word = refl; ends = λ rest e. refl }
option_word _ _ _ (G.run command n text s) = record { word = refl; ends = λ rest e. refl }
option_word _ _ _ (G.packet1 n number s) = record { word = refl; ends = λ rest e. refl }
option_word _ _ _ (G.packet2 n number s) = record { word = refl; ends = λ rest e. refl }
option_word _ _ _ (G.packet4 n number s) = record { word = refl; ends = λ rest e. refl }
option_word _ _ _ (G.line limit n number s) = record { word = refl; ends = λ rest e. refl }
option_word _ _ _ G.stream = record { word = refl; ends = λ rest e. e }
option_word _ _ _ G.eof = record { word = refl; ends = λ rest e. e }
option_word _ _ _ G.exit_status = record { word = refl; ends = λ rest e. e }
option_word _ _ _ (G.busy limits text s) = record { word = refl; ends = λ rest e. limits_end limits text rest s }

option_again : (option : PortOption) (n : ℕ) (kind text rest : List ℕ) → SpellsOption option kind text → ends_word rest ≡ true → option_at (gap (suc n) ++ (kind ++ (text ++ rest))) ≡ Some (option, rest)
unfolding option_at
option_again option n kind text rest s ends =
    let w = option_word option kind text s in
    ap (λ o. o >>= λ kind. option_behind kind.0 kind.1) (next_word_again n kind (text ++ rest) w.word (w.ends rest ends)) ∙ option_behind_again option kind text rest s ends

options_end : (options : List PortOption) (text : List ℕ) → SpellsOptions options text → ends_word text ≡ true
options_end _ _ G.none = refl
options_end _ _ (G.more option options n kind text rest s others) = refl

some_options_again : (n : ℕ) (options : List PortOption) (text : List ℕ) → SpellsOptions options text → length options ≤ n → some_options_at n text ≡ Some options
unfolding some_options_at
some_options_again zero _ _ G.none few = refl
some_options_again (suc n) _ _ G.none few = refl
some_options_again zero _ _ (G.more option options m kind text rest s others) few = absurd (omega arith)
some_options_again (suc n) _ _ (G.more option options m kind text rest s others) few =
    ap (λ o. o >>= λ option. (some_options_at n option.1 >>= λ options. Some (option.0 ∷ options))) (option_again option m kind text rest s (options_end options rest others))
    ∙ ap (λ o. o >>= λ options. Some (option ∷ options)) (some_options_again n options rest others (omega arith))

options_few : (options : List PortOption) (text : List ℕ) → SpellsOptions options text → length options ≤ length text
options_few _ _ G.none = omega arith
options_few _ _ (G.more option options n kind text rest s others) =
    let few = options_few options rest others in
    omega (arith, few, length-append (gap n) (kind ++ (text ++ rest)), length-append kind (text ++ rest), length-append text rest)

options_again : (options : List PortOption) (text : List ℕ) → SpellsOptions options text → options_at text ≡ Some options
options_again options text s = some_options_again (length text) options text s (options_few options text s)

-- ---- HOW

nosuspend_word_again : (force : Bool) (n : ℕ) → nosuspend_at force (gap (suc n) ++ codes "nosuspend") ≡ Some (record { force = force; nosuspend = true })
unfolding nosuspend_at
nosuspend_word_again force n =
    let made : CommandOptions = record { force = force; nosuspend = true } in
    ap (λ o. o >>= λ word. cond (bytes_eq word.0 (codes "nosuspend")) (last word.1 made) None) (last_word_again n (codes "nosuspend") refl)

nosuspend_none_again : (force : Bool) → nosuspend_at force [] ≡ Some (record { force = force; nosuspend = false })
unfolding nosuspend_at
nosuspend_none_again force = refl

how_again : (how : CommandOptions) (text : List ℕ) → SpellsHow how text → how_at text ≡ Some how
unfolding how_at
how_again _ _ G.plain = refl
how_again _ _ (G.force n) =
    ap (λ o. o >>= λ word. cond (bytes_eq word.0 (codes "force")) (nosuspend_at true word.1) (nosuspend_at false (gap (suc n) ++ codes "force"))) (last_word_again n (codes "force") refl)
    ∙ nosuspend_none_again true
how_again _ _ (G.nosuspend n) =
    ap (λ o. o >>= λ word. cond (bytes_eq word.0 (codes "force")) (nosuspend_at true word.1) (nosuspend_at false (gap (suc n) ++ codes "nosuspend"))) (last_word_again n (codes "nosuspend") refl)
    ∙ nosuspend_word_again false n
how_again _ _ (G.both m n) =
    let text = gap (suc m) ++ (codes "force" ++ (gap (suc n) ++ codes "nosuspend")) in
    ap (λ o. o >>= λ word. cond (bytes_eq word.0 (codes "force")) (nosuspend_at true word.1) (nosuspend_at false text)) (next_word_again m (codes "force") (gap (suc n) ++ codes "nosuspend") refl refl)
    ∙ nosuspend_word_again true n

-- ---- steps

command_again : (payload : Tree) (how : CommandOptions) (n : ℕ) (text behind : List ℕ) → SpellsIoList payload text → SpellsHow how behind → command_at (gap (suc n) ++ (text ++ behind)) ≡ Some (Command (flattened payload) how)
unfolding command_at
command_again payload how n text behind s t =
    ap (λ o. o >>= λ payload. (how_at payload.1 >>= λ how. Some (Command payload.0 how))) (payload_again n payload text behind s)
    ∙ ap (λ o. o >>= λ how. Some (Command (flattened payload) how)) (how_again how behind t)

file_again : (size : ℕ) (name : List ℕ) (how : CommandOptions) (m n : ℕ) (number text behind : List ℕ) → SpellsWithin 1 262143 size number → SpellsFile name text → SpellsHow how behind
    → file_at (gap (suc m) ++ (number ++ (gap (suc n) ++ (text ++ behind)))) ≡ Some (File size name how)
unfolding file_at
file_again size name how m n number text behind s t u =
    ap (λ o. o >>= λ size. (next_file_at size.1 >>= λ name. (how_at name.1 >>= λ how. Some (File size.0 name.0 how)))) (within_again 1 262143 m size number (gap (suc n) ++ (text ++ behind)) s refl)
    ∙ ap (λ o. o >>= λ name. (how_at name.1 >>= λ how. Some (File size name.0 how))) (next_file_again n name text behind t)
    ∙ ap (λ o. o >>= λ how. Some (File size name how)) (how_again how behind u)

send_again : (payload : Tree) (n : ℕ) (text : List ℕ) → SpellsIoList payload text → send_at (gap (suc n) ++ text) ≡ Some (Send (flattened payload))
unfolding send_at
send_again payload n text s =
    ap (λ xs. send_at (gap (suc n) ++ xs)) (sym (append-nil text))
    ∙ ap (λ o. o >>= λ payload. last payload.1 (Send payload.0)) (payload_again n payload text [] s)

control_again : (op : ℕ) (bytes : List ℕ) (m n : ℕ) (number text : List ℕ) → SpellsWithin 0 4294967295 op number → SpellsText bytes text
    → control_at (gap (suc m) ++ (number ++ (gap (suc n) ++ text))) ≡ Some (Control op bytes)
unfolding control_at
control_again op bytes m n number text s t =
    ap (λ xs. control_at (gap (suc m) ++ (number ++ (gap (suc n) ++ xs)))) (sym (append-nil text))
    ∙ ap (λ o. o >>= λ op. (next_text_at op.1 >>= λ text. last text.1 (Control op.0 text.0))) (within_again 0 4294967295 m op number (gap (suc n) ++ (text ++ [])) s refl)
    ∙ ap (λ o. o >>= λ text. last text.1 (Control op text.0)) (next_text_again n bytes text [] t)

call_again : (op : ℕ) (t : Tree) (m n : ℕ) (number text : List ℕ) → SpellsWithin 0 4294967295 op number → SpellsTerm t text
    → call_at (gap (suc m) ++ (number ++ (gap (suc n) ++ text))) ≡ Some (Call op (external t))
unfolding call_at
call_again op t m n number text s u =
    ap (λ xs. call_at (gap (suc m) ++ (number ++ (gap (suc n) ++ xs)))) (sym (append-nil text))
    ∙ ap (λ o. o >>= λ op. (term_at op.1 >>= λ term. last term.1 (Call op.0 term.0))) (within_again 0 4294967295 m op number (gap (suc n) ++ (text ++ [])) s refl)
    ∙ ap (λ o. o >>= λ term. last term.1 (Call op term.0)) (term_part_again n t text [] u refl)

only_number_again : (count n : ℕ) (number : List ℕ) → SpellsNumber count number → only_number_at (gap (suc n) ++ number) ≡ Some count
unfolding only_number_at
only_number_again count n number s =
    ap (λ xs. only_number_at (gap (suc n) ++ xs)) (sym (append-nil number))
    ∙ ap (λ o. o >>= λ number. last number.1 number.0) (next_number_again n count number [] s refl)

action_again : (what : Action) (kind rest : List ℕ) → SpellsAction what kind rest → action_at kind rest ≡ Some what
unfolding action_at named_at
action_again _ _ _ (G.command payload how n text behind s t) = command_again payload how n text behind s t
action_again _ _ _ (G.file size name how m n number text behind s t u) = file_again size name how m n number text behind s t u
action_again _ _ _ (G.send payload n text s) = send_again payload n text s
action_again _ _ _ (G.control op bytes m n number text s t) = control_again op bytes m n number text s t
action_again _ _ _ (G.call op t m n number text s u) = call_again op t m n number text s u
action_again _ _ _ (G.connect to n e) = ap (λ o. o >>= λ name. Some (Connect name)) (only_name_again n to e)
action_again _ _ _ (G.sendconnect to n e) = ap (λ o. o >>= λ name. Some (SendConnect name)) (only_name_again n to e)
action_again _ _ _ (G.exit reason n e) = ap (λ o. o >>= λ reason. Some (Exit reason)) (only_name_again n reason e)
action_again _ _ _ (G.expect count n number s) = ap (λ o. o >>= λ count. Some (Expect count)) (only_number_again count n number s)
action_again _ _ _ (G.bytes count n number s) = ap (λ o. o >>= λ count. Some (Bytes count)) (only_number_again count n number s)
action_again _ _ _ G.close = refl
action_again _ _ _ G.sendclose = refl
action_again _ _ _ G.link = refl
action_again _ _ _ G.unlink = refl
action_again _ _ _ G.monitor = refl
action_again _ _ _ G.demonitor = refl

-- the word for a step, and what follows its port
pub record Kind (kind rest : List ℕ) : Type 0 where
  pub word : is_word kind ≡ true
  pub no_die : bytes_eq kind (codes "die") ≡ false
  pub ends : ends_word rest ≡ true

kind_of : (what : Action) (kind rest : List ℕ) → SpellsAction what kind rest → Kind kind rest
kind_of _ _ _ (G.command payload how n text behind s t) = record { word = refl; no_die = refl; ends = refl }
kind_of _ _ _ (G.file size name how m n number text behind s t u) = record { word = refl; no_die = refl; ends = refl }
kind_of _ _ _ (G.send payload n text s) = record { word = refl; no_die = refl; ends = refl }
kind_of _ _ _ (G.control op bytes m n number text s t) = record { word = refl; no_die = refl; ends = refl }
kind_of _ _ _ (G.call op t m n number text s u) = record { word = refl; no_die = refl; ends = refl }
kind_of _ _ _ (G.connect to n e) = record { word = refl; no_die = refl; ends = refl }
kind_of _ _ _ (G.sendconnect to n e) = record { word = refl; no_die = refl; ends = refl }
kind_of _ _ _ (G.exit reason n e) = record { word = refl; no_die = refl; ends = refl }
kind_of _ _ _ (G.expect count n number s) = record { word = refl; no_die = refl; ends = refl }
kind_of _ _ _ (G.bytes count n number s) = record { word = refl; no_die = refl; ends = refl }
kind_of _ _ _ G.close = record { word = refl; no_die = refl; ends = refl }
kind_of _ _ _ G.sendclose = record { word = refl; no_die = refl; ends = refl }
kind_of _ _ _ G.link = record { word = refl; no_die = refl; ends = refl }
kind_of _ _ _ G.unlink = record { word = refl; no_die = refl; ends = refl }
kind_of _ _ _ G.monitor = record { word = refl; no_die = refl; ends = refl }
kind_of _ _ _ G.demonitor = record { word = refl; no_die = refl; ends = refl }

step_behind_again : (process port : List ℕ) (action : Action) (n : ℕ) (kind rest : List ℕ) → IsName port → SpellsAction action kind rest
    → step_behind process kind (gap (suc n) ++ (port ++ rest)) ≡ Some (Step process port action)
unfolding step_behind
step_behind_again process port action n kind rest e s =
    let k = kind_of action kind rest s in
    rw k.no_die
    (ap (λ o. o >>= λ port. (action_at kind port.1 >>= λ action. Some (Step process port.0 action))) (next_name_again n port rest e k.ends)
    ∙ ap (λ o. o >>= λ action. Some (Step process port action)) (action_again action kind rest s))

die_behind_again : (process reason : List ℕ) (n : ℕ) → IsName reason → step_behind process (codes "die") (gap (suc n) ++ reason) ≡ Some (Die process reason)
unfolding step_behind
die_behind_again process reason n e = ap (λ o. o >>= λ reason. Some (Die process reason)) (only_name_again n reason e)

-- ---- lines

process_again : (name : List ℕ) (n : ℕ) → IsFreeName name → process_at (gap (suc n) ++ name) ≡ Some (Process name)
unfolding process_at
process_again name n e =
    ap (λ xs. process_at (gap (suc n) ++ xs)) (sym (append-nil name))
    ∙ ap (λ o. o >>= λ name. last name.1 (Process name.0)) (next_free_name_again n name [] e refl)

port_again : (name process driver : List ℕ) (options : List PortOption) (l m n : ℕ) (rest : List ℕ) → IsFreeName name → IsName process → IsName driver → SpellsOptions options rest → list_all (suits driver) options ≡ true
    → port_at (gap (suc l) ++ (name ++ (gap (suc m) ++ (process ++ (gap (suc n) ++ (driver ++ rest)))))) ≡ Some (Port name process driver options)
unfolding port_at
port_again name process driver options l m n rest e f g s suit =
    ap (λ o. o >>= λ name. (next_name_at name.1 >>= λ process. (next_name_at process.1 >>= λ driver. (options_at driver.1 >>= λ options. suited name.0 process.0 driver.0 options))))
    (next_free_name_again l name (gap (suc m) ++ (process ++ (gap (suc n) ++ (driver ++ rest)))) e refl)
    ∙ ap (λ o. o >>= λ process. (next_name_at process.1 >>= λ driver. (options_at driver.1 >>= λ options. suited name process.0 driver.0 options))) (next_name_again m process (gap (suc n) ++ (driver ++ rest)) f refl)
    ∙ ap (λ o. o >>= λ driver. (options_at driver.1 >>= λ options. suited name process driver.0 options)) (next_name_again n driver rest g (options_end options rest s))
    ∙ ap (λ o. o >>= λ options. suited name process driver options) (options_again options rest s)
    ∙ ap (λ b. cond b (Some (Port name process driver options)) None) suit

journal_again : (name : List ℕ) (n : ℕ) (text : List ℕ) → SpellsFile name text → journal_at (gap (suc n) ++ text) ≡ Some (Journal name)
unfolding journal_at
journal_again name n text s =
    ap (λ xs. journal_at (gap (suc n) ++ xs)) (sym (append-nil text))
    ∙ ap (λ o. o >>= λ name. last name.1 (Journal name.0)) (next_file_again n name text [] s)

save_again : (process port name : List ℕ) (l m n : ℕ) (text : List ℕ) → IsName process → IsName port → SpellsFile name text
    → save_at (gap (suc l) ++ (process ++ (gap (suc m) ++ (port ++ (gap (suc n) ++ text))))) ≡ Some (Save process port name)
unfolding save_at
save_again process port name l m n text e f s =
    ap (λ xs. save_at (gap (suc l) ++ (process ++ (gap (suc m) ++ (port ++ (gap (suc n) ++ xs)))))) (sym (append-nil text))
    ∙ ap (λ o. o >>= λ process. (next_name_at process.1 >>= λ port. (next_file_at port.1 >>= λ name. last name.1 (Save process.0 port.0 name.0))))
    (next_name_again l process (gap (suc m) ++ (port ++ (gap (suc n) ++ (text ++ [])))) e refl)
    ∙ ap (λ o. o >>= λ port. (next_file_at port.1 >>= λ name. last name.1 (Save process port.0 name.0))) (next_name_again m port (gap (suc n) ++ (text ++ [])) f refl)
    ∙ ap (λ o. o >>= λ name. last name.1 (Save process port name.0)) (next_file_again n name text [] s)

step_again : (process : List ℕ) (m : ℕ) (kind bytes : List ℕ) (said : Statement) → IsFreeName process → is_word kind ≡ true → ends_word bytes ≡ true → step_behind process kind bytes ≡ Some said
    → step_at process (gap (suc m) ++ (kind ++ bytes)) ≡ Some said
unfolding step_at
step_again process m kind bytes said e word ends again =
    ap (λ o. o >>= λ process. (next_word_at (gap (suc m) ++ (kind ++ bytes)) >>= λ kind. step_behind process kind.0 kind.1)) (free_name_of_again process e)
    ∙ ap (λ o. o >>= λ kind. step_behind process kind.0 kind.1) (next_word_again m kind bytes word ends)
    ∙ again

-- a name that can be declared begins no declaration
step_form_again : (process rest : List ℕ) → is_reserved process ≡ false → form_at process rest ≡ step_at process rest
unfolding form_at
step_form_again process rest e =
    let h = or_parts (bytes_eq process (codes "process")) _ e in
    let i = or_parts (bytes_eq process (codes "port")) _ h.1 in
    let j = or_parts (bytes_eq process (codes "journal")) _ i.1 in
    let k = or_parts (bytes_eq process (codes "save")) _ j.1 in
    let f = h.0 in
    let g = i.0 in
    let l = j.0 in
    let m = k.0 in
    rw (f, g, l, m) refl

-- a line that isn't silent, by its first word
by_first_word : (said : Statement) (word rest : List ℕ) → is_silent (word ++ rest) ≡ false → list_all is_word_byte word ≡ true → ends_word rest ≡ true → form_at word rest ≡ Some said
    → cond (is_silent (word ++ rest)) (Some Nothing) (form_at (word_at (word ++ rest)).0 (word_at (word ++ rest)).1) ≡ Some said
by_first_word said word rest loud all ends e =
    rw loud (ap (λ (p : List ℕ × List ℕ). form_at p.0 p.1) (word_again word rest all ends) ∙ e)

word_bytes : (word : List ℕ) → is_word word ≡ true → list_all is_word_byte word ≡ true
word_bytes [] e = absurd cc
word_bytes (byte ∷ word) e = e

-- a step by the name of its process
by_process : (said : Statement) (process rest : List ℕ) → IsFreeName process → ends_word rest ≡ true → step_at process rest ≡ Some said
    → cond (is_silent (process ++ rest)) (Some Nothing) (form_at (word_at (process ++ rest)).0 (word_at (process ++ rest)).1) ≡ Some said
by_process said process rest e ends again =
    by_first_word said process rest (name_is_loud process rest e.0) (word_bytes process (name_is_word process e.0)) ends (step_form_again process rest e.1 ∙ again)

form_again : (said : Statement) (line : List ℕ) → SpellsForm said line → cond (is_silent line) (Some Nothing) (form_at (word_at line).0 (word_at line).1) ≡ Some said
unfolding form_at
form_again _ _ G.empty = refl
form_again _ _ (G.comment text) = refl
form_again _ _ (G.process name n e) = by_first_word (Process name) (codes "process") (gap (suc n) ++ name) refl refl refl (process_again name n e)
form_again _ _ (G.port name process driver options l m n rest e f g s suit) =
    by_first_word (Port name process driver options) (codes "port") (gap (suc l) ++ (name ++ (gap (suc m) ++ (process ++ (gap (suc n) ++ (driver ++ rest)))))) refl refl refl
    (port_again name process driver options l m n rest e f g s suit)
form_again _ _ (G.journal name n text s) = by_first_word (Journal name) (codes "journal") (gap (suc n) ++ text) refl refl refl (journal_again name n text s)
form_again _ _ (G.save process port name l m n text e f s) =
    by_first_word (Save process port name) (codes "save") (gap (suc l) ++ (process ++ (gap (suc m) ++ (port ++ (gap (suc n) ++ text))))) refl refl refl (save_again process port name l m n text e f s)
form_again _ _ (G.step process port action m n kind rest e f s) =
    by_process (Step process port action) process (gap (suc m) ++ (kind ++ (gap (suc n) ++ (port ++ rest)))) e refl
    (step_again process m kind (gap (suc n) ++ (port ++ rest)) (Step process port action) e (kind_of action kind rest s).word refl (step_behind_again process port action n kind rest f s))
form_again _ _ (G.die process reason m n e f) =
    by_process (Die process reason) process (gap (suc m) ++ (codes "die" ++ (gap (suc n) ++ reason))) e refl
    (step_again process m (codes "die") (gap (suc n) ++ reason) (Die process reason) e refl refl (die_behind_again process reason n f))

pub line_again : (line : List ℕ) (said : Statement) → SpellsLine said line → statement_of line ≡ Some said
unfolding statement_of
line_again line said s = rw s.printable (form_again said line s.form)
