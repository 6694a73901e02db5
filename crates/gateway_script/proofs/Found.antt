-- What a line says is written so, by the grammar.
use Rattle.std.proofs.Common.{◌≡◌, ℕ, zero, suc, Bool, true, false, List, [], ◌∷◌, ◌++◌, Some, None, refl, sym, ap, subst, ◌∙◌, inl, inr, cond}
use Rattle.std.specs.Prelude.{codes, nat_eq, not}
use Rattle.std.specs.List.{list_all}
use Rattle.std.specs.Str.{bytes_eq}
use Rattle.std.proofs.lemmas.Bool.{eqb-true}
use Rattle.std.proofs.lemmas.List.{append_assoc}
use Rattle.std.proofs.lemmas.Option.{cond_some}
use Rattle.packet_framing.specs.declared.mode.Mode.{Mode}
use Rattle.packet_framing.specs.declared.mode.Mode.TheVariants.{Packet1, Packet2, Packet4, Line, Stream}
use Rattle.port_terms.specs.Written.{external, flattened}
use Rattle.script_text.specs.Tokens.{gap, SpellsNumber}
use Rattle.script_text.specs.Texts.{SpellsText}
use Rattle.script_text.specs.InFront.{InFront}
use Rattle.script_text.proofs.Fronts.{front_parts}
use Rattle.gateway_script.specs.Words.{is_word_byte, word_at, next_word_at, next_name_at, free_name_of, next_free_name_at, last, next_number_at, number_within, next_text_at, next_file_at, ◌>>=◌}
use Rattle.gateway_script.specs.Options.{suits}
use Rattle.gateway_script.specs.Forms.{limits_at, msgq_at, packet_of, packet_at, line_at, run_at, busy_at, flag_of, option_behind, option_at, is_end, some_options_at, options_at, nosuspend_at, how_at, payload_at, op_at, term_at, command_at, file_at, send_at, control_at, call_at, only_number_at, only_name_at, bare_action, bare_at, named_at, action_at, step_behind, process_at, suited, port_at, journal_at, save_at, step_at, form_at, is_printable, is_silent, statement_of}
use Rattle.gateway_script.specs.declared.options.LimitPair.{LimitPair}
use Rattle.gateway_script.specs.declared.options.PortOption.{PortOption}
use Rattle.gateway_script.specs.declared.options.PortOption.TheVariants.{Msgq, MsgqOff, Run, Framing, Eof, ExitStatus, Busy}
use Rattle.gateway_script.specs.declared.statement.Statement.{Statement}
use Rattle.gateway_script.specs.declared.statement.Statement.TheVariants.{Nothing, Process, Port, Journal, Save, Step, Die}
use Rattle.gateway_script.specs.declared.statement.CommandOptions.{CommandOptions}
use Rattle.gateway_script.specs.declared.statement.Action.{Action}
use Rattle.gateway_script.specs.declared.statement.Action.TheVariants.{Command, File, Send, Control, Call, Close, Connect, SendClose, SendConnect, Link, Unlink, Monitor, Demonitor, Exit, Expect, Bytes}
use Rattle.gateway_script.specs.Grammar.{IsName, IsFreeName, SpellsWithin, SpellsFile, SpellsLimits, SpellsOption, SpellsOptions, SpellsHow, SpellsAction, SpellsForm, SpellsLine}
use Rattle.gateway_script.specs.Grammar as G
use Rattle.gateway_script.proofs.FoundParts.{bound, either, not_not, next_word_found, word_is, free_name_of_found, last_found, end_is, next_name_found, next_free_name_found, to_end, only_name_found, GappedPart, part_to_end, next_number_found, number_within_found, next_text_found, next_file_found, SpellsIoBytes, payload_found, SpellsExternal, term_part_found}

-- ---- the options of a port

limits_found : (bytes : List ℕ) (limits : LimitPair) (rest : List ℕ) → limits_at bytes ≡ Some (limits, rest) → InFront SpellsLimits limits bytes rest
unfolding limits_at
limits_found bytes limits rest h =
    let a = bound (number_within 1 1073741824 bytes) (λ low. number_within 1 1073741824 low.1 >>= λ high. Some (record { low = low.0; high = high.0 }, high.1)) (limits, rest) h in
    let b = bound (number_within 1 1073741824 a.0.1) (λ high. Some (record { low = a.0.0; high = high.0 }, high.1)) (limits, rest) a.2 in
    let p = number_within_found 1 1073741824 bytes a.0.0 a.0.1 a.1 in
    let q = number_within_found 1 1073741824 a.0.1 b.0.0 b.0.1 b.1 in
    let made : LimitPair = record { low = a.0.0; high = b.0.0 } in
    let pairs : ◌≡◌ {A = LimitPair × List ℕ} (made, b.0.1) (limits, rest) = cc in
    let text = gap (suc p.more) ++ (p.text ++ (gap (suc q.more) ++ q.text)) in
    let parts : bytes ≡ text ++ b.0.1 =
    p.is ∙ ap (λ xs. gap (suc p.more) ++ (p.text ++ xs)) (q.is ∙ sym (append_assoc (gap (suc q.more)) q.text b.0.1))
    ∙ ap (λ xs. gap (suc p.more) ++ xs) (sym (append_assoc p.text (gap (suc q.more) ++ q.text) b.0.1))
    ∙ sym (append_assoc (gap (suc p.more)) (p.text ++ (gap (suc q.more) ++ q.text)) b.0.1)
    in
    subst (λ (p : LimitPair × List ℕ). InFront SpellsLimits p.0 bytes p.1) pairs
    (record { text = text; parts = parts; spelled = record { before = p.more; between = q.more; low = p.text; high = q.text; is = refl; spelled_low = p.spelled; spelled_high = q.spelled } })

-- an option behind the word for it
pub record FoundOption (option : PortOption) (kind bytes rest : List ℕ) : Type 0 where
  pub text : List ℕ
  pub parts : bytes ≡ text ++ rest
  pub spelled : SpellsOption option kind text

as_option : (made option : PortOption) (kind bytes end rest : List ℕ) → ◌≡◌ {A = PortOption × List ℕ} (made, end) (option, rest) → FoundOption made kind bytes end → FoundOption option kind bytes rest
as_option made option kind bytes end rest e found = subst (λ (p : PortOption × List ℕ). FoundOption p.0 kind bytes p.1) e found

-- an option with one part behind its word
part_option : {A : Type 0} (IsSpelling : A → List ℕ → Type 0) (make : A → PortOption) (kind bytes : List ℕ) (value : A) (end : List ℕ) → GappedPart IsSpelling value bytes end
    → ((n : ℕ) (text : List ℕ) → IsSpelling value text → SpellsOption (make value) kind (gap (suc n) ++ text)) → FoundOption (make value) kind bytes end
part_option IsSpelling make kind bytes value end part spell =
    record { text = gap (suc part.more) ++ part.text; parts = part.is ∙ sym (append_assoc (gap (suc part.more)) part.text end); spelled = spell part.more part.text part.spelled }

flag : (kind word : List ℕ) (made option : PortOption) → bytes_eq kind word ≡ true → Some made ≡ Some option → SpellsOption made word [] → SpellsOption option kind []
flag kind word made option e f s =
    let same : made ≡ option = cc in
    subst (λ (k : List ℕ). SpellsOption option k []) (sym (word_is kind word e)) (subst (λ (o : PortOption). SpellsOption o word []) same s)

limits_option : (make : LimitPair → PortOption) (kind bytes : List ℕ) (option : PortOption) (rest : List ℕ) → ◌>>=◌ {B = PortOption × List ℕ} (limits_at bytes) (λ limits. Some (make limits.0, limits.1)) ≡ Some (option, rest)
    → ((limits : LimitPair) (text : List ℕ) → SpellsLimits limits text → SpellsOption (make limits) kind text) → FoundOption option kind bytes rest
limits_option make kind bytes option rest h spell =
    let a = bound (limits_at bytes) (λ limits. Some (make limits.0, limits.1)) (option, rest) h in
    let i = limits_found bytes a.0.0 a.0.1 a.1 in
    let pairs : ◌≡◌ {A = PortOption × List ℕ} (make a.0.0, a.0.1) (option, rest) = cc in
    as_option (make a.0.0) option kind bytes a.0.1 rest pairs (record { text = i.text; parts = i.parts; spelled = spell a.0.0 i.text i.spelled })

msgq_found : (bytes : List ℕ) (option : PortOption) (rest : List ℕ) → msgq_at bytes ≡ Some (option, rest) → FoundOption option (codes "msgq") bytes rest
unfolding msgq_at
msgq_found bytes option rest h =
    let a = bound (next_word_at bytes) (λ word. cond (bytes_eq word.0 (codes "off")) (Some (MsgqOff, word.1)) (limits_at bytes >>= λ limits. Some (Msgq limits.0, limits.1))) (option, rest) h in
    elim (either (bytes_eq a.0.0 (codes "off")) _ _ (option, rest) a.2) [
      | inl p ↦
          let w = next_word_found bytes a.0.0 a.0.1 a.1 in
          let pairs : ◌≡◌ {A = PortOption × List ℕ} (MsgqOff, a.0.1) (option, rest) = cc in
          as_option MsgqOff option (codes "msgq") bytes a.0.1 rest pairs
          (record {
            text = gap (suc w.more) ++ codes "off";
            parts = w.is ∙ ap (λ xs. gap (suc w.more) ++ (xs ++ a.0.1)) (word_is a.0.0 (codes "off") p.0) ∙ sym (append_assoc (gap (suc w.more)) (codes "off") a.0.1);
            spelled = G.msgq_off w.more;
          })
      | inr p ↦ limits_option (λ limits. Msgq limits) (codes "msgq") bytes option rest p.1 G.msgq
    ]

packet_spelled : (number : ℕ) (mode : Mode) → packet_of number ≡ Some mode → (n : ℕ) (text : List ℕ) → SpellsNumber number text → SpellsOption (Framing mode) (codes "packet") (gap (suc n) ++ text)
packet_spelled number mode e n text s = elim (either (nat_eq number 1) _ _ mode e) [
  | inl p ↦
      let same : Packet1 ≡ mode = cc in
      subst (λ (m : Mode). SpellsOption (Framing m) (codes "packet") (gap (suc n) ++ text)) same (G.packet1 n text (subst (λ (k : ℕ). SpellsNumber k text) (eqb-true number 1 p.0) s))
  | inr p ↦ elim (either (nat_eq number 2) _ _ mode p.1) [
    | inl p ↦
        let same : Packet2 ≡ mode = cc in
        subst (λ (m : Mode). SpellsOption (Framing m) (codes "packet") (gap (suc n) ++ text)) same (G.packet2 n text (subst (λ (k : ℕ). SpellsNumber k text) (eqb-true number 2 p.0) s))
    | inr p ↦ elim (either (nat_eq number 4) _ _ mode p.1) [
      | inl p ↦
          let same : Packet4 ≡ mode = cc in
          subst (λ (m : Mode). SpellsOption (Framing m) (codes "packet") (gap (suc n) ++ text)) same (G.packet4 n text (subst (λ (k : ℕ). SpellsNumber k text) (eqb-true number 4 p.0) s))
      | inr p ↦ absurd cc
    ]
  ]
]

packet_found : (bytes : List ℕ) (option : PortOption) (rest : List ℕ) → packet_at bytes ≡ Some (option, rest) → FoundOption option (codes "packet") bytes rest
unfolding packet_at
packet_found bytes option rest h =
    let a = bound (next_number_at bytes) (λ number. packet_of number.0 >>= λ mode. Some (Framing mode, number.1)) (option, rest) h in
    let b = bound (packet_of a.0.0) (λ mode. Some (Framing mode, a.0.1)) (option, rest) a.2 in
    let g = next_number_found bytes a.0.0 a.0.1 a.1 in
    let pairs : ◌≡◌ {A = PortOption × List ℕ} (Framing b.0, a.0.1) (option, rest) = cc in
    as_option (Framing b.0) option (codes "packet") bytes a.0.1 rest pairs
    (part_option SpellsNumber (λ number. Framing b.0) (codes "packet") bytes a.0.0 a.0.1 g (packet_spelled a.0.0 b.0 b.1))

line_found_at : (bytes : List ℕ) (option : PortOption) (rest : List ℕ) → line_at bytes ≡ Some (option, rest) → FoundOption option (codes "line") bytes rest
unfolding line_at
line_found_at bytes option rest h =
    let a = bound (number_within 1 262143 bytes) (λ limit. Some (Framing (Line limit.0), limit.1)) (option, rest) h in
    let g = number_within_found 1 262143 bytes a.0.0 a.0.1 a.1 in
    let pairs : ◌≡◌ {A = PortOption × List ℕ} (Framing (Line a.0.0), a.0.1) (option, rest) = cc in
    as_option (Framing (Line a.0.0)) option (codes "line") bytes a.0.1 rest pairs
    (part_option (SpellsWithin 1 262143) (λ limit. Framing (Line limit)) (codes "line") bytes a.0.0 a.0.1 g (λ n text s. G.line a.0.0 n text s))

run_found : (bytes : List ℕ) (option : PortOption) (rest : List ℕ) → run_at bytes ≡ Some (option, rest) → FoundOption option (codes "run") bytes rest
unfolding run_at
run_found bytes option rest h =
    let a = bound (next_text_at bytes) (λ command. Some (Run command.0, command.1)) (option, rest) h in
    let g = next_text_found bytes a.0.0 a.0.1 a.1 in
    let pairs : ◌≡◌ {A = PortOption × List ℕ} (Run a.0.0, a.0.1) (option, rest) = cc in
    as_option (Run a.0.0) option (codes "run") bytes a.0.1 rest pairs
    (part_option SpellsText (λ command. Run command) (codes "run") bytes a.0.0 a.0.1 g (λ n text s. G.run a.0.0 n text s))

busy_found : (bytes : List ℕ) (option : PortOption) (rest : List ℕ) → busy_at bytes ≡ Some (option, rest) → FoundOption option (codes "busy") bytes rest
unfolding busy_at
busy_found bytes option rest h = limits_option (λ limits. Busy limits) (codes "busy") bytes option rest h G.busy

flag_spelled : (kind : List ℕ) (option : PortOption) → flag_of kind ≡ Some option → SpellsOption option kind []
flag_spelled kind option h = elim (either (bytes_eq kind (codes "stream")) _ _ option h) [
  | inl p ↦ flag kind (codes "stream") (Framing Stream) option p.0 p.1 G.stream
  | inr p ↦ elim (either (bytes_eq kind (codes "eof")) _ _ option p.1) [
    | inl p ↦ flag kind (codes "eof") Eof option p.0 p.1 G.eof
    | inr p ↦ elim (either (bytes_eq kind (codes "exit_status")) _ _ option p.1) [
      | inl p ↦ flag kind (codes "exit_status") ExitStatus option p.0 p.1 G.exit_status
      | inr p ↦ absurd cc
    ]
  ]
]

flag_found : (kind bytes : List ℕ) (option : PortOption) (rest : List ℕ) → ◌>>=◌ {B = PortOption × List ℕ} (flag_of kind) (λ option. Some (option, bytes)) ≡ Some (option, rest) → FoundOption option kind bytes rest
flag_found kind bytes option rest h =
    let a = bound (flag_of kind) (λ option. Some (option, bytes)) (option, rest) h in
    let pairs : ◌≡◌ {A = PortOption × List ℕ} (a.0, bytes) (option, rest) = cc in
    as_option a.0 option kind bytes bytes rest pairs (record { text = []; parts = refl; spelled = flag_spelled kind a.0 a.1 })

of_kind : (option : PortOption) (kind word bytes rest : List ℕ) → bytes_eq kind word ≡ true → FoundOption option word bytes rest → FoundOption option kind bytes rest
of_kind option kind word bytes rest e found = subst (λ (k : List ℕ). FoundOption option k bytes rest) (sym (word_is kind word e)) found

option_behind_found : (kind bytes : List ℕ) (option : PortOption) (rest : List ℕ) → option_behind kind bytes ≡ Some (option, rest) → FoundOption option kind bytes rest
unfolding option_behind
option_behind_found kind bytes option rest h = elim (either (bytes_eq kind (codes "msgq")) _ _ (option, rest) h) [
  | inl p ↦ of_kind option kind (codes "msgq") bytes rest p.0 (msgq_found bytes option rest p.1)
  | inr p ↦ elim (either (bytes_eq kind (codes "run")) _ _ (option, rest) p.1) [
    | inl p ↦ of_kind option kind (codes "run") bytes rest p.0 (run_found bytes option rest p.1)
    | inr p ↦ elim (either (bytes_eq kind (codes "packet")) _ _ (option, rest) p.1) [
      | inl p ↦ of_kind option kind (codes "packet") bytes rest p.0 (packet_found bytes option rest p.1)
      | inr p ↦ elim (either (bytes_eq kind (codes "line")) _ _ (option, rest) p.1) [
        | inl p ↦ of_kind option kind (codes "line") bytes rest p.0 (line_found_at bytes option rest p.1)
        | inr p ↦ elim (either (bytes_eq kind (codes "busy")) _ _ (option, rest) p.1) [
          | inl p ↦ of_kind option kind (codes "busy") bytes rest p.0 (busy_found bytes option rest p.1)
          | inr p ↦ flag_found kind bytes option rest p.1
        ]
      ]
    ]
  ]
]

-- an option behind one or more spaces
pub record GappedOption (option : PortOption) (bytes rest : List ℕ) : Type 0 where
  pub more : ℕ
  pub kind : List ℕ
  pub text : List ℕ
  pub is : bytes ≡ gap (suc more) ++ (kind ++ (text ++ rest))
  pub spelled : SpellsOption option kind text

pub option_found : (bytes : List ℕ) (option : PortOption) (rest : List ℕ) → option_at bytes ≡ Some (option, rest) → GappedOption option bytes rest
unfolding option_at
option_found bytes option rest h =
    let a = bound (next_word_at bytes) (λ kind. option_behind kind.0 kind.1) (option, rest) h in
    let w = next_word_found bytes a.0.0 a.0.1 a.1 in
    let o = option_behind_found a.0.0 a.0.1 option rest a.2 in
    record { more = w.more; kind = a.0.0; text = o.text; is = w.is ∙ ap (λ xs. gap (suc w.more) ++ (a.0.0 ++ xs)) o.parts; spelled = o.spelled }

no_options : (bytes : List ℕ) (options : List PortOption) → is_end bytes ≡ true → Some [] ≡ Some options → SpellsOptions options bytes
no_options bytes options e h =
    let same : [] ≡ options = cc in
    subst (λ (xs : List ℕ). SpellsOptions options xs) (sym (end_is bytes e)) (subst (λ (os : List PortOption). SpellsOptions os []) same G.none)

some_options_found : (n : ℕ) (bytes : List ℕ) (options : List PortOption) → some_options_at n bytes ≡ Some options → SpellsOptions options bytes
unfolding some_options_at
some_options_found zero bytes options h = elim (either (is_end bytes) _ _ options h) [
  | inl p ↦ no_options bytes options p.0 p.1
  | inr p ↦ absurd cc
]
some_options_found (suc n) bytes options h = elim (either (is_end bytes) _ _ options h) [
  | inl p ↦ no_options bytes options p.0 p.1
  | inr p ↦
      let a = bound (option_at bytes) (λ option. some_options_at n option.1 >>= λ options. Some (option.0 ∷ options)) options p.1 in
      let b = bound (some_options_at n a.0.1) (λ options. Some (a.0.0 ∷ options)) options a.2 in
      let o = option_found bytes a.0.0 a.0.1 a.1 in
      let same : a.0.0 ∷ b.0 ≡ options = cc in
      subst (λ (os : List PortOption). SpellsOptions os bytes) same
      (subst (λ (xs : List ℕ). SpellsOptions (a.0.0 ∷ b.0) xs) (sym o.is) (G.more a.0.0 b.0 o.more o.kind o.text a.0.1 o.spelled (some_options_found n a.0.1 b.0 b.1)))
]

-- ---- HOW

how_written : (made how : CommandOptions) (bytes others : List ℕ) → bytes ≡ others → made ≡ how → SpellsHow made others → SpellsHow how bytes
how_written made how bytes others e f s = subst (λ (w : CommandOptions). SpellsHow w bytes) f (subst (λ (xs : List ℕ). SpellsHow made xs) (sym e) s)

-- `nosuspend` or nothing
data Suspends : Bool → CommandOptions → List ℕ → Type 0 where
  suspending : (force : Bool) → Suspends force (record { force = force; nosuspend = false }) []
  not_suspending : (force : Bool) (n : ℕ) → Suspends force (record { force = force; nosuspend = true }) (gap (suc n) ++ codes "nosuspend")

suspends_written : (force : Bool) (made how : CommandOptions) (bytes others : List ℕ) → bytes ≡ others → made ≡ how → Suspends force made others → Suspends force how bytes
suspends_written force made how bytes others e f s = subst (λ (w : CommandOptions). Suspends force w bytes) f (subst (λ (xs : List ℕ). Suspends force made xs) (sym e) s)

nosuspend_found : (force : Bool) (bytes : List ℕ) (how : CommandOptions) → nosuspend_at force bytes ≡ Some how → Suspends force how bytes
unfolding nosuspend_at
nosuspend_found force bytes how h = elim (either (is_end bytes) _ _ how h) [
  | inl p ↦
      let made : CommandOptions = record { force = force; nosuspend = false } in
      let same : made ≡ how = cc in
      suspends_written force made how bytes [] (end_is bytes p.0) same (suspending force)
  | inr p ↦
      let made : CommandOptions = record { force = force; nosuspend = true } in
      let a = bound (next_word_at bytes) (λ word. cond (bytes_eq word.0 (codes "nosuspend")) (last word.1 made) None) how p.1 in
      elim (either (bytes_eq a.0.0 (codes "nosuspend")) _ _ how a.2) [
        | inl q ↦
            let w = next_word_found bytes a.0.0 a.0.1 a.1 in
            let l = last_found a.0.1 made how q.1 in
            suspends_written force made how bytes (gap (suc w.more) ++ codes "nosuspend")
            (to_end bytes a.0.0 a.0.1 w.more w.is l.0 ∙ ap (λ xs. gap (suc w.more) ++ xs) (word_is a.0.0 (codes "nosuspend") q.0)) l.1 (not_suspending force w.more)
        | inr q ↦ absurd cc
      ]
]

-- behind `force`
forced : (n : ℕ) (how : CommandOptions) (rest : List ℕ) → Suspends true how rest → SpellsHow how (gap (suc n) ++ (codes "force" ++ rest))
forced n how rest (suspending true) = G.force n
forced n how rest (not_suspending true m) = G.both n m

unforced : (how : CommandOptions) (bytes : List ℕ) → Suspends false how bytes → SpellsHow how bytes
unforced how bytes (suspending false) = G.plain
unforced how bytes (not_suspending false n) = G.nosuspend n

how_found : (bytes : List ℕ) (how : CommandOptions) → how_at bytes ≡ Some how → SpellsHow how bytes
unfolding how_at
how_found bytes how h = elim (either (is_end bytes) _ _ how h) [
  | inl p ↦
      let made : CommandOptions = record { force = false; nosuspend = false } in
      let same : made ≡ how = cc in
      how_written made how bytes [] (end_is bytes p.0) same G.plain
  | inr p ↦
      let a = bound (next_word_at bytes) (λ word. cond (bytes_eq word.0 (codes "force")) (nosuspend_at true word.1) (nosuspend_at false bytes)) how p.1 in
      elim (either (bytes_eq a.0.0 (codes "force")) _ _ how a.2) [
        | inl q ↦
            let w = next_word_found bytes a.0.0 a.0.1 a.1 in
            subst (λ (xs : List ℕ). SpellsHow how xs) (sym (w.is ∙ ap (λ xs. gap (suc w.more) ++ (xs ++ a.0.1)) (word_is a.0.0 (codes "force") q.0)))
            (forced w.more how a.0.1 (nosuspend_found true a.0.1 how q.1))
        | inr q ↦ unforced how bytes (nosuspend_found false bytes how q.1)
      ]
]

-- ---- steps

-- the same written with equal words
as_kind : (kind word bytes : List ℕ) (what : Action) → bytes_eq kind word ≡ true → SpellsAction what word bytes → SpellsAction what kind bytes
as_kind kind word bytes what e s = subst (λ (k : List ℕ). SpellsAction what k bytes) (sym (word_is kind word e)) s

as_written : (kind bytes others : List ℕ) (made what : Action) → bytes ≡ others → made ≡ what → SpellsAction made kind others → SpellsAction what kind bytes
as_written kind bytes others made what e f s = subst (λ (w : Action). SpellsAction w kind bytes) f (subst (λ (xs : List ℕ). SpellsAction made kind xs) (sym e) s)

command_found : (bytes : List ℕ) (what : Action) → command_at bytes ≡ Some what → SpellsAction what (codes "command") bytes
unfolding command_at
command_found bytes what h =
    let a = bound (payload_at bytes) (λ payload. how_at payload.1 >>= λ how. Some (Command payload.0 how)) what h in
    let b = bound (how_at a.0.1) (λ how. Some (Command a.0.0 how)) what a.2 in
    let p = payload_found bytes a.0.0 a.0.1 a.1 in
    let same : Command a.0.0 b.0 ≡ what = cc in
    as_written (codes "command") bytes (gap (suc p.more) ++ (p.text ++ a.0.1)) (Command (flattened p.spelled.list) b.0) what p.is (ap (λ (bs : List ℕ). Command bs b.0) p.spelled.bytes_are ∙ same)
    (G.command p.spelled.list b.0 p.more p.text a.0.1 p.spelled.spelled (how_found a.0.1 b.0 b.1))

file_found : (bytes : List ℕ) (what : Action) → file_at bytes ≡ Some what → SpellsAction what (codes "file") bytes
unfolding file_at
file_found bytes what h =
    let a = bound (number_within 1 262143 bytes) (λ size. next_file_at size.1 >>= λ name. (how_at name.1 >>= λ how. Some (File size.0 name.0 how))) what h in
    let b = bound (next_file_at a.0.1) (λ name. how_at name.1 >>= λ how. Some (File a.0.0 name.0 how)) what a.2 in
    let d = bound (how_at b.0.1) (λ how. Some (File a.0.0 b.0.0 how)) what b.2 in
    let p = number_within_found 1 262143 bytes a.0.0 a.0.1 a.1 in
    let q = next_file_found a.0.1 b.0.0 b.0.1 b.1 in
    let same : File a.0.0 b.0.0 d.0 ≡ what = cc in
    as_written (codes "file") bytes (gap (suc p.more) ++ (p.text ++ (gap (suc q.more) ++ (q.text ++ b.0.1)))) (File a.0.0 b.0.0 d.0) what
    (p.is ∙ ap (λ xs. gap (suc p.more) ++ (p.text ++ xs)) q.is) same
    (G.file a.0.0 b.0.0 d.0 p.more q.more p.text q.text b.0.1 p.spelled q.spelled (how_found b.0.1 d.0 d.1))

send_found : (bytes : List ℕ) (what : Action) → send_at bytes ≡ Some what → SpellsAction what (codes "send") bytes
unfolding send_at
send_found bytes what h =
    let a = bound (payload_at bytes) (λ payload. last payload.1 (Send payload.0)) what h in
    let l = last_found a.0.1 (Send a.0.0) what a.2 in
    let p = payload_found bytes a.0.0 a.0.1 a.1 in
    as_written (codes "send") bytes (gap (suc p.more) ++ p.text) (Send (flattened p.spelled.list)) what (part_to_end SpellsIoBytes a.0.0 bytes a.0.1 p l.0)
    (ap (λ (bs : List ℕ). Send bs) p.spelled.bytes_are ∙ l.1)
    (G.send p.spelled.list p.more p.text p.spelled.spelled)

control_found : (bytes : List ℕ) (what : Action) → control_at bytes ≡ Some what → SpellsAction what (codes "control") bytes
unfolding control_at
control_found bytes what h =
    let a = bound (op_at bytes) (λ op. next_text_at op.1 >>= λ text. last text.1 (Control op.0 text.0)) what h in
    let b = bound (next_text_at a.0.1) (λ text. last text.1 (Control a.0.0 text.0)) what a.2 in
    let l = last_found b.0.1 (Control a.0.0 b.0.0) what b.2 in
    let o = number_within_found 0 4294967295 bytes a.0.0 a.0.1 a.1 in
    let t = next_text_found a.0.1 b.0.0 b.0.1 b.1 in
    as_written (codes "control") bytes (gap (suc o.more) ++ (o.text ++ (gap (suc t.more) ++ t.text))) (Control a.0.0 b.0.0) what
    (o.is ∙ ap (λ xs. gap (suc o.more) ++ (o.text ++ xs)) (part_to_end SpellsText b.0.0 a.0.1 b.0.1 t l.0)) l.1
    (G.control a.0.0 b.0.0 o.more t.more o.text t.text o.spelled t.spelled)

call_found : (bytes : List ℕ) (what : Action) → call_at bytes ≡ Some what → SpellsAction what (codes "call") bytes
unfolding call_at
call_found bytes what h =
    let a = bound (op_at bytes) (λ op. term_at op.1 >>= λ term. last term.1 (Call op.0 term.0)) what h in
    let b = bound (term_at a.0.1) (λ term. last term.1 (Call a.0.0 term.0)) what a.2 in
    let l = last_found b.0.1 (Call a.0.0 b.0.0) what b.2 in
    let o = number_within_found 0 4294967295 bytes a.0.0 a.0.1 a.1 in
    let t = term_part_found a.0.1 b.0.0 b.0.1 b.1 in
    as_written (codes "call") bytes (gap (suc o.more) ++ (o.text ++ (gap (suc t.more) ++ t.text))) (Call a.0.0 (external t.spelled.value)) what
    (o.is ∙ ap (λ xs. gap (suc o.more) ++ (o.text ++ xs)) (part_to_end SpellsExternal b.0.0 a.0.1 b.0.1 t l.0)) (ap (λ (bs : List ℕ). Call a.0.0 bs) t.spelled.bytes_are ∙ l.1)
    (G.call a.0.0 t.spelled.value o.more t.more o.text t.text o.spelled t.spelled.spelled)

bare : (kind word : List ℕ) (made what : Action) → bytes_eq kind word ≡ true → Some made ≡ Some what → SpellsAction made word [] → SpellsAction what kind []
bare kind word made what e f s = let same : made ≡ what = cc in as_kind kind word [] what e (as_written word [] [] made what refl same s)

bare_action_found : (kind : List ℕ) (what : Action) → bare_action kind ≡ Some what → SpellsAction what kind []
bare_action_found kind what h = elim (either (bytes_eq kind (codes "close")) _ _ what h) [
  | inl p ↦ bare kind (codes "close") Close what p.0 p.1 G.close
  | inr p ↦ elim (either (bytes_eq kind (codes "sendclose")) _ _ what p.1) [
    | inl p ↦ bare kind (codes "sendclose") SendClose what p.0 p.1 G.sendclose
    | inr p ↦ elim (either (bytes_eq kind (codes "link")) _ _ what p.1) [
      | inl p ↦ bare kind (codes "link") Link what p.0 p.1 G.link
      | inr p ↦ elim (either (bytes_eq kind (codes "unlink")) _ _ what p.1) [
        | inl p ↦ bare kind (codes "unlink") Unlink what p.0 p.1 G.unlink
        | inr p ↦ elim (either (bytes_eq kind (codes "monitor")) _ _ what p.1) [
          | inl p ↦ bare kind (codes "monitor") Monitor what p.0 p.1 G.monitor
          | inr p ↦ elim (either (bytes_eq kind (codes "demonitor")) _ _ what p.1) [
            | inl p ↦ bare kind (codes "demonitor") Demonitor what p.0 p.1 G.demonitor
            | inr p ↦ absurd cc
          ]
        ]
      ]
    ]
  ]
]

bare_found : (kind bytes : List ℕ) (what : Action) → bare_at kind bytes ≡ Some what → SpellsAction what kind bytes
bare_found kind bytes what h =
    let a = bound (bare_action kind) (λ action. last bytes action) what h in
    let l = last_found bytes a.0 what a.2 in
    as_written kind bytes [] a.0 what l.0 l.1 (bare_action_found kind a.0 a.1)

-- a step with one name behind its port
name_made : (kind word bytes : List ℕ) (make : List ℕ → Action) (what : Action) → bytes_eq kind word ≡ true → (only_name_at bytes >>= λ name. Some (make name)) ≡ Some what
    → ((name : List ℕ) (n : ℕ) → IsName name → SpellsAction (make name) word (gap (suc n) ++ name)) → SpellsAction what kind bytes
name_made kind word bytes make what e h spelled =
    let a = bound (only_name_at bytes) (λ name. Some (make name)) what h in
    let o = only_name_found bytes a.0 a.1 in
    let same : make a.0 ≡ what = cc in
    as_kind kind word bytes what e (as_written word bytes (gap (suc o.more) ++ a.0) (make a.0) what o.is same (spelled a.0 o.more o.name_is))

-- a step with one number behind its port
number_made : (kind word bytes : List ℕ) (make : ℕ → Action) (what : Action) → bytes_eq kind word ≡ true → (only_number_at bytes >>= λ count. Some (make count)) ≡ Some what
    → ((count n : ℕ) (number : List ℕ) → SpellsNumber count number → SpellsAction (make count) word (gap (suc n) ++ number)) → SpellsAction what kind bytes
unfolding only_number_at
number_made kind word bytes make what e h spelled =
    let a = bound (only_number_at bytes) (λ count. Some (make count)) what h in
    let b = bound (next_number_at bytes) (λ number. last number.1 number.0) a.0 a.1 in
    let l = last_found b.0.1 b.0.0 a.0 b.2 in
    let p = next_number_found bytes b.0.0 b.0.1 b.1 in
    let same : make a.0 ≡ what = cc in
    as_kind kind word bytes what e
    (as_written word bytes (gap (suc p.more) ++ p.text) (make b.0.0) what (part_to_end SpellsNumber b.0.0 bytes b.0.1 p l.0) (ap make l.1 ∙ same) (spelled b.0.0 p.more p.text p.spelled))

named_found : (kind bytes : List ℕ) (what : Action) → named_at kind bytes ≡ Some what → SpellsAction what kind bytes
unfolding named_at
named_found kind bytes what h = elim (either (bytes_eq kind (codes "connect")) _ _ what h) [
  | inl p ↦ name_made kind (codes "connect") bytes (λ name. Connect name) what p.0 p.1 G.connect
  | inr p ↦ elim (either (bytes_eq kind (codes "sendconnect")) _ _ what p.1) [
    | inl p ↦ name_made kind (codes "sendconnect") bytes (λ name. SendConnect name) what p.0 p.1 G.sendconnect
    | inr p ↦ elim (either (bytes_eq kind (codes "exit")) _ _ what p.1) [
      | inl p ↦ name_made kind (codes "exit") bytes (λ name. Exit name) what p.0 p.1 G.exit
      | inr p ↦ elim (either (bytes_eq kind (codes "expect")) _ _ what p.1) [
        | inl p ↦ number_made kind (codes "expect") bytes (λ count. Expect count) what p.0 p.1 G.expect
        | inr p ↦ elim (either (bytes_eq kind (codes "bytes")) _ _ what p.1) [
          | inl p ↦ number_made kind (codes "bytes") bytes (λ count. Bytes count) what p.0 p.1 G.bytes
          | inr p ↦ bare_found kind bytes what p.1
        ]
      ]
    ]
  ]
]

action_found : (kind bytes : List ℕ) (what : Action) → action_at kind bytes ≡ Some what → SpellsAction what kind bytes
unfolding action_at
action_found kind bytes what h = elim (either (bytes_eq kind (codes "command")) _ _ what h) [
  | inl p ↦ as_kind kind (codes "command") bytes what p.0 (command_found bytes what p.1)
  | inr p ↦ elim (either (bytes_eq kind (codes "file")) _ _ what p.1) [
    | inl p ↦ as_kind kind (codes "file") bytes what p.0 (file_found bytes what p.1)
    | inr p ↦ elim (either (bytes_eq kind (codes "send")) _ _ what p.1) [
      | inl p ↦ as_kind kind (codes "send") bytes what p.0 (send_found bytes what p.1)
      | inr p ↦ elim (either (bytes_eq kind (codes "control")) _ _ what p.1) [
        | inl p ↦ as_kind kind (codes "control") bytes what p.0 (control_found bytes what p.1)
        | inr p ↦ elim (either (bytes_eq kind (codes "call")) _ _ what p.1) [
          | inl p ↦ as_kind kind (codes "call") bytes what p.0 (call_found bytes what p.1)
          | inr p ↦ named_found kind bytes what p.1
        ]
      ]
    ]
  ]
]

-- ---- lines

form_written : (line others : List ℕ) (made said : Statement) → line ≡ others → made ≡ said → SpellsForm made others → SpellsForm said line
form_written line others made said e f s = subst (λ (w : Statement). SpellsForm w line) f (subst (λ (xs : List ℕ). SpellsForm made xs) (sym e) s)

process_found : (bytes : List ℕ) (said : Statement) → process_at bytes ≡ Some said → SpellsForm said (codes "process" ++ bytes)
unfolding process_at
process_found bytes said h =
    let a = bound (next_free_name_at bytes) (λ name. last name.1 (Process name.0)) said h in
    let l = last_found a.0.1 (Process a.0.0) said a.2 in
    let g = next_free_name_found bytes a.0.0 a.0.1 a.1 in
    let is = to_end bytes a.0.0 a.0.1 g.gapped.more g.gapped.is l.0 in
    form_written (codes "process" ++ bytes) (codes "process" ++ (gap (suc g.gapped.more) ++ a.0.0)) (Process a.0.0) said (ap (λ xs. codes "process" ++ xs) is) l.1 (G.process a.0.0 g.gapped.more g.name_is)

port_found : (bytes : List ℕ) (said : Statement) → port_at bytes ≡ Some said → SpellsForm said (codes "port" ++ bytes)
unfolding port_at
port_found bytes said h =
    let a = bound (next_free_name_at bytes) (λ name. next_name_at name.1 >>= λ process. (next_name_at process.1 >>= λ driver. (options_at driver.1 >>= λ options. suited name.0 process.0 driver.0 options))) said h in
    let b = bound (next_name_at a.0.1) (λ process. next_name_at process.1 >>= λ driver. (options_at driver.1 >>= λ options. suited a.0.0 process.0 driver.0 options)) said a.2 in
    let c = bound (next_name_at b.0.1) (λ driver. options_at driver.1 >>= λ options. suited a.0.0 b.0.0 driver.0 options) said b.2 in
    let d = bound (options_at c.0.1) (λ options. suited a.0.0 b.0.0 c.0.0 options) said c.2 in
    let s = cond_some (list_all (suits c.0.0) d.0) (Port a.0.0 b.0.0 c.0.0 d.0) said d.2 in
    let f = next_free_name_found bytes a.0.0 a.0.1 a.1 in
    let g = next_name_found a.0.1 b.0.0 b.0.1 b.1 in
    let i = next_name_found b.0.1 c.0.0 c.0.1 c.1 in
    let process_is = g.gapped.is ∙ ap (λ xs. gap (suc g.gapped.more) ++ (b.0.0 ++ xs)) i.gapped.is in
    let name_is = f.gapped.is ∙ ap (λ xs. gap (suc f.gapped.more) ++ (a.0.0 ++ xs)) process_is in
    form_written (codes "port" ++ bytes)
    (codes "port" ++ (gap (suc f.gapped.more) ++ (a.0.0 ++ (gap (suc g.gapped.more) ++ (b.0.0 ++ (gap (suc i.gapped.more) ++ (c.0.0 ++ c.0.1))))))) (Port a.0.0 b.0.0 c.0.0 d.0) said
    (ap (λ xs. codes "port" ++ xs) name_is) s.1
    (G.port a.0.0 b.0.0 c.0.0 d.0 f.gapped.more g.gapped.more i.gapped.more c.0.1 f.name_is g.name_is i.name_is (some_options_found _ c.0.1 d.0 d.1) s.0)

journal_found : (bytes : List ℕ) (said : Statement) → journal_at bytes ≡ Some said → SpellsForm said (codes "journal" ++ bytes)
unfolding journal_at
journal_found bytes said h =
    let a = bound (next_file_at bytes) (λ name. last name.1 (Journal name.0)) said h in
    let l = last_found a.0.1 (Journal a.0.0) said a.2 in
    let p = next_file_found bytes a.0.0 a.0.1 a.1 in
    form_written (codes "journal" ++ bytes) (codes "journal" ++ (gap (suc p.more) ++ p.text)) (Journal a.0.0) said
    (ap (λ xs. codes "journal" ++ xs) (part_to_end SpellsFile a.0.0 bytes a.0.1 p l.0)) l.1 (G.journal a.0.0 p.more p.text p.spelled)

save_found : (bytes : List ℕ) (said : Statement) → save_at bytes ≡ Some said → SpellsForm said (codes "save" ++ bytes)
unfolding save_at
save_found bytes said h =
    let a = bound (next_name_at bytes) (λ process. next_name_at process.1 >>= λ port. (next_file_at port.1 >>= λ name. last name.1 (Save process.0 port.0 name.0))) said h in
    let b = bound (next_name_at a.0.1) (λ port. next_file_at port.1 >>= λ name. last name.1 (Save a.0.0 port.0 name.0)) said a.2 in
    let c = bound (next_file_at b.0.1) (λ name. last name.1 (Save a.0.0 b.0.0 name.0)) said b.2 in
    let l = last_found c.0.1 (Save a.0.0 b.0.0 c.0.0) said c.2 in
    let f = next_name_found bytes a.0.0 a.0.1 a.1 in
    let g = next_name_found a.0.1 b.0.0 b.0.1 b.1 in
    let p = next_file_found b.0.1 c.0.0 c.0.1 c.1 in
    let port_is = g.gapped.is ∙ ap (λ xs. gap (suc g.gapped.more) ++ (b.0.0 ++ xs)) (part_to_end SpellsFile c.0.0 b.0.1 c.0.1 p l.0) in
    let process_is = f.gapped.is ∙ ap (λ xs. gap (suc f.gapped.more) ++ (a.0.0 ++ xs)) port_is in
    form_written (codes "save" ++ bytes) (codes "save" ++ (gap (suc f.gapped.more) ++ (a.0.0 ++ (gap (suc g.gapped.more) ++ (b.0.0 ++ (gap (suc p.more) ++ p.text)))))) (Save a.0.0 b.0.0 c.0.0) said
    (ap (λ xs. codes "save" ++ xs) process_is) l.1 (G.save a.0.0 b.0.0 c.0.0 f.gapped.more g.gapped.more p.more p.text f.name_is g.name_is p.spelled)

-- a step behind the name of its process and the word for it
step_behind_found : (process kind bytes : List ℕ) (m : ℕ) (said : Statement) → IsFreeName process → step_behind process kind bytes ≡ Some said → SpellsForm said (process ++ (gap (suc m) ++ (kind ++ bytes)))
unfolding step_behind
step_behind_found process kind bytes m said free h = elim (either (bytes_eq kind (codes "die")) _ _ said h) [
  | inl p ↦
      let a = bound (only_name_at bytes) (λ reason. Some (Die process reason)) said p.1 in
      let o = only_name_found bytes a.0 a.1 in
      let same : Die process a.0 ≡ said = cc in
      form_written (process ++ (gap (suc m) ++ (kind ++ bytes))) (process ++ (gap (suc m) ++ (codes "die" ++ (gap (suc o.more) ++ a.0)))) (Die process a.0) said
      (ap (λ xs. process ++ (gap (suc m) ++ (xs ++ bytes))) (word_is kind (codes "die") p.0) ∙ ap (λ xs. process ++ (gap (suc m) ++ (codes "die" ++ xs))) o.is) same
      (G.die process a.0 m o.more free o.name_is)
  | inr p ↦
      let a = bound (next_name_at bytes) (λ port. action_at kind port.1 >>= λ action. Some (Step process port.0 action)) said p.1 in
      let b = bound (action_at kind a.0.1) (λ action. Some (Step process a.0.0 action)) said a.2 in
      let g = next_name_found bytes a.0.0 a.0.1 a.1 in
      let same : Step process a.0.0 b.0 ≡ said = cc in
      form_written (process ++ (gap (suc m) ++ (kind ++ bytes))) (process ++ (gap (suc m) ++ (kind ++ (gap (suc g.gapped.more) ++ (a.0.0 ++ a.0.1))))) (Step process a.0.0 b.0) said
      (ap (λ xs. process ++ (gap (suc m) ++ (kind ++ xs))) g.gapped.is) same
      (G.step process a.0.0 b.0 m g.gapped.more kind a.0.1 free g.name_is (action_found kind a.0.1 b.0 b.1))
]

step_found : (process bytes : List ℕ) (said : Statement) → step_at process bytes ≡ Some said → SpellsForm said (process ++ bytes)
unfolding step_at
step_found process bytes said h =
    let a = bound (free_name_of process) (λ process. next_word_at bytes >>= λ kind. step_behind process kind.0 kind.1) said h in
    let b = bound (next_word_at bytes) (λ kind. step_behind a.0 kind.0 kind.1) said a.2 in
    let n = free_name_of_found process a.0 a.1 in
    let w = next_word_found bytes b.0.0 b.0.1 b.1 in
    form_written (process ++ bytes) (a.0 ++ (gap (suc w.more) ++ (b.0.0 ++ b.0.1))) said said
    (ap (λ xs. xs ++ bytes) n.0 ∙ ap (λ xs. a.0 ++ xs) w.is) refl (step_behind_found a.0 b.0.0 b.0.1 w.more said n.1 b.2)

declared_found : (first word bytes : List ℕ) (said : Statement) → bytes_eq first word ≡ true → SpellsForm said (word ++ bytes) → SpellsForm said (first ++ bytes)
declared_found first word bytes said e s = subst (λ (w : List ℕ). SpellsForm said (w ++ bytes)) (sym (word_is first word e)) s

form_found : (first bytes : List ℕ) (said : Statement) → form_at first bytes ≡ Some said → SpellsForm said (first ++ bytes)
unfolding form_at
form_found first bytes said h = elim (either (bytes_eq first (codes "process")) _ _ said h) [
  | inl p ↦ declared_found first (codes "process") bytes said p.0 (process_found bytes said p.1)
  | inr p ↦ elim (either (bytes_eq first (codes "port")) _ _ said p.1) [
    | inl p ↦ declared_found first (codes "port") bytes said p.0 (port_found bytes said p.1)
    | inr p ↦ elim (either (bytes_eq first (codes "journal")) _ _ said p.1) [
      | inl p ↦ declared_found first (codes "journal") bytes said p.0 (journal_found bytes said p.1)
      | inr p ↦ elim (either (bytes_eq first (codes "save")) _ _ said p.1) [
        | inl p ↦ declared_found first (codes "save") bytes said p.0 (save_found bytes said p.1)
        | inr p ↦ step_found first bytes said p.1
      ]
    ]
  ]
]

silent_found : (line : List ℕ) (said : Statement) → is_silent line ≡ true → Nothing ≡ said → SpellsForm said line
silent_found [] said e f = subst (λ (w : Statement). SpellsForm w []) f G.empty
silent_found (first ∷ rest) said e f =
    let is : first ≡ 35 = eqb-true first 35 e in
    subst (λ (w : Statement). SpellsForm w (first ∷ rest)) f (rw is (G.comment rest))

pub line_found : (line : List ℕ) (said : Statement) → statement_of line ≡ Some said → SpellsLine said line
unfolding statement_of
line_found line said h = elim (either (not (list_all is_printable line)) _ _ said h) [
  | inl p ↦ absurd cc
  | inr p ↦ record {
    printable = not_not (list_all is_printable line) p.0;
    form = elim (either (is_silent line) _ _ said p.1) [
      | inl q ↦ let same : Nothing ≡ said = cc in silent_found line said q.0 same
      | inr q ↦ subst (λ (xs : List ℕ). SpellsForm said xs) (sym (front_parts is_word_byte line)) (form_found (word_at line).0 (word_at line).1 said q.1)
    ];
  }
]
