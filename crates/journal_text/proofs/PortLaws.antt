-- The line of a port.
use Rattle.std.proofs.Common.{◌≡◌, ℕ, ◌^◌, ◌≤◌, Bool, true, false, cond, List, [], ◌∷◌, ◌++◌, Option, Some, None, refl, sym, ap, subst, ◌∙◌, append_assoc, arith, inl, inr}
use Rattle.std.specs.Prelude.{◌==◌, ◌&&◌, not, nat_lt, nat_le, codes}
use Rattle.std.specs.List.{list_all, list_any, take_while}
use Rattle.std.specs.Str.{bytes_eq}
use Rattle.std.specs.Fmt.{decimal}
use Rattle.std.proofs.lemmas.Bool.{cases_Bool, and_parts, not-true, eqb-true, leb-true, lt-ltb}
use Rattle.std.proofs.lemmas.Option.{option_and_then_some, cond_some}
use Rattle.std.proofs.lemmas.List.{append-nil}
use Rattle.std.proofs.lemmas.Slice.Eq.{bytes_eq-Decides}
use Rattle.packet_framing.specs.declared.mode.Mode.{Mode}
use Rattle.packet_framing.specs.declared.mode.Mode.TheVariants.{Packet1, Packet2, Packet4, Line, Stream}
use Rattle.port_config.specs.Config.{is_config, is_served, is_pair}
use Rattle.journal_text.specs.declared.port_line.Limits.{Limits}
use Rattle.journal_text.specs.declared.port_line.ProgramOptions.{ProgramOptions}
use Rattle.journal_text.specs.declared.port_line.PortLine.{PortLine}
use Rattle.journal_text.specs.Words.{is_word_byte, is_line_byte, bytes_text, are_bytes, is_32, is_name}
use Rattle.journal_text.specs.Ports.{drivers, is_driver, is_spawn, msgq_text, mode_text, eof_text, status_text, port_line, is_stream, is_nothing, without_program, are_limits, is_port}
use Rattle.journal_text.specs.Reading.{◌>>=◌, behind, made, spaced_at, pair_at, field_at, number_of, number_at, name_at, bytes_at}
use Rattle.journal_text.specs.ReadingRows.{whole, all_of}
use Rattle.journal_text.specs.ReadingPorts.{this, this_at, driver_of, limits_by, limits_at, packet_of, mode_by, mode_at, either, eof_at, exit_status_at, two_at, events_at, Tail, tail_at, Parts, parts_at, program_of, program_at, no_program, program_after, PortHead, head_at, line_with, checked, port_behind, port_by, port_line_of}
use Rattle.journal_text.proofs.ReadingLaws.{both, ends, line_bytes, line_append, front_parts, Law, By, Front, Exact, field_law, pair_law, pair_text, pair_fits, nothing, tag, bare, part, own_part, part_again, word_then, by_word_law, map_law, made_found, spaced_found}
use Rattle.journal_text.proofs.NumberLaws.{number_exact}
use Rattle.journal_text.proofs.SenderLaws.{word_is, meant, never}
use Rattle.journal_text.proofs.TaskLaws.{number_law, law_32, name_law, bytes_law}
use Rattle.journal_text.proofs.RowLaws.{whole_is, IsLine}

-- ---- fixed words

abbrev this_text : List ℕ → Unit {0} → List ℕ
this_text keyword x = keyword

same_word : (keyword : List ℕ) → bytes_eq keyword keyword ≡ true
same_word keyword = (bytes_eq-Decides keyword keyword).1 refl

this_exact : (keyword : List ℕ) → list_all is_word_byte keyword ≡ true → Exact (this_text keyword) (λ x. true) (this keyword)
this_exact keyword all = record {
  found = λ word x h. let p = cond_some (bytes_eq word keyword) tt x h in (word_is word keyword p.0, refl);
  again = λ x h. rw (same_word keyword) refl;
  word = λ x h. all;
}

this_law : (keyword : List ℕ) → list_all is_word_byte keyword ≡ true → Law (this_text keyword) (λ x. true) (this_at keyword)
this_law keyword all = field_law (this_text keyword) (λ x. true) (this keyword) (this_exact keyword all)

eof_again : (x : Bool) → either (codes "eof") (codes "noeof") (eof_text x) ≡ Some x
eof_again true = refl
eof_again false = refl

eof_words : (x : Bool) → list_all is_word_byte (eof_text x) ≡ true
eof_words true = refl
eof_words false = refl

eof_exact : Exact eof_text (λ x. true) (either (codes "eof") (codes "noeof"))
eof_exact = record {
  found = λ word x h. (meant eof_text word (codes "eof") true x _ refl (meant eof_text word (codes "noeof") false x _ refl (never eof_text word x)) h, refl);
  again = λ x h. eof_again x;
  word = λ x h. eof_words x;
}

status_again : (x : Bool) → either (codes "status") (codes "nostatus") (status_text x) ≡ Some x
status_again true = refl
status_again false = refl

status_words : (x : Bool) → list_all is_word_byte (status_text x) ≡ true
status_words true = refl
status_words false = refl

status_exact : Exact status_text (λ x. true) (either (codes "status") (codes "nostatus"))
status_exact = record {
  found = λ word x h. (meant status_text word (codes "status") true x _ refl (meant status_text word (codes "nostatus") false x _ refl (never status_text word x)) h, refl);
  again = λ x h. status_again x;
  word = λ x h. status_words x;
}

eof_law : Law eof_text (λ x. true) eof_at
eof_law = field_law eof_text (λ x. true) (either (codes "eof") (codes "noeof")) eof_exact

exit_status_law : Law status_text (λ x. true) exit_status_at
exit_status_law = field_law status_text (λ x. true) (either (codes "status") (codes "nostatus")) status_exact

-- ---- drivers

-- one of these words, which are words
any_words : (word : List ℕ) (words : List (List ℕ)) → list_all (list_all is_word_byte) words ≡ true → list_any (bytes_eq word) words ≡ true → list_all is_word_byte word ≡ true
any_words word [] all any = absurd cc
any_words word (first ∷ words) all any =
    let h = and_parts (list_all is_word_byte first) (list_all (list_all is_word_byte) words) all in
    elim (cases_Bool (bytes_eq word first)) [
      | inl e ↦ rw (word_is word first e) h.0
      | inr e ↦ any_words word words h.1 (rw e at any)
    ]

driver_words : (driver : List ℕ) → is_driver driver ≡ true → list_all is_word_byte driver ≡ true
driver_words driver h = any_words driver drivers refl h

driver_exact : Exact (λ driver. driver) is_driver driver_of
unfolding driver_of
driver_exact = record {
  found = λ word x h. let p = cond_some (is_driver word) word x h in (p.1, ap is_driver (sym p.1) ∙ p.0);
  again = λ x h. rw h refl;
  word = driver_words;
}

driver_law : Law (λ driver. driver) is_driver (field_at driver_of)
driver_law = field_law (λ driver. driver) is_driver driver_of driver_exact

-- ---- limits

abbrev limits_text : Limits → List ℕ
limits_text limits = cond limits.on (decimal limits.low ++ 32 ∷ decimal limits.high) (codes "off")

abbrev limits_fits : Limits → Bool
limits_fits limits = cond limits.on (is_32 limits.low && is_32 limits.high) (limits.low == 4096 && limits.high == 8192)

abbrev on_limits : ℕ → ℕ → Limits
on_limits low high = record { on = true; low = low; high = high }

limits_front : (word rest : List ℕ) (x : Limits) (out : List ℕ) → limits_by word rest ≡ Some (x, out) → Front limits_text limits_fits x (word ++ rest) out
unfolding limits_by
limits_front word rest x out h =
    elim (cases_Bool (bytes_eq word (codes "off"))) [
      | inl e ↦
          let off : Limits = record { on = false; low = 4096; high = 8192 } in
          subst (λ (w : List ℕ). Front limits_text limits_fits x (w ++ rest) out) (sym (word_is word (codes "off") e))
          ((bare limits_text limits_fits off refl refl).found rest x out (rw e at h))
      | inr e ↦
          option_and_then_some _ (number_of (2 ^ 32) word) (x, out) (rw e at h) (λ low read go.
          let w = (number_exact (2 ^ 32) (omega arith)).found word low read in
          let m = made_found (on_limits low) (spaced_at (number_at (2 ^ 32)) rest) x out go in
          let f = spaced_found decimal (λ n. nat_lt n (2 ^ 32)) (number_at (2 ^ 32)) law_32 rest m.0 out m.1 in
          let line = (number_law (2 ^ 32) (omega arith)) in
          let made : Front limits_text limits_fits (on_limits low m.0) (word ++ rest) out = record {
            parts = ap (λ (xs : List ℕ). xs ++ rest) w.0 ∙ ap (λ (xs : List ℕ). decimal low ++ xs) f.0 ∙ sym (append_assoc (decimal low) (32 ∷ decimal m.0) out);
            within = both (is_32 low) (is_32 m.0) w.1 f.1;
            line = line_append (decimal low) (32 ∷ decimal m.0) (line_bytes (decimal low) ((number_exact (2 ^ 32) (omega arith)).word low w.1)) f.2;
          } in
          subst (λ (z : Limits). Front limits_text limits_fits z (word ++ rest) out) m.2 made)
    ]

limits_found : By limits_text limits_fits limits_by
limits_found = record { found = λ word rest x out h. limits_front word rest x out h }

not_off : (n : ℕ) (word : List ℕ) → number_of (2 ^ 32) word ≡ Some n → bytes_eq word (codes "off") ≡ false
unfolding number_of
not_off n word some =
    elim (cases_Bool (bytes_eq word (codes "off"))) [
      | inl e ↦ absurd (let is = word_is word (codes "off") e in let h = rw is at some in cc)
      | inr e ↦ e
    ]

limits_step : (word : List ℕ) (low high : ℕ) (rest : List ℕ) → number_of (2 ^ 32) word ≡ Some low → bytes_eq word (codes "off") ≡ false → is_32 high ≡ true → ends rest ≡ true
    → limits_by word (32 ∷ (decimal high ++ rest)) ≡ Some (on_limits low high, rest)
unfolding limits_by
limits_step word low high rest some off h e = rw (off, some) (part_again decimal (λ n. nat_lt n (2 ^ 32)) (number_at (2 ^ 32)) (on_limits low) law_32 high rest h e)

limits_parts : (on : Bool) (low high : ℕ) (rest : List ℕ) → limits_fits (record { on = on; low = low; high = high }) ≡ true → ends rest ≡ true
    → limits_at (limits_text (record { on = on; low = low; high = high }) ++ rest) ≡ Some (record { on = on; low = low; high = high }, rest)
unfolding limits_by
limits_parts false low high rest h e =
    let p = and_parts (low == 4096) (high == 8192) h in
    rw (eqb-true low 4096 p.0, eqb-true high 8192 p.1) (word_then limits_by (codes "off") rest refl e)
limits_parts true low high rest h e =
    let p = and_parts (is_32 low) (is_32 high) h in
    let exact = number_exact (2 ^ 32) (omega arith) in
    let again = exact.again low p.0 in
    ap limits_at (append_assoc (decimal low) (32 ∷ decimal high) rest)
    ∙ word_then limits_by (decimal low) (32 ∷ (decimal high ++ rest)) (exact.word low p.0) refl
    ∙ limits_step (decimal low) low high rest again (not_off low (decimal low) again) p.1 e

limits_law : Law limits_text limits_fits limits_at
limits_law = by_word_law limits_text limits_fits limits_by limits_found (λ x rest h e. limits_parts x.on x.low x.high rest h e)

-- ---- framings

abbrev packet_text : Mode → List ℕ
packet_text Packet1 = codes "1"
packet_text Packet2 = codes "2"
packet_text Packet4 = codes "4"
packet_text mode = []

abbrev is_packet : Mode → Bool
is_packet Packet1 = true
is_packet Packet2 = true
is_packet Packet4 = true
is_packet mode = false

packet_found : (word : List ℕ) (x : Mode) → packet_of word ≡ Some x → (word ≡ packet_text x) × (is_packet x ≡ true)
unfolding packet_of
packet_found word x h =
    elim (cases_Bool (bytes_eq word (codes "1"))) [
      | inl e ↦ let is : Packet1 ≡ x = (let h1 = rw e at h in cc) in rw (← is) (word_is word (codes "1") e, refl)
      | inr e1 ↦
          let h1 = rw e1 at h in
          elim (cases_Bool (bytes_eq word (codes "2"))) [
            | inl e ↦ let is : Packet2 ≡ x = (let h2 = rw e at h1 in cc) in rw (← is) (word_is word (codes "2") e, refl)
            | inr e2 ↦
                let h2 = rw e2 at h1 in
                elim (cases_Bool (bytes_eq word (codes "4"))) [
                  | inl e ↦ let is : Packet4 ≡ x = (let h3 = rw e at h2 in cc) in rw (← is) (word_is word (codes "4") e, refl)
                  | inr e ↦ absurd (let h3 = rw e at h2 in cc)
                ]
          ]
    ]

packet_again : (x : Mode) → is_packet x ≡ true → packet_of (packet_text x) ≡ Some x
unfolding packet_of
packet_again Packet1 h = refl
packet_again Packet2 h = refl
packet_again Packet4 h = refl
packet_again mode h = absurd cc

packet_words : (x : Mode) → is_packet x ≡ true → list_all is_word_byte (packet_text x) ≡ true
packet_words Packet1 h = refl
packet_words Packet2 h = refl
packet_words Packet4 h = refl
packet_words mode h = absurd cc

packet_law : Law packet_text is_packet (field_at packet_of)
packet_law = field_law packet_text is_packet packet_of (record { found = packet_found; again = packet_again; word = packet_words })

abbrev mode_fits : Mode → Bool
mode_fits (Line limit) = is_32 limit
mode_fits mode = true

packet_is : (x : Mode) → is_packet x ≡ true → (mode_text x ≡ codes "packet" ++ 32 ∷ packet_text x) × (mode_fits x ≡ true)
packet_is Packet1 h = (refl, refl)
packet_is Packet2 h = (refl, refl)
packet_is Packet4 h = (refl, refl)
packet_is mode h = absurd cc

mode_found : By mode_text mode_fits mode_by
unfolding mode_by
mode_found = record {
  found = (tag mode_text mode_fits (codes "stream") _ _ (bare mode_text mode_fits Stream refl refl)
      (tag mode_text mode_fits (codes "packet") _ _ (own_part mode_text mode_fits (codes "packet") packet_text is_packet (field_at packet_of) packet_law refl packet_is)
      (tag mode_text mode_fits (codes "line") _ _ (part mode_text mode_fits (codes "line") decimal (λ n. nat_lt n (2 ^ 32)) (number_at (2 ^ 32)) Line law_32 refl (λ x. refl) (λ x h. h))
      (nothing mode_text mode_fits)))).found;
}

mode_again : (x : Mode) (rest : List ℕ) → mode_fits x ≡ true → ends rest ≡ true → mode_at (mode_text x ++ rest) ≡ Some (x, rest)
unfolding mode_by
mode_again Packet1 rest h e = word_then mode_by (codes "packet") (32 ∷ (codes "1" ++ rest)) refl refl ∙ packet_law.again Packet1 rest refl e
mode_again Packet2 rest h e = word_then mode_by (codes "packet") (32 ∷ (codes "2" ++ rest)) refl refl ∙ packet_law.again Packet2 rest refl e
mode_again Packet4 rest h e = word_then mode_by (codes "packet") (32 ∷ (codes "4" ++ rest)) refl refl ∙ packet_law.again Packet4 rest refl e
mode_again (Line n) rest h e = word_then mode_by (codes "line") (32 ∷ (decimal n ++ rest)) refl refl ∙ part_again decimal (λ n. nat_lt n (2 ^ 32)) (number_at (2 ^ 32)) Line law_32 n rest h e
mode_again Stream rest h e = word_then mode_by (codes "stream") rest refl e

mode_law : Law mode_text mode_fits mode_at
mode_law = by_word_law mode_text mode_fits mode_by mode_found mode_again

-- ---- programs

abbrev tail_text : Tail → List ℕ
tail_text = pair_text (this_text (codes "busy")) (pair_text decimal (pair_text decimal (pair_text (this_text (codes "events")) (pair_text decimal decimal))))

abbrev tail_fits : Tail → Bool
tail_fits = pair_fits (λ x. true) (pair_fits is_32 (pair_fits is_32 (pair_fits (λ x. true) (pair_fits is_32 is_32))))

two_law : Law (pair_text decimal decimal) (pair_fits is_32 is_32) two_at
two_law = pair_law decimal is_32 (number_at (2 ^ 32)) decimal is_32 (number_at (2 ^ 32)) law_32 law_32

events_law : Law (pair_text (this_text (codes "events")) (pair_text decimal decimal)) (pair_fits (λ x. true) (pair_fits is_32 is_32)) events_at
events_law = pair_law (this_text (codes "events")) (λ x. true) (this_at (codes "events")) (pair_text decimal decimal) (pair_fits is_32 is_32) two_at (this_law (codes "events") refl) two_law

tail_law : Law tail_text tail_fits tail_at
tail_law =
    let events_text = pair_text (this_text (codes "events")) (pair_text decimal decimal) in
    let events_fits = pair_fits (λ (x : Unit {0}). true) (pair_fits is_32 is_32) in
    pair_law (this_text (codes "busy")) (λ x. true) (this_at (codes "busy")) (pair_text decimal (pair_text decimal events_text)) (pair_fits is_32 (pair_fits is_32 events_fits)) (pair_at (number_at (2 ^ 32)) (pair_at (number_at (2 ^ 32)) events_at)) (this_law (codes "busy") refl)
    (pair_law decimal is_32 (number_at (2 ^ 32)) (pair_text decimal events_text) (pair_fits is_32 events_fits) (pair_at (number_at (2 ^ 32)) events_at) law_32
    (pair_law decimal is_32 (number_at (2 ^ 32)) events_text events_fits events_at law_32 events_law))

abbrev parts_text : Parts → List ℕ
parts_text = pair_text (this_text (codes "run")) (pair_text bytes_text (pair_text mode_text (pair_text eof_text (pair_text status_text tail_text))))

abbrev parts_fits : Parts → Bool
parts_fits = pair_fits (λ x. true) (pair_fits are_bytes (pair_fits mode_fits (pair_fits (λ x. true) (pair_fits (λ x. true) tail_fits))))

parts_law : Law parts_text parts_fits parts_at
parts_law =
    let t1 = pair_text status_text tail_text in
    let f1 = pair_fits (λ (x : Bool). true) tail_fits in
    let a1 = pair_at exit_status_at tail_at in
    let t2 = pair_text eof_text t1 in
    let f2 = pair_fits (λ (x : Bool). true) f1 in
    let a2 = pair_at eof_at a1 in
    let t3 = pair_text mode_text t2 in
    let f3 = pair_fits mode_fits f2 in
    let a3 = pair_at mode_at a2 in
    pair_law (this_text (codes "run")) (λ x. true) (this_at (codes "run")) (pair_text bytes_text t3) (pair_fits are_bytes f3) (pair_at bytes_at a3) (this_law (codes "run") refl)
    (pair_law bytes_text are_bytes bytes_at t3 f3 a3 bytes_law
    (pair_law mode_text mode_fits mode_at t2 f2 a2 mode_law
    (pair_law eof_text (λ x. true) eof_at t1 f1 a1 eof_law
    (pair_law status_text (λ x. true) exit_status_at tail_text tail_fits tail_at exit_status_law tail_law))))

abbrev parts_of : ProgramOptions → Parts
parts_of p = (tt, (p.run, (p.mode, (p.eof, (p.exit_status, (tt, (p.busy_low, (p.busy_high, (tt, p.events)))))))))

abbrev words : ProgramOptions → List ℕ
words p = parts_text (parts_of p)

abbrev program_fits : ProgramOptions → Bool
program_fits p = parts_fits (parts_of p)

program_law : Law words program_fits program_at
program_law = map_law parts_text parts_fits parts_at words program_fits program_of parts_of parts_law (λ x. refl) (λ x h. h) (λ y h. (h, refl))

-- ---- heads

abbrev head_text : PortHead → List ℕ
head_text = pair_text (λ name. name) (pair_text decimal (pair_text (λ driver. driver) (pair_text (this_text (codes "msgq")) limits_text)))

abbrev head_fits : ℕ → PortHead → Bool
head_fits names = pair_fits is_name (pair_fits (λ n. nat_lt n names) (pair_fits is_driver (pair_fits (λ x. true) limits_fits)))

head_law : (names : ℕ) → names ≤ 2 ^ 64 → Law head_text (head_fits names) (head_at names)
head_law names le =
    let t1 = pair_text (this_text (codes "msgq")) limits_text in
    let f1 = pair_fits (λ (x : Unit {0}). true) limits_fits in
    let a1 = pair_at (this_at (codes "msgq")) limits_at in
    let driver : List ℕ → List ℕ = λ xs. xs in
    let t2 = pair_text driver t1 in
    let f2 = pair_fits is_driver f1 in
    let a2 = pair_at (field_at driver_of) a1 in
    pair_law (λ name. name) is_name name_at (pair_text decimal t2) (pair_fits (λ n. nat_lt n names) f2) (pair_at (number_at names) a2) name_law
    (pair_law decimal (λ n. nat_lt n names) (number_at names) t2 f2 a2 (number_law names le)
    (pair_law (λ xs. xs) is_driver (field_at driver_of) t1 f1 a1 driver_law
    (pair_law (this_text (codes "msgq")) (λ x. true) (this_at (codes "msgq")) limits_text limits_fits limits_at (this_law (codes "msgq") refl) limits_law)))

-- ---- the line

msgq_is : (on : Bool) (low high : ℕ) → msgq_text on low high ≡ codes "msgq" ++ 32 ∷ limits_text (record { on = on; low = low; high = high })
msgq_is true low high = refl
msgq_is false low high = refl

five : (a b c d e : List ℕ) → a ++ 32 ∷ (b ++ 32 ∷ (c ++ 32 ∷ (d ++ 32 ∷ e))) ≡ (a ++ 32 ∷ (b ++ 32 ∷ (c ++ 32 ∷ d))) ++ 32 ∷ e
five a b c d e = simp append_assoc

-- a line with and without a program
spawn_line : (head : PortHead) (p : ProgramOptions) → is_spawn head.1.1.0 ≡ true → port_line (line_with head p) ≡ codes "port" ++ 32 ∷ (head_text head ++ 32 ∷ words p)
spawn_line head p e =
    rw (e, msgq_is head.1.1.1.1.on head.1.1.1.1.low head.1.1.1.1.high)
    (ap (λ (xs : List ℕ). codes "port" ++ 32 ∷ xs) (five head.0 (decimal head.1.0) head.1.1.0 (codes "msgq" ++ 32 ∷ limits_text head.1.1.1.1) (words p)))

other_line : (head : PortHead) (p : ProgramOptions) → is_spawn head.1.1.0 ≡ false → port_line (line_with head p) ≡ codes "port" ++ 32 ∷ head_text head
other_line head p e = rw (e, msgq_is head.1.1.1.1.on head.1.1.1.1.low head.1.1.1.1.high) refl

limits_are : (on : Bool) (low high : ℕ) → limits_fits (record { on = on; low = low; high = high }) ≡ true → are_limits on low high ≡ true
limits_are true low high h = refl
limits_are false low high h = h

-- the range of a line
line_fits : (names : ℕ) (head : PortHead) (p : ProgramOptions) → head_fits names head ≡ true → is_config (line_with head p).config ≡ true
    → cond (is_spawn head.1.1.0) (are_bytes p.run && (is_32 p.events.0 && is_32 p.events.1)) (without_program (line_with head p).config p.events) ≡ true → is_port names (line_with head p) ≡ true
line_fits names head p h config rest =
    let a = and_parts (is_name head.0) _ h in
    let b = and_parts (nat_lt head.1.0 names) _ a.1 in
    let c = and_parts (is_driver head.1.1.0) _ b.1 in
    let d = and_parts true (limits_fits head.1.1.1.1) c.1 in
    both (is_name head.0) _ a.0 (both (nat_lt head.1.0 names) _ b.0 (both (is_driver head.1.1.0) _ c.0 (both (is_config (line_with head p).config) _ config
    (both (are_limits head.1.1.1.1.on head.1.1.1.1.low head.1.1.1.1.high) _ (limits_are head.1.1.1.1.on head.1.1.1.1.low head.1.1.1.1.high d.1) rest))))

program_range : (p : ProgramOptions) → program_fits p ≡ true → (are_bytes p.run && (is_32 p.events.0 && is_32 p.events.1)) ≡ true
program_range p h =
    let a = and_parts (are_bytes p.run) _ h in
    let b = and_parts (mode_fits p.mode) _ a.1 in
    let c = and_parts (is_32 p.busy_low) _ b.1 in
    let d = and_parts (is_32 p.busy_high) _ c.1 in
    both (are_bytes p.run) _ a.0 d.1

-- what the line with a head and a program is
made_line : (names : ℕ) → names ≤ 2 ^ 64 → (rest : List ℕ) (head : PortHead) (behind : List ℕ) (p : ProgramOptions) → spaced_at (head_at names) rest ≡ Some (head, behind) → program_after head.1.1.0 behind ≡ Some p → is_config (line_with head p).config ≡ true
    → IsLine port_line (is_port names) (line_with head p) (codes "port" ++ rest)
unfolding program_after
made_line names le rest head behind p first second config =
    let h = spaced_found head_text (head_fits names) (head_at names) (head_law names le) rest head behind first in
    elim (cases_Bool (is_spawn head.1.1.0)) [
      | inl e ↦
          option_and_then_some _ (spaced_at program_at behind) p (rw e at second) (λ x read all.
          let w = whole_is x.0 p x.1 all in
          let f = spaced_found words program_fits program_at program_law behind x.0 x.1 read in
          let is : behind ≡ 32 ∷ words p = f.0 ∙ ap (λ (xs : List ℕ). 32 ∷ (words x.0 ++ xs)) w.0 ∙ ap (λ (xs : List ℕ). 32 ∷ xs) (append-nil (words x.0)) ∙ ap (λ (q : ProgramOptions). 32 ∷ words q) w.1 in
          let range = program_range p (ap program_fits (sym w.1) ∙ f.1) in
          let clean : list_all is_line_byte (words p) ≡ true = ap (λ (q : ProgramOptions). list_all is_line_byte (words q)) (sym w.1) ∙ f.2 in
          let text = spawn_line head p e in
          record {
            parts = ap (λ (xs : List ℕ). codes "port" ++ xs) (h.0 ∙ ap (λ (xs : List ℕ). 32 ∷ (head_text head ++ xs)) is) ∙ sym text;
            within = line_fits names head p h.1 config (rw e range);
            clean = ap (list_all is_line_byte) text ∙ line_append (head_text head) (32 ∷ words p) h.2 clean;
          })
      | inr e ↦
          let w = whole_is no_program p behind (rw e at second) in
          let text = other_line head p e in
          record {
            parts = ap (λ (xs : List ℕ). codes "port" ++ xs) (h.0 ∙ ap (λ (xs : List ℕ). 32 ∷ (head_text head ++ xs)) w.0 ∙ ap (λ (xs : List ℕ). 32 ∷ xs) (append-nil (head_text head))) ∙ sym text;
            within = line_fits names head p h.1 config (rw (e, ← w.1) refl);
            clean = ap (list_all is_line_byte) text ∙ h.2;
          }
    ]

pub port_found : (names : ℕ) → names ≤ 2 ^ 64 → (line : List ℕ) (port : PortLine) → port_line_of names line ≡ Some port → IsLine port_line (is_port names) port line
unfolding port_line_of port_behind
port_found names le line port h =
    let word = take_while is_word_byte line in
    let rest = behind is_word_byte line in
    elim (cases_Bool (bytes_eq word (codes "port"))) [
      | inl e ↦
          option_and_then_some _ (spaced_at (head_at names) rest) port (rw e at h) (λ head first go.
          option_and_then_some _ (program_after head.0.1.1.0 head.1) port go (λ p second last.
          let c = cond_some (is_config (line_with head.0 p).config) (line_with head.0 p) port last in
          let made = made_line names le rest head.0 head.1 p first second c.0 in
          let is : line ≡ codes "port" ++ rest = front_parts is_word_byte line ∙ ap (λ (xs : List ℕ). xs ++ rest) (word_is word (codes "port") e) in
          let whole : IsLine port_line (is_port names) (line_with head.0 p) line = record { parts = is ∙ made.parts; within = made.within; clean = made.clean } in
          subst (λ (q : PortLine). IsLine port_line (is_port names) q line) c.1 whole))
      | inr e ↦ absurd (let h1 = rw e at h in cc)
    ]

-- ---- the line again

pair_32 : (low high : ℕ) → is_pair low high ≡ true → (is_32 low && is_32 high) ≡ true
pair_32 low high h =
    let a = and_parts (nat_le 1 low && nat_le low high) (nat_le high 1073741824) h in
    let b = and_parts (nat_le 1 low) (nat_le low high) a.0 in
    let le = leb-true low high b.1 in
    let top = leb-true high 1073741824 a.1 in
    both (is_32 low) (is_32 high) (lt-ltb low (2 ^ 32) (omega arith)) (lt-ltb high (2 ^ 32) (omega arith))

limits_in : (on : Bool) (low high : ℕ) → are_limits on low high ≡ true → is_pair low high ≡ true → limits_fits (record { on = on; low = low; high = high }) ≡ true
limits_in true low high h pair = pair_32 low high pair
limits_in false low high h pair = h

mode_in : (mode : Mode) → is_served mode ≡ true → mode_fits mode ≡ true
mode_in (Line limit) h = let top = leb-true limit 262143 (and_parts (nat_le 1 limit) (nat_le limit 262143) h).1 in lt-ltb limit (2 ^ 32) (omega arith)
mode_in Packet1 h = refl
mode_in Packet2 h = refl
mode_in Packet4 h = refl
mode_in Stream h = refl

abbrev head_of : PortLine → PortHead
head_of port = (port.name, (port.owner, (port.driver, (tt, record { on = port.config.msgq_on; low = port.config.msgq_low; high = port.config.msgq_high }))))

abbrev program_in : PortLine → ProgramOptions
program_in port = record { run = port.config.run; mode = port.config.mode; eof = port.config.eof; exit_status = port.config.exit_status; busy_low = port.config.busy_low; busy_high = port.config.busy_high; events = port.events }

record Ranges (names : ℕ) (port : PortLine) : Type 0 where
  head : head_fits names (head_of port) ≡ true
  config : is_config port.config ≡ true
  mode : mode_fits port.config.mode ≡ true
  busy : (is_32 port.config.busy_low && is_32 port.config.busy_high) ≡ true
  rest : cond (is_spawn port.driver) (are_bytes port.config.run && (is_32 port.events.0 && is_32 port.events.1)) (without_program port.config port.events) ≡ true

ranges : (names : ℕ) (port : PortLine) → is_port names port ≡ true → Ranges names port
ranges names port h =
    let a = and_parts (is_name port.name) _ h in
    let b = and_parts (nat_lt port.owner names) _ a.1 in
    let c = and_parts (is_driver port.driver) _ b.1 in
    let d = and_parts (is_config port.config) _ c.1 in
    let e = and_parts (are_limits port.config.msgq_on port.config.msgq_low port.config.msgq_high) _ d.1 in
    let f = and_parts (is_served port.config.mode && is_pair port.config.busy_low port.config.busy_high) (is_pair port.config.msgq_low port.config.msgq_high) d.0 in
    let g = and_parts (is_served port.config.mode) (is_pair port.config.busy_low port.config.busy_high) f.0 in
    record {
      head = both (is_name port.name) _ a.0 (both (nat_lt port.owner names) _ b.0 (both (is_driver port.driver) _ c.0 (limits_in port.config.msgq_on port.config.msgq_low port.config.msgq_high e.0 f.1)));
      config = d.0;
      mode = mode_in port.config.mode g.0;
      busy = pair_32 port.config.busy_low port.config.busy_high g.1;
      rest = e.1;
    }

nothing_is : (run : List ℕ) → is_nothing run ≡ true → run ≡ []
nothing_is [] h = refl
nothing_is (byte ∷ bytes) h = absurd cc

stream_is : (mode : Mode) → is_stream mode ≡ true → mode ≡ Stream
stream_is Stream h = refl
stream_is Packet1 h = absurd cc
stream_is Packet2 h = absurd cc
stream_is Packet4 h = absurd cc
stream_is (Line limit) h = absurd cc

-- a program of which nothing is said
without_is : (run : List ℕ) (mode : Mode) (eof status : Bool) (low high read write : ℕ) → (is_nothing run && (is_stream mode && (not eof && (not status && (low == 4096 && (high == 8192 && (read == 0 && write == 0))))))) ≡ true
    → no_program ≡ record { run = run; mode = mode; eof = eof; exit_status = status; busy_low = low; busy_high = high; events = (read, write) }
without_is run mode eof status low high read write h =
    let a = and_parts (is_nothing run) _ h in
    let b = and_parts (is_stream mode) _ a.1 in
    let c = and_parts (not eof) _ b.1 in
    let d = and_parts (not status) _ c.1 in
    let e = and_parts (low == 4096) _ d.1 in
    let f = and_parts (high == 8192) _ e.1 in
    let g = and_parts (read == 0) (write == 0) f.1 in
    rw (nothing_is run a.0, stream_is mode b.0, not-true eof c.0, not-true status d.0, eqb-true low 4096 e.0, eqb-true high 8192 f.0, eqb-true read 0 g.0, eqb-true write 0 g.1) refl

after_again : (names : ℕ) (port : PortLine) → Ranges names port → (rest : List ℕ) → rest ≡ cond (is_spawn port.driver) (32 ∷ words (program_in port)) [] → program_after port.driver rest ≡ Some (program_in port)
unfolding program_after
after_again names port r rest is =
    elim (cases_Bool (is_spawn port.driver)) [
      | inl e ↦
          let behind : rest ≡ 32 ∷ (words (program_in port) ++ []) = is ∙ ap (λ (b : Bool). cond b (32 ∷ words (program_in port)) []) e ∙ ap (λ (xs : List ℕ). 32 ∷ xs) (sym (append-nil (words (program_in port)))) in
          let a = and_parts (are_bytes port.config.run) _ (rw e at r.rest) in
          let busy = and_parts (is_32 port.config.busy_low) (is_32 port.config.busy_high) r.busy in
          let fits : program_fits (program_in port) ≡ true = both (are_bytes port.config.run) _ a.0 (both (mode_fits port.config.mode) _ r.mode (both (is_32 port.config.busy_low) _ busy.0 (both (is_32 port.config.busy_high) _ busy.1 a.1))) in
          rw (e, behind) (ap all_of (program_law.again (program_in port) [] fits refl))
      | inr e ↦
          let behind : rest ≡ [] = is ∙ ap (λ (b : Bool). cond b (32 ∷ words (program_in port)) []) e in
          rw (e, behind) (ap Some (without_is port.config.run port.config.mode port.config.eof port.config.exit_status port.config.busy_low port.config.busy_high port.events.0 port.events.1 (rw e at r.rest)))
    ]

-- what stands behind the head
line_rest : (port : PortLine) → port_line port ≡ codes "port" ++ 32 ∷ (head_text (head_of port) ++ cond (is_spawn port.driver) (32 ∷ words (program_in port)) [])
line_rest port =
    elim (cases_Bool (is_spawn port.driver)) [
      | inl e ↦ spawn_line (head_of port) (program_in port) e ∙ ap (λ (b : Bool). codes "port" ++ 32 ∷ (head_text (head_of port) ++ cond b (32 ∷ words (program_in port)) [])) (sym e)
      | inr e ↦ other_line (head_of port) (program_in port) e ∙ ap (λ (xs : List ℕ). codes "port" ++ 32 ∷ xs) (sym (append-nil (head_text (head_of port))))
          ∙ ap (λ (b : Bool). codes "port" ++ 32 ∷ (head_text (head_of port) ++ cond b (32 ∷ words (program_in port)) [])) (sym e)
    ]

rest_ends : (b : Bool) (xs : List ℕ) → ends (cond b (32 ∷ xs) []) ≡ true
rest_ends true xs = refl
rest_ends false xs = refl

pub port_again : (names : ℕ) → names ≤ 2 ^ 64 → (port : PortLine) → is_port names port ≡ true → port_line_of names (port_line port) ≡ Some port
unfolding port_line_of port_behind
port_again names le port h =
    let r = ranges names port h in
    let rest : List ℕ = cond (is_spawn port.driver) (32 ∷ words (program_in port)) [] in
    let head = (head_law names le).again (head_of port) rest r.head (rest_ends (is_spawn port.driver) (words (program_in port))) in
    ap (λ (xs : List ℕ). port_by names (take_while is_word_byte xs) (behind is_word_byte xs)) (line_rest port)
    ∙ word_then (port_by names) (codes "port") (32 ∷ (head_text (head_of port) ++ rest)) refl refl
    ∙ ap (λ (o : Option (PortHead × List ℕ)). o >>= λ head. (program_after head.0.1.1.0 head.1 >>= λ program. checked (line_with head.0 program))) head
    ∙ ap (λ (o : Option ProgramOptions). o >>= λ program. checked (line_with (head_of port) program)) (after_again names port r rest refl)
    ∙ ap (λ (b : Bool). cond b (Some port) None) r.config
