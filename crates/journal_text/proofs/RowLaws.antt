-- Rows.
use Rattle.std.proofs.Common.{◌≡◌, ℕ, ◌^◌, ◌≤◌, Bool, true, List, [], ◌∷◌, ◌++◌, Option, Some, refl, sym, ap, subst, ◌∙◌, append_assoc}
use Rattle.std.specs.Prelude.{◌&&◌, codes}
use Rattle.std.specs.List.{list_all, take_while}
use Rattle.std.specs.Fmt.{decimal}
use Rattle.std.proofs.lemmas.Bool.{and_parts}
use Rattle.std.proofs.lemmas.Option.{option_and_then_some}
use Rattle.std.proofs.lemmas.List.{append-nil}
use Rattle.port_signal.specs.declared.mark.MarkKind.{MarkKind}
use Rattle.port_signal.specs.declared.mark.MarkKind.TheVariants.{Busy, Free, Closed}
use Rattle.port_signal.specs.declared.outside.Outside.{Outside}
use Rattle.port_signal.specs.declared.outside.Outside.TheVariants as answer
use Rattle.port_model.specs.declared.signal.Sender.{Sender}
use Rattle.port_model.specs.declared.effect.Effect.{Effect}
use Rattle.port_model.specs.declared.effect.Effect.TheVariants as effect
use Rattle.port_model.specs.declared.row.Row.{Row}
use Rattle.port_model.specs.declared.row.Row.TheVariants.{Handled, Late, Listed, Resumed, Mark}
use Rattle.port_model.specs.Tasks.{TaskView}
use Rattle.journal_text.specs.Words.{is_word_byte, is_line_byte, listed, is_64}
use Rattle.journal_text.specs.Signals.{sender_text, is_sender, task_text, is_task}
use Rattle.journal_text.specs.Effects.{answer_text, is_answer, effect_text, is_effect}
use Rattle.journal_text.specs.Rows.{mark_text, row_text, is_row, is_list}
use Rattle.journal_text.specs.Reading.{◌>>=◌, after, behind, made, spaced_at, pair_at, field_at, by_word, number_at, sender_of, sender_at, task_at, answer_at, effect_at}
use Rattle.journal_text.specs.ReadingRows.{list_at, semicolon_at, whole, all_of, calls_at, sent_at, handled_at, mark_of, row_by, row_of}
use Rattle.journal_text.proofs.ReadingLaws.{both, line_append, front_parts, after_is, Law, By, Front, field_law, pair_law, pair_text, pair_fits, nothing, tag, part, part_again, word_then, made_found, spaced_found}
use Rattle.journal_text.proofs.SenderLaws.{sender_exact, meant, never}
use Rattle.journal_text.proofs.TaskLaws.{law_64, task_law}
use Rattle.journal_text.proofs.EffectLaws.{answer_law, effect_law}
use Rattle.journal_text.proofs.ListLaws.{Begins, list_found, list_again}

-- ---- marks and senders

mark_found : (word : List ℕ) (x : MarkKind) → mark_of word ≡ Some x → (word ≡ mark_text x) × (true ≡ true)
unfolding mark_of
mark_found word x h =
    (meant mark_text word (codes "busy") Busy x _ refl (meant mark_text word (codes "free") Free x _ refl (meant mark_text word (codes "closed") Closed x _ refl (never mark_text word x))) h, refl)

mark_again : (x : MarkKind) → true ≡ true → mark_of (mark_text x) ≡ Some x
unfolding mark_of
mark_again Busy h = refl
mark_again Free h = refl
mark_again Closed h = refl

mark_words : (x : MarkKind) → true ≡ true → list_all is_word_byte (mark_text x) ≡ true
mark_words Busy h = refl
mark_words Free h = refl
mark_words Closed h = refl

mark_law : Law mark_text (λ x. true) (field_at mark_of)
mark_law = field_law mark_text (λ x. true) mark_of (record { found = mark_found; again = mark_again; word = mark_words })

sender_law : (names : ℕ) → names ≤ 2 ^ 64 → Law sender_text (is_sender names) (sender_at names)
sender_law names le = field_law sender_text (is_sender names) (sender_of names) (sender_exact names le)

-- ---- senders with numbers and tasks

abbrev place_text : Sender × ℕ → List ℕ
place_text = pair_text sender_text decimal

abbrev place_fits : ℕ → Sender × ℕ → Bool
place_fits names = pair_fits (is_sender names) is_64

place_law : (names : ℕ) → names ≤ 2 ^ 64 → Law place_text (place_fits names) (pair_at (sender_at names) (number_at (2 ^ 64)))
place_law names le = pair_law sender_text (is_sender names) (sender_at names) decimal is_64 (number_at (2 ^ 64)) (sender_law names le) law_64

abbrev resume_text : Sender × (ℕ × ℕ) → List ℕ
resume_text = pair_text sender_text (pair_text decimal decimal)

abbrev resume_fits : ℕ → Sender × (ℕ × ℕ) → Bool
resume_fits names = pair_fits (is_sender names) (pair_fits is_64 is_64)

resume_law : (names : ℕ) → names ≤ 2 ^ 64 → Law resume_text (resume_fits names) (pair_at (sender_at names) (pair_at (number_at (2 ^ 64)) (number_at (2 ^ 64))))
resume_law names le =
    pair_law sender_text (is_sender names) (sender_at names) (pair_text decimal decimal) (pair_fits is_64 is_64) (pair_at (number_at (2 ^ 64)) (number_at (2 ^ 64)))
    (sender_law names le) (pair_law decimal is_64 (number_at (2 ^ 64)) decimal is_64 (number_at (2 ^ 64)) law_64 law_64)

abbrev sent_text : Sender × (ℕ × TaskView) → List ℕ
sent_text = pair_text sender_text (pair_text decimal task_text)

abbrev sent_fits : ℕ → Sender × (ℕ × TaskView) → Bool
sent_fits names = pair_fits (is_sender names) (pair_fits is_64 (is_task names))

sent_law : (names : ℕ) → names ≤ 2 ^ 64 → Law sent_text (sent_fits names) (sent_at names)
sent_law names le =
    pair_law sender_text (is_sender names) (sender_at names) (pair_text decimal task_text) (pair_fits is_64 (is_task names)) (pair_at (number_at (2 ^ 64)) (task_at names))
    (sender_law names le) (pair_law decimal is_64 (number_at (2 ^ 64)) task_text (is_task names) (task_at names) law_64 (task_law names le))

-- ---- answers and effects

answer_begins : (x : Outside) → is_answer x ≡ true → Begins (answer_text x)
answer_begins (answer.Took n) h = record { byte = 116; bytes = _; is = refl; other = refl }
answer_begins (answer.Got bytes) h = record { byte = 103; bytes = _; is = refl; other = refl }
answer_begins answer.Again h = record { byte = 97; bytes = _; is = refl; other = refl }
answer_begins answer.End h = record { byte = 101; bytes = _; is = refl; other = refl }
answer_begins answer.Failed h = record { byte = 102; bytes = _; is = refl; other = refl }
answer_begins (answer.Status z) h = record { byte = 115; bytes = _; is = refl; other = refl }

effect_begins : (names : ℕ) (x : Effect) → is_effect names x ≡ true → Begins (effect_text x)
effect_begins names (effect.Message flag bytes) h = record { byte = 100; bytes = _; is = refl; other = refl }
effect_begins names effect.Eof h = record { byte = 101; bytes = _; is = refl; other = refl }
effect_begins names (effect.Status z) h = record { byte = 120; bytes = _; is = refl; other = refl }
effect_begins names (effect.Busy b) h = record { byte = 98; bytes = _; is = refl; other = refl }
effect_begins names (effect.Select event dir on) h = record { byte = 115; bytes = _; is = refl; other = refl }
effect_begins names (effect.Unuse n) h = record { byte = 117; bytes = _; is = refl; other = refl }
effect_begins names (effect.Async number key code input) h = record { byte = 97; bytes = _; is = refl; other = refl }
effect_begins names (effect.Watch n) h = record { byte = 119; bytes = _; is = refl; other = refl }
effect_begins names (effect.Reply bytes) h = record { byte = 114; bytes = _; is = refl; other = refl }
effect_begins names effect.ReplyBadarg h = record { byte = 114; bytes = _; is = refl; other = refl }
effect_begins names (effect.Fail name) h = record { byte = 102; bytes = _; is = refl; other = refl }

abbrev calls_text : List Outside × List Effect → List ℕ
calls_text p = 32 ∷ 59 ∷ (listed answer_text p.0 ++ 32 ∷ 59 ∷ listed effect_text p.1)

abbrev calls_fits : ℕ → List Outside × List Effect → Bool
calls_fits names p = is_list is_answer p.0 && is_list (is_effect names) p.1

semicolon_is : (bytes rest : List ℕ) → semicolon_at bytes ≡ Some rest → bytes ≡ 32 ∷ 59 ∷ rest
semicolon_is bytes rest h =
    option_and_then_some (after 59) (after 32 bytes) rest h (λ inner first second. after_is 32 bytes inner first ∙ ap (λ (xs : List ℕ). 32 ∷ xs) (after_is 59 inner rest second))

calls_found : (names : ℕ) → names ≤ 2 ^ 64 → (bytes : List ℕ) (x : List Outside × List Effect) (rest : List ℕ) → calls_at names bytes ≡ Some (x, rest) → Front calls_text (calls_fits names) x bytes rest
unfolding calls_at
calls_found names le bytes x rest h =
    option_and_then_some _ (semicolon_at bytes) (x, rest) h (λ answers first go.
    option_and_then_some _ (list_at answer_at answers) (x, rest) go (λ outside second go.
    option_and_then_some _ (semicolon_at outside.1) (x, rest) go (λ effects third go.
    let m = made_found (λ effects. (outside.0, effects)) (list_at (effect_at names) effects) x rest go in
    let a = list_found answer_text is_answer answer_at answer_law answers outside.0 outside.1 second in
    let b = list_found effect_text (is_effect names) (effect_at names) (effect_law names le) effects m.0 rest m.1 in
    let behind : outside.1 ≡ 32 ∷ 59 ∷ (listed effect_text m.0 ++ rest) = semicolon_is outside.1 effects third ∙ ap (λ (xs : List ℕ). 32 ∷ 59 ∷ xs) b.parts in
    let parts : bytes ≡ calls_text (outside.0, m.0) ++ rest =
    semicolon_is bytes answers first ∙ ap (λ (xs : List ℕ). 32 ∷ 59 ∷ xs) (a.parts ∙ ap (λ (xs : List ℕ). listed answer_text outside.0 ++ xs) behind ∙ sym (append_assoc (listed answer_text outside.0) (32 ∷ 59 ∷ listed effect_text m.0) rest)) in
    let made : Front calls_text (calls_fits names) (outside.0, m.0) bytes rest = record {
      parts = parts;
      within = both (is_list is_answer outside.0) (is_list (is_effect names) m.0) a.within b.within;
      line = line_append (listed answer_text outside.0) (32 ∷ 59 ∷ listed effect_text m.0) a.line b.line;
    } in
    subst (λ (z : List Outside × List Effect). Front calls_text (calls_fits names) z bytes rest) m.2 made)))

calls_again : (names : ℕ) → names ≤ 2 ^ 64 → (x : List Outside × List Effect) → calls_fits names x ≡ true → calls_at names (calls_text x ++ []) ≡ Some (x, [])
unfolding calls_at
calls_again names le x h =
    let p = and_parts (is_list is_answer x.0) (is_list (is_effect names) x.1) h in
    let behind : List ℕ = 32 ∷ 59 ∷ (listed effect_text x.1 ++ []) in
    let a : list_at answer_at ((listed answer_text x.0 ++ 32 ∷ 59 ∷ listed effect_text x.1) ++ []) ≡ Some (x.0, behind) =
    ap (list_at answer_at) (append_assoc (listed answer_text x.0) (32 ∷ 59 ∷ listed effect_text x.1) []) ∙ list_again answer_text is_answer answer_at answer_law answer_begins x.0 behind p.0 refl in
    let b = list_again effect_text (is_effect names) (effect_at names) (effect_law names le) (effect_begins names) x.1 [] p.1 refl in
    ap (λ (o : Option (List Outside × List ℕ)). o >>= λ outside. (semicolon_at outside.1 >>= λ effects. made (λ effects. (outside.0, effects)) (list_at (effect_at names) effects))) a
    ∙ ap (made (λ effects. (x.0, effects))) b

-- ---- rows

handled_is : (from : Sender) (seq : ℕ) (task : TaskView) (outside : List Outside) (effects : List Effect)
    → row_text (Handled from seq task outside effects) ≡ codes "h" ++ 32 ∷ (sent_text (from, (seq, task)) ++ calls_text (outside, effects))
handled_is from seq task outside effects = simp append_assoc

handled_found : (names : ℕ) → names ≤ 2 ^ 64 → (rest : List ℕ) (x : Row) (out : List ℕ) → handled_at names rest ≡ Some (x, out) → Front row_text (is_row names) x (codes "h" ++ rest) out
unfolding handled_at
handled_found names le rest x out h =
    option_and_then_some _ (spaced_at (sent_at names) rest) (x, out) h (λ sent first go.
    let of : List Outside × List Effect → Row = λ calls. Handled sent.0.0 sent.0.1.0 sent.0.1.1 calls.0 calls.1 in
    let m = made_found of (calls_at names sent.1) x out go in
    let a = spaced_found sent_text (sent_fits names) (sent_at names) (sent_law names le) rest sent.0 sent.1 first in
    let b = calls_found names le sent.1 m.0 out m.1 in
    let is = handled_is sent.0.0 sent.0.1.0 sent.0.1.1 m.0.0 m.0.1 in
    let parts : codes "h" ++ rest ≡ row_text (of m.0) ++ out =
    ap (λ (xs : List ℕ). codes "h" ++ xs) (a.0 ∙ ap (λ (xs : List ℕ). 32 ∷ (sent_text sent.0 ++ xs)) b.parts ∙ ap (λ (xs : List ℕ). 32 ∷ xs) (sym (append_assoc (sent_text sent.0) (calls_text m.0) out)))
    ∙ ap (λ (xs : List ℕ). xs ++ out) (sym is) in
    let p = and_parts (is_sender names sent.0.0) (pair_fits is_64 (is_task names) sent.0.1) a.1 in
    let q = and_parts (is_64 sent.0.1.0) (is_task names sent.0.1.1) p.1 in
    let made : Front row_text (is_row names) (of m.0) (codes "h" ++ rest) out = record {
      parts = parts;
      within = both (is_sender names sent.0.0) _ p.0 (both (is_64 sent.0.1.0) _ q.0 (both (is_task names sent.0.1.1) _ q.1 b.within));
      line = ap (list_all is_line_byte) is ∙ line_append (codes "h") (32 ∷ (sent_text sent.0 ++ calls_text m.0)) refl (line_append (sent_text sent.0) (calls_text m.0) a.2 b.line);
    } in
    subst (λ (z : Row). Front row_text (is_row names) z (codes "h" ++ rest) out) m.2 made)

row_found_by : (names : ℕ) → names ≤ 2 ^ 64 → By row_text (is_row names) (row_by names)
unfolding row_by
row_found_by names le = record {
  found = (tag row_text (is_row names) (codes "h") _ _ (record { found = handled_found names le })
      (tag row_text (is_row names) (codes "l") _ _ (part row_text (is_row names) (codes "l") sent_text (sent_fits names) (sent_at names) (λ p. Late p.0 p.1.0 p.1.1) (sent_law names le) refl (λ x. refl) (λ x h. h))
      (tag row_text (is_row names) (codes "s") _ _ (part row_text (is_row names) (codes "s") place_text (place_fits names) (pair_at (sender_at names) (number_at (2 ^ 64))) (λ p. Listed p.0 p.1) (place_law names le) refl (λ x. refl) (λ x h. h))
      (tag row_text (is_row names) (codes "r") _ _ (part row_text (is_row names) (codes "r") resume_text (resume_fits names) (pair_at (sender_at names) (pair_at (number_at (2 ^ 64)) (number_at (2 ^ 64)))) (λ p. Resumed p.0 p.1.0 p.1.1) (resume_law names le) refl (λ x. refl) (λ x h. h))
      (tag row_text (is_row names) (codes "m") _ _ (part row_text (is_row names) (codes "m") mark_text (λ x. true) (field_at mark_of) Mark mark_law refl (λ x. refl) (λ x h. refl))
      (nothing row_text (is_row names))))))).found;
}

handled_again : (names : ℕ) → names ≤ 2 ^ 64 → (from : Sender) (seq : ℕ) (task : TaskView) (outside : List Outside) (effects : List Effect) → is_row names (Handled from seq task outside effects) ≡ true
    → handled_at names (32 ∷ ((sent_text (from, (seq, task)) ++ calls_text (outside, effects)) ++ [])) ≡ Some (Handled from seq task outside effects, [])
unfolding handled_at
handled_again names le from seq task outside effects h =
    let p = and_parts (is_sender names from) _ h in
    let q = and_parts (is_64 seq) _ p.1 in
    let r = and_parts (is_task names task) _ q.1 in
    let behind : List ℕ = calls_text (outside, effects) ++ [] in
    let fits : sent_fits names (from, (seq, task)) ≡ true = both (is_sender names from) _ p.0 (both (is_64 seq) _ q.0 r.0) in
    let a : spaced_at (sent_at names) (32 ∷ ((sent_text (from, (seq, task)) ++ calls_text (outside, effects)) ++ [])) ≡ Some ((from, (seq, task)), behind) =
    ap (sent_at names) (append_assoc (sent_text (from, (seq, task))) (calls_text (outside, effects)) []) ∙ (sent_law names le).again (from, (seq, task)) behind fits refl in
    ap (λ (o : Option ((Sender × (ℕ × TaskView)) × List ℕ)). o >>= λ sent. made (λ calls. Handled sent.0.0 sent.0.1.0 sent.0.1.1 calls.0 calls.1) (calls_at names sent.1)) a
    ∙ ap (made (λ calls. Handled from seq task calls.0 calls.1)) (calls_again names le (outside, effects) r.1)

row_again_by : (names : ℕ) → names ≤ 2 ^ 64 → (row : Row) → is_row names row ≡ true → by_word (row_by names) (row_text row ++ []) ≡ Some (row, [])
unfolding row_by
row_again_by names le (Handled from seq task outside effects) h =
    ap (λ (xs : List ℕ). by_word (row_by names) (xs ++ [])) (handled_is from seq task outside effects)
    ∙ word_then (row_by names) (codes "h") (32 ∷ ((sent_text (from, (seq, task)) ++ calls_text (outside, effects)) ++ [])) refl refl
    ∙ handled_again names le from seq task outside effects h
row_again_by names le (Late from seq task) h =
    word_then (row_by names) (codes "l") (32 ∷ (sent_text (from, (seq, task)) ++ [])) refl refl ∙ part_again sent_text (sent_fits names) (sent_at names) (λ p. Late p.0 p.1.0 p.1.1) (sent_law names le) (from, (seq, task)) [] h refl
row_again_by names le (Listed from seq) h =
    word_then (row_by names) (codes "s") (32 ∷ (place_text (from, seq) ++ [])) refl refl ∙ part_again place_text (place_fits names) (pair_at (sender_at names) (number_at (2 ^ 64))) (λ p. Listed p.0 p.1) (place_law names le) (from, seq) [] h refl
row_again_by names le (Resumed from seq word) h =
    word_then (row_by names) (codes "r") (32 ∷ (resume_text (from, (seq, word)) ++ [])) refl refl
    ∙ part_again resume_text (resume_fits names) (pair_at (sender_at names) (pair_at (number_at (2 ^ 64)) (number_at (2 ^ 64)))) (λ p. Resumed p.0 p.1.0 p.1.1) (resume_law names le) (from, (seq, word)) [] h refl
row_again_by names le (Mark kind) h =
    word_then (row_by names) (codes "m") (32 ∷ (mark_text kind ++ [])) refl refl ∙ part_again mark_text (λ x. true) (field_at mark_of) Mark mark_law kind [] refl refl

-- all of a line
pub whole_is : {A : Type 0} (value x : A) (rest : List ℕ) → whole value rest ≡ Some x → (rest ≡ []) × (value ≡ x)
whole_is value x [] h = (refl, cc)
whole_is value x (byte ∷ rest) h = absurd cc

-- the text of a value in its range, which is a line
pub record IsLine {A : Type 0} (text : A → List ℕ) (fits : A → Bool) (x : A) (line : List ℕ) : Type 0 where
  pub parts : line ≡ text x
  pub within : fits x ≡ true
  pub clean : list_all is_line_byte (text x) ≡ true

pub row_found : (names : ℕ) → names ≤ 2 ^ 64 → (line : List ℕ) (row : Row) → row_of names line ≡ Some row → IsLine row_text (is_row names) row line
unfolding row_of
row_found names le line row h =
    option_and_then_some _ (by_word (row_by names) line) row h (λ x first last.
    let w = whole_is x.0 row x.1 last in
    let front = (row_found_by names le).found (take_while is_word_byte line) (behind is_word_byte line) x.0 x.1 first in
    let parts : line ≡ row_text x.0 = front_parts is_word_byte line ∙ front.parts ∙ ap (λ (xs : List ℕ). row_text x.0 ++ xs) w.0 ∙ append-nil (row_text x.0) in
    let made : IsLine row_text (is_row names) x.0 line = record { parts = parts; within = front.within; clean = front.line } in
    subst (λ (r : Row). IsLine row_text (is_row names) r line) w.1 made)

pub row_again : (names : ℕ) → names ≤ 2 ^ 64 → (row : Row) → is_row names row ≡ true → row_of names (row_text row) ≡ Some row
unfolding row_of
row_again names le row h =
    ap (λ (xs : List ℕ). all_of (by_word (row_by names) xs)) (sym (append-nil (row_text row))) ∙ ap all_of (row_again_by names le row h)
