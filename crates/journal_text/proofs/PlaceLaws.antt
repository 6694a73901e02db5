-- The place of the first line that isn't in the grammar.
use Rattle.std.proofs.Common.{◌≡◌, ℕ, ◌+◌, ◌-◌, ◌≤◌, true, List, [], ◌∷◌, ◌++◌, length, take, drop, Err, refl, sym, ap, ◌∙◌, append_assoc, arith, inl, inr}
use Rattle.std.specs.Prelude.{◌==◌, ◌&&◌}
use Rattle.std.specs.List.{list_all, flat_map, join_with_byte, onto_first}
use Rattle.std.proofs.lemmas.Bool.{cases_Bool, and_parts}
use Rattle.std.proofs.lemmas.Grind.{flat_map-append}
use Rattle.std.proofs.lemmas.List.{append-nil, take_at, drop_at, length-append, take-append-le, take-append-drop}
use Rattle.std.proofs.lemmas.List.Folds.{list_all-append}
use Rattle.std.proofs.lemmas.List.Splits.{join_with_byte-slice_split}
use Rattle.journal_text.specs.Words.{is_line_byte}
use Rattle.journal_text.specs.Books.{ended, journal_lines, journal_text, BeginsJournal, IsFirstBadLine}
use Rattle.journal_text.specs.ReadingBooks.{Lines, lines_of, size_of, book_at}
use Rattle.journal_text.proofs.BookLaws.{are_lines, is_some, split_lines, book_clean, text_again}
use Rattle.journal_text.proofs.StopLaws.{book_stop, BookStop}

onto_some : (byte : ℕ) (lines : Lines) → is_some (onto_first byte lines) ≡ true
onto_some byte [] = refl
onto_some byte (line ∷ lines) = refl

-- a text has a line at least
lines_some : (bytes : List ℕ) → is_some (lines_of bytes) ≡ true
lines_some [] = refl
lines_some (byte ∷ bytes) =
    elim (cases_Bool (byte == 10)) [
      | inl e ↦ rw e refl
      | inr e ↦ rw e (onto_some byte (lines_of bytes))
    ]

-- where a byte 10 stands, the first line is the same whatever stands behind it
record Cut (tail line : List ℕ) : Type 0 where
  others : List ℕ → Lines
  some : (more : List ℕ) → is_some (others more) ≡ true
  parts : (more : List ℕ) → lines_of (tail ++ 10 ∷ more) ≡ line ∷ others more

cut : (tail : List ℕ) → (line : List ℕ) × Cut tail line
cut [] = ([], record { others = lines_of; some = lines_some; parts = λ more. refl })
cut (byte ∷ tail) =
    elim (cases_Bool (byte == 10)) [
      | inl e ↦ ([], record { others = λ more. lines_of (tail ++ 10 ∷ more); some = λ more. lines_some (tail ++ 10 ∷ more); parts = λ more. rw e refl })
      | inr e ↦
          let c = cut tail in
          (byte ∷ c.0, record { others = c.1.others; some = c.1.some; parts = λ more. rw (e, c.1.parts more) refl })
    ]

join_front : (done bad : Lines) → is_some bad ≡ true → join_with_byte 10 (done ++ bad) ≡ flat_map ended done ++ join_with_byte 10 bad
join_front [] bad some = refl
join_front (line ∷ []) [] some = absurd cc
join_front (line ∷ []) (first ∷ bad) some = sym (ap (λ (xs : List ℕ). xs ++ join_with_byte 10 (first ∷ bad)) (append-nil (ended line)) ∙ append_assoc line (10 ∷ []) (join_with_byte 10 (first ∷ bad)))
join_front (line ∷ next ∷ done) bad some =
    ap (λ (xs : List ℕ). line ++ 10 ∷ xs) (join_front (next ∷ done) bad some)
    ∙ sym (append_assoc (ended line) (flat_map ended (next ∷ done)) (join_with_byte 10 bad) ∙ append_assoc line (10 ∷ []) (flat_map ended (next ∷ done) ++ join_with_byte 10 bad))

-- what stands behind one front
same_rest : {A : Type 0} (front a b : List A) → front ++ a ≡ front ++ b → a ≡ b
same_rest front a b e = sym (drop_at front a (length front) refl) ∙ ap (drop (length front)) e ∙ drop_at front b (length front) refl

-- a front that is at least as long goes on
longer : (front rest a b : List ℕ) → front ++ a ≡ rest ++ b → length front ≤ length rest → rest ≡ front ++ drop (length front) rest
longer front rest a b e le =
    let one : take (length front) rest ≡ front = sym (take-append-le (length front) rest b le) ∙ ap (take (length front)) (sym e) ∙ take_at front a (length front) refl in
    sym (take-append-drop (length front) rest) ∙ ap (λ (xs : List ℕ). xs ++ drop (length front) rest) one

record Placed (bytes : List ℕ) (bad : Lines) (done : Lines) (front last : List ℕ) : Type 0 where
  text : bytes ≡ front ++ last
  lines : bad ≡ lines_of last
  split : (more : List ℕ) → lines_of (front ++ more) ≡ done ++ lines_of more

placed : (bytes : List ℕ) (bad : Lines) → (m : BookStop (lines_of bytes) bad) → Placed bytes bad m.done (flat_map ended m.done) (join_with_byte 10 bad)
placed bytes bad m =
    let all : (are_lines m.done && are_lines m.more) ≡ true = sym (list_all-append (list_all is_line_byte) m.done m.more) ∙ ap are_lines (sym m.whole) ∙ book_clean m.book m.within in
    let clean = (and_parts (are_lines m.done) (are_lines m.more) all).0 in
    let text : bytes ≡ flat_map ended m.done ++ join_with_byte 10 bad = sym (join_with_byte-slice_split 10 bytes) ∙ ap (join_with_byte 10) m.parts ∙ join_front m.done bad m.some in
    let split : (more : List ℕ) → lines_of (flat_map ended m.done ++ more) ≡ m.done ++ lines_of more = λ more. split_lines m.done more clean in
    record {
      text = text;
      lines = same_rest m.done bad (lines_of (join_with_byte 10 bad)) (sym m.parts ∙ ap lines_of text ∙ split (join_with_byte 10 bad));
      split = split;
    }

-- with one line more it begins no journal
one_more : (bytes : List ℕ) (bad : Lines) → (m : BookStop (lines_of bytes) bad) → (front rest : List ℕ) → bytes ≡ front ++ 10 ∷ rest → length (flat_map ended m.done) ≤ length front → BeginsJournal 1 (ended front) → ⊥
one_more bytes bad m front rest e le begins =
    let p = placed bytes bad m in
    let done : List ℕ = flat_map ended m.done in
    let tail : List ℕ = drop (length (flat_map ended m.done)) front in
    let is : front ≡ flat_map ended m.done ++ drop (length (flat_map ended m.done)) front = longer (flat_map ended m.done) front (join_with_byte 10 bad) (10 ∷ rest) (sym p.text ∙ e) le in
    let last : join_with_byte 10 bad ≡ tail ++ 10 ∷ rest =
    same_rest (flat_map ended m.done) (join_with_byte 10 bad) (tail ++ 10 ∷ rest) (sym p.text ∙ e ∙ ap (λ (xs : List ℕ). xs ++ 10 ∷ rest) is ∙ append_assoc (flat_map ended m.done) tail (10 ∷ rest)) in
    let c = cut tail in
    let first : bad ≡ c.0 ∷ c.1.others rest = p.lines ∙ ap lines_of last ∙ c.1.parts rest in
    let book = begins.0 in
    let more = begins.1 in
    let text : journal_text 1 begins.0 ≡ flat_map ended m.done ++ (tail ++ 10 ∷ begins.1) =
    begins.3 ∙ append_assoc front (10 ∷ []) begins.1 ∙ ap (λ (xs : List ℕ). xs ++ 10 ∷ begins.1) is ∙ append_assoc (flat_map ended m.done) tail (10 ∷ begins.1) in
    let lines : lines_of (journal_text 1 begins.0) ≡ m.done ++ c.0 ∷ c.1.others begins.1 = ap lines_of text ∙ p.split (tail ++ 10 ∷ begins.1) ∙ ap (λ (ls : Lines). m.done ++ ls) (c.1.parts begins.1) in
    m.rejects.none c.0 (c.1.others rest) (c.1.others begins.1) begins.0 first (c.1.some rest) (c.1.some begins.1) (ap book_at (sym lines) ∙ text_again begins.0 begins.2)

at_place : (bytes : List ℕ) (bad : Lines) → (m : BookStop (lines_of bytes) bad) → (at : ℕ) → at ≡ length (flat_map ended m.done) → IsFirstBadLine 1 bytes at
unfolding journal_text
at_place bytes bad m at is =
    let p = placed bytes bad m in
    let front : take at bytes ≡ flat_map ended m.done = ap (take at) p.text ∙ take_at (flat_map ended m.done) (join_with_byte 10 bad) at (sym is) in
    let text : flat_map ended (journal_lines 1 m.book) ≡ take at bytes ++ flat_map ended m.more = ap (flat_map ended) m.whole ∙ flat_map-append ended m.done m.more ∙ ap (λ (xs : List ℕ). xs ++ flat_map ended m.more) (sym front) in
    record {
      lines = m.done;
      whole = front;
      within = omega (arith, ap length p.text, length-append (flat_map ended m.done) (join_with_byte 10 bad));
      begins = (m.book, flat_map ended m.more, m.within, text);
      ends = λ front rest e le begins. one_more bytes bad m front rest e (omega arith) begins;
    }

pub left_within : (bytes : List ℕ) (bad : Lines) → book_at (lines_of bytes) ≡ Err bad → size_of bad ≤ length bytes
left_within bytes bad h =
    let m = book_stop (lines_of bytes) bad (lines_some bytes) h in
    let p = placed bytes bad m in
    omega (arith, ap length p.text, length-append (flat_map ended m.done) (join_with_byte 10 bad))

pub fault_place : (bytes : List ℕ) (bad : Lines) → book_at (lines_of bytes) ≡ Err bad → IsFirstBadLine 1 bytes (length bytes - size_of bad)
fault_place bytes bad h =
    let m = book_stop (lines_of bytes) bad (lines_some bytes) h in
    let p = placed bytes bad m in
    at_place bytes bad m (length bytes - size_of bad) (omega (arith, ap length p.text, length-append (flat_map ended m.done) (join_with_byte 10 bad)))
