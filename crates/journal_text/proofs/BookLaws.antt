-- Journals, line by line.
use Rattle.std.proofs.Common.{◌≡◌, ℕ, zero, suc, ◌+◌, ◌^◌, ◌≤◌, Bool, true, false, cond, List, [], ◌∷◌, ◌++◌, length, map, Option, Some, None, Result, Ok, Err, refl, sym, ap, subst, ◌∙◌, append_assoc, arith, inl, inr}
use Rattle.std.specs.Prelude.{◌==◌, not, nat_le, codes}
use Rattle.std.specs.List.{list_all, flat_map, take_while, slice_split, join_with_byte}
use Rattle.std.specs.Str.{bytes_eq}
use Rattle.std.proofs.lemmas.Bool.{cases_Bool, and_parts, not-true, leb-true, le-leb}
use Rattle.std.proofs.lemmas.Option.{option_and_then_some, cond_some}
use Rattle.std.proofs.lemmas.Fmt.{decimal_digit}
use Rattle.std.proofs.lemmas.List.{append-nil}
use Rattle.std.proofs.lemmas.List.Folds.{list_all-append}
use Rattle.std.proofs.lemmas.List.Splits.{join_with_byte-slice_split}
use Rattle.port_model.specs.declared.row.Row.{Row}
use Rattle.journal_text.specs.declared.book.PortReport.{PortReport}
use Rattle.journal_text.specs.declared.port_line.PortLine.{PortLine}
use Rattle.journal_text.specs.Words.{is_line_byte, is_word_byte, spaced, is_name}
use Rattle.journal_text.specs.Rows.{row_text, is_row}
use Rattle.journal_text.specs.Ports.{port_line, port_lines, line_of, with_rows, is_port, is_report}
use Rattle.journal_text.specs.Books.{BookView, is_book, ended, head_line, names_line, journal_lines, journal_text}
use Rattle.journal_text.specs.Reading.{behind, spaced_at, name_at}
use Rattle.journal_text.specs.ReadingRows.{row_of, row_by}
use Rattle.journal_text.specs.ReadingPorts.{port_line_of}
use Rattle.journal_text.specs.ReadingBooks.{Lines, lines_of, ◌>>=◌, or_fault, line_at, row_then, rows_at, port_at, is_over, ports_at, names_at, names_of, head_of, book_at}
use Rattle.journal_text.proofs.ReadingLaws.{both, ends, front_parts, line_append, word_front, word_behind, spaced_found}
use Rattle.journal_text.proofs.SenderLaws.{word_is}
use Rattle.journal_text.proofs.TaskLaws.{name_law}
use Rattle.journal_text.proofs.RowLaws.{row_found, row_again}
use Rattle.journal_text.proofs.PortLaws.{port_found, port_again}

-- ---- lines

abbrev pub are_lines : Lines → Bool
are_lines lines = list_all (list_all is_line_byte) lines

lines_append : (front rest : Lines) → are_lines front ≡ true → are_lines rest ≡ true → are_lines (front ++ rest) ≡ true
lines_append front rest p q = list_all-append (list_all is_line_byte) front rest ∙ both (are_lines front) (are_lines rest) p q

-- a line and what stands behind it
pub split_line : (line rest : List ℕ) → list_all is_line_byte line ≡ true → lines_of (line ++ 10 ∷ rest) ≡ line ∷ lines_of rest
split_line [] rest all = refl
split_line (byte ∷ line) rest all =
    let h = and_parts (is_line_byte byte) (list_all is_line_byte line) all in
    rw (not-true (byte == 10) h.0, split_line line rest h.1) refl

ended_append : (line rest : List ℕ) → ended line ++ rest ≡ line ++ 10 ∷ rest
ended_append line rest = append_assoc line (10 ∷ []) rest

pub split_lines : (lines : Lines) (rest : List ℕ) → are_lines lines ≡ true → lines_of (flat_map ended lines ++ rest) ≡ lines ++ lines_of rest
split_lines [] rest all = refl
split_lines (line ∷ lines) rest all =
    let h = and_parts (list_all is_line_byte line) (are_lines lines) all in
    ap lines_of (append_assoc (ended line) (flat_map ended lines) rest ∙ ended_append line (flat_map ended lines ++ rest)) ∙ split_line line (flat_map ended lines ++ rest) h.0
    ∙ ap (λ (ls : Lines). line ∷ ls) (split_lines lines rest h.1)

-- the text of some lines
pub join_lines : (lines : Lines) (rest : List ℕ) → join_with_byte 10 (lines ++ rest ∷ []) ≡ flat_map ended lines ++ rest
join_lines [] rest = refl
join_lines (line ∷ []) rest = sym (ap (λ (xs : List ℕ). xs ++ rest) (append-nil (ended line)) ∙ ended_append line rest)
join_lines (line ∷ next ∷ lines) rest =
    ap (λ (xs : List ℕ). line ++ 10 ∷ xs) (join_lines (next ∷ lines) rest)
    ∙ sym (append_assoc (ended line) (flat_map ended (next ∷ lines)) rest ∙ ended_append line (flat_map ended (next ∷ lines) ++ rest))

pub text_of_lines : (bytes : List ℕ) (lines : Lines) (rest : List ℕ) → lines_of bytes ≡ lines ++ rest ∷ [] → bytes ≡ flat_map ended lines ++ rest
text_of_lines bytes lines rest e = sym (join_with_byte-slice_split 10 bytes) ∙ ap (join_with_byte 10) e ∙ join_lines lines rest

-- ---- steps

pub bind_ok : {A B : Type 0} (r : Result A Lines) (f : A → Result B Lines) (y : B) → (r >>= f) ≡ Ok y → (x : A) × (r ≡ Ok x) × (f x ≡ Ok y)
bind_ok (Ok x) f y h = (x, refl, h)
bind_ok (Err e) f y h = absurd cc

pub ok_is : {A : Type 0} (x y : A) → ◌≡◌ {A = Result A Lines} (Ok x) (Ok y) → x ≡ y
ok_is x y e = cc

or_fault_ok : {A : Type 0} (lines : Lines) (o : Option A) (x : A) → or_fault lines o ≡ Ok x → o ≡ Some x
or_fault_ok lines (Some y) x h = let e : y ≡ x = cc in ap Some e
or_fault_ok lines None x h = absurd cc

-- there is a line, or what stands behind the last one
abbrev pub is_some : Lines → Bool
is_some [] = false
is_some (line ∷ lines) = true

pub record FirstLine {A : Type 0} (of : List ℕ → Option A) (x : A) (lines rest : Lines) : Type 0 where
  pub line : List ℕ
  pub parts : lines ≡ line ∷ rest
  pub read : of line ≡ Some x
  pub some : is_some rest ≡ true

pub line_found : {A : Type 0} (of : List ℕ → Option A) (lines : Lines) (x : A) (rest : Lines) → line_at of lines ≡ Ok (x, rest) → FirstLine of x lines rest
unfolding line_at
line_found of [] x rest h = absurd cc
line_found of (line ∷ []) x rest h = absurd cc
line_found of (line ∷ next ∷ lines) x rest h =
    option_and_then_some _ (of line) (x, rest) (or_fault_ok (line ∷ next ∷ lines) _ (x, rest) h) (λ y read made.
    let same : (y, next ∷ lines) ≡ (x, rest) = cc in
    let whole : FirstLine of y (line ∷ next ∷ lines) (next ∷ lines) = record { line = line; parts = refl; read = read; some = refl } in
    subst (λ (p : _ × Lines). FirstLine of p.0 (line ∷ next ∷ lines) p.1) same whole)

pub line_again : {A : Type 0} (of : List ℕ → Option A) (line : List ℕ) (x : A) (rest : Lines) → is_some rest ≡ true → of line ≡ Some x → line_at of (line ∷ rest) ≡ Ok (x, rest)
unfolding line_at
line_again of line x [] some read = absurd cc
line_again of line x (next ∷ lines) some read = rw read refl

-- ---- rows

pub record RowLines (names : ℕ) (rows : List Row) (lines rest : Lines) : Type 0 where
  pub parts : lines ≡ map row_text rows ++ codes "end" ∷ rest
  pub within : list_all (is_row names) rows ≡ true
  pub clean : are_lines (map row_text rows) ≡ true
  pub some : is_some rest ≡ true

row_step : (names : ℕ) → names ≤ 2 ^ 64 → (line : List ℕ) (lines : Lines) (rows : List Row) (rest : Lines) (o : Option Row) → row_of names line ≡ o → row_then (line ∷ lines) o (rows_at names lines) ≡ Ok (rows, rest)
    → ((tail : List Row × Lines) → rows_at names lines ≡ Ok tail → RowLines names tail.0 lines tail.1) → RowLines names rows (line ∷ lines) rest
row_step names le line lines rows rest None is h others = absurd cc
row_step names le line lines rows rest (Some row) is h others =
    let b = bind_ok (rows_at names lines) (λ x. Ok (row ∷ x.0, x.1)) (rows, rest) h in
    let same : (row ∷ b.0.0, b.0.1) ≡ (rows, rest) = ok_is (row ∷ b.0.0, b.0.1) (rows, rest) b.2 in
    let one = row_found names le line row is in
    let m = others b.0 b.1 in
    let made : RowLines names (row ∷ b.0.0) (line ∷ lines) b.0.1 = record {
      parts = ap (λ (l : List ℕ). l ∷ lines) one.parts ∙ ap (λ (ls : Lines). row_text row ∷ ls) m.parts;
      within = both (is_row names row) _ one.within m.within;
      clean = both (list_all is_line_byte (row_text row)) _ one.clean m.clean;
      some = m.some;
    } in
    subst (λ (p : List Row × Lines). RowLines names p.0 (line ∷ lines) p.1) same made

rows_found : (names : ℕ) → names ≤ 2 ^ 64 → (lines : Lines) (rows : List Row) (rest : Lines) → rows_at names lines ≡ Ok (rows, rest) → RowLines names rows lines rest
unfolding rows_at
rows_found names le [] rows rest h = absurd cc
rows_found names le (line ∷ []) rows rest h = absurd cc
rows_found names le (line ∷ next ∷ lines) rows rest h =
    elim (cases_Bool (bytes_eq line (codes "end"))) [
      | inl e ↦
          let same : ([], next ∷ lines) ≡ (rows, rest) = ok_is ([], next ∷ lines) (rows, rest) (rw e at h) in
          let made : RowLines names [] (line ∷ next ∷ lines) (next ∷ lines) = record { parts = ap (λ (l : List ℕ). l ∷ next ∷ lines) (word_is line (codes "end") e); within = refl; clean = refl; some = refl } in
          subst (λ (p : List Row × Lines). RowLines names p.0 (line ∷ next ∷ lines) p.1) same made
      | inr e ↦ row_step names le line (next ∷ lines) rows rest (row_of names line) refl (rw e at h) (λ tail read. rows_found names le (next ∷ lines) tail.0 tail.1 read)
    ]

no_row : (names : ℕ) → row_of names (codes "end") ≡ None
unfolding row_of row_by
no_row names = refl

pub not_end : (names : ℕ) (line : List ℕ) (row : Row) → row_of names line ≡ Some row → bytes_eq line (codes "end") ≡ false
not_end names line row some =
    elim (cases_Bool (bytes_eq line (codes "end"))) [
      | inl e ↦ absurd (let is = word_is line (codes "end") e in let h = rw is at some in let none = no_row names in cc)
      | inr e ↦ e
    ]

pub rows_step : (names : ℕ) (line : List ℕ) (tail : Lines) (row : Row) → is_some tail ≡ true → bytes_eq line (codes "end") ≡ false → row_of names line ≡ Some row → rows_at names (line ∷ tail) ≡ (rows_at names tail >>= λ x. Ok (row ∷ x.0, x.1))
unfolding rows_at
rows_step names line [] row some e read = absurd cc
rows_step names line (next ∷ lines) row some e read = rw (e, read) refl

rows_some : (rows : List Row) (rest : Lines) → is_some (map row_text rows ++ codes "end" ∷ rest) ≡ true
rows_some [] rest = refl
rows_some (row ∷ rows) rest = refl

rows_again : (names : ℕ) → names ≤ 2 ^ 64 → (rows : List Row) (rest : Lines) → list_all (is_row names) rows ≡ true → is_some rest ≡ true → rows_at names (map row_text rows ++ codes "end" ∷ rest) ≡ Ok (rows, rest)
unfolding rows_at
rows_again names le [] [] all some = absurd cc
rows_again names le [] (next ∷ lines) all some = refl
rows_again names le (row ∷ rows) rest all some =
    let h = and_parts (is_row names row) (list_all (is_row names) rows) all in
    let read = row_again names le row h.0 in
    rows_step names (row_text row) (map row_text rows ++ codes "end" ∷ rest) row (rows_some rows rest) (not_end names (row_text row) row read) read
    ∙ ap (λ (r : Result (List Row × Lines) Lines). r >>= λ x. Ok (row ∷ x.0, x.1)) (rows_again names le rows rest h.1 some)

-- ---- ports

pub record PortLines (names : ℕ) (port : PortReport) (lines rest : Lines) : Type 0 where
  pub parts : lines ≡ port_lines port ++ rest
  pub within : is_report names port ≡ true
  pub clean : are_lines (port_lines port) ≡ true
  pub some : is_some rest ≡ true

end_append : (lines rest : Lines) → (lines ++ codes "end" ∷ []) ++ rest ≡ lines ++ codes "end" ∷ rest
end_append lines rest = append_assoc lines (codes "end" ∷ []) rest

pub port_at_found : (names : ℕ) → names ≤ 2 ^ 64 → (lines : Lines) (port : PortReport) (rest : Lines) → port_at names lines ≡ Ok (port, rest) → PortLines names port lines rest
unfolding port_at
port_at_found names le lines port rest h =
    let a = bind_ok (line_at (port_line_of names) lines) (λ line. rows_at names line.1 >>= λ rows. Ok (with_rows line.0 rows.0, rows.1)) (port, rest) h in
    let b = bind_ok (rows_at names a.0.1) (λ rows. Ok (with_rows a.0.0 rows.0, rows.1)) (port, rest) a.2 in
    let same : (with_rows a.0.0 b.0.0, b.0.1) ≡ (port, rest) = ok_is (with_rows a.0.0 b.0.0, b.0.1) (port, rest) b.2 in
    let first = line_found (port_line_of names) lines a.0.0 a.0.1 a.1 in
    let one = port_found names le first.line a.0.0 first.read in
    let m = rows_found names le a.0.1 b.0.0 b.0.1 b.1 in
    let made : PortLines names (with_rows a.0.0 b.0.0) lines b.0.1 = record {
      parts = first.parts ∙ ap (λ (l : List ℕ). l ∷ a.0.1) one.parts ∙ ap (λ (ls : Lines). port_line a.0.0 ∷ ls) (m.parts ∙ sym (end_append (map row_text b.0.0) b.0.1));
      within = both (is_port names a.0.0) _ one.within m.within;
      clean = both (list_all is_line_byte (port_line a.0.0)) _ one.clean (lines_append (map row_text b.0.0) (codes "end" ∷ []) m.clean refl);
      some = m.some;
    } in
    subst (λ (p : PortReport × Lines). PortLines names p.0 lines p.1) same made

pub port_at_again : (names : ℕ) → names ≤ 2 ^ 64 → (port : PortReport) (rest : Lines) → is_report names port ≡ true → is_some rest ≡ true → port_at names (port_lines port ++ rest) ≡ Ok (port, rest)
unfolding port_at
port_at_again names le port rest h some =
    let p = and_parts (is_port names (line_of port)) (list_all (is_row names) port.journal.rows) h in
    let tail : Lines = map row_text port.journal.rows ++ codes "end" ∷ rest in
    ap (λ (ls : Lines). port_at names (port_line (line_of port) ∷ ls)) (end_append (map row_text port.journal.rows) rest)
    ∙ ap (λ (r : Result (PortLine × Lines) Lines). r >>= λ line. (rows_at names line.1 >>= λ rows. Ok (with_rows line.0 rows.0, rows.1)))
    (line_again (port_line_of names) (port_line (line_of port)) (line_of port) tail (rows_some port.journal.rows rest) (port_again names le (line_of port) p.0))
    ∙ ap (λ (r : Result (List Row × Lines) Lines). r >>= λ rows. Ok (with_rows (line_of port) rows.0, rows.1)) (rows_again names le port.journal.rows rest p.1 some)

pub over_is : (lines : Lines) → is_over lines ≡ true → lines ≡ [] ∷ []
over_is [] h = absurd cc
over_is ([] ∷ []) h = refl
over_is ([] ∷ next ∷ lines) h = absurd cc
over_is ((byte ∷ line) ∷ lines) h = absurd cc

pub record PortsLines (n names : ℕ) (ports : List PortReport) (lines : Lines) : Type 0 where
  pub parts : lines ≡ flat_map port_lines ports ++ [] ∷ []
  pub within : list_all (is_report names) ports ≡ true
  pub clean : are_lines (flat_map port_lines ports) ≡ true
  pub few : length ports ≤ n

no_ports : (n names : ℕ) (ports : List PortReport) (lines : Lines) → is_over lines ≡ true → [] ≡ ports → PortsLines n names ports lines
no_ports n names ports lines over none = subst (λ (ps : List PortReport). PortsLines n names ps lines) none (record { parts = over_is lines over; within = refl; clean = refl; few = omega arith })

ports_found : (n names : ℕ) → names ≤ 2 ^ 64 → (lines : Lines) (ports : List PortReport) → ports_at n names lines ≡ Ok ports → PortsLines n names ports lines
unfolding ports_at
ports_found zero names le lines ports h =
    elim (cases_Bool (is_over lines)) [
      | inl e ↦ no_ports zero names ports lines e (ok_is [] ports (rw e at h))
      | inr e ↦ absurd (let h1 = rw e at h in cc)
    ]
ports_found (suc n) names le lines ports h =
    elim (cases_Bool (is_over lines)) [
      | inl e ↦ no_ports (suc n) names ports lines e (ok_is [] ports (rw e at h))
      | inr e ↦
          let a = bind_ok (port_at names lines) (λ first. ports_at n names first.1 >>= λ others. Ok (first.0 ∷ others)) ports (rw e at h) in
          let b = bind_ok (ports_at n names a.0.1) (λ others. Ok (a.0.0 ∷ others)) ports a.2 in
          let same : a.0.0 ∷ b.0 ≡ ports = ok_is (a.0.0 ∷ b.0) ports b.2 in
          let one = port_at_found names le lines a.0.0 a.0.1 a.1 in
          let m = ports_found n names le a.0.1 b.0 b.1 in
          let made : PortsLines (suc n) names (a.0.0 ∷ b.0) lines = record {
            parts = one.parts ∙ ap (λ (ls : Lines). port_lines a.0.0 ++ ls) m.parts ∙ sym (append_assoc (port_lines a.0.0) (flat_map port_lines b.0) ([] ∷ []));
            within = both (is_report names a.0.0) _ one.within m.within;
            clean = lines_append (port_lines a.0.0) (flat_map port_lines b.0) one.clean m.clean;
            few = omega (arith, m.few);
          } in
          subst (λ (ps : List PortReport). PortsLines (suc n) names ps lines) same made
    ]

tail_some : (ports : List PortReport) → is_some (flat_map port_lines ports ++ [] ∷ []) ≡ true
tail_some [] = refl
tail_some (port ∷ ports) = refl

-- a port's first line isn't empty
not_over : (port : PortReport) (rest : Lines) → is_over (port_lines port ++ rest) ≡ false
not_over port rest = refl

ports_again : (n names : ℕ) → names ≤ 2 ^ 64 → (ports : List PortReport) → list_all (is_report names) ports ≡ true → length ports ≤ n → ports_at n names (flat_map port_lines ports ++ [] ∷ []) ≡ Ok ports
unfolding ports_at
ports_again zero names le [] all few = refl
ports_again (suc n) names le [] all few = refl
ports_again zero names le (port ∷ ports) all few = absurd (omega arith)
ports_again (suc n) names le (port ∷ ports) all few =
    let h = and_parts (is_report names port) (list_all (is_report names) ports) all in
    let tail : Lines = flat_map port_lines ports ++ [] ∷ [] in
    ap (ports_at (suc n) names) (append_assoc (port_lines port) (flat_map port_lines ports) ([] ∷ []))
    ∙ ap (λ (r : Result (PortReport × Lines) Lines). r >>= λ first. (ports_at n names first.1 >>= λ others. Ok (first.0 ∷ others))) (port_at_again names le port tail h.0 (tail_some ports))
    ∙ ap (λ (r : Result (List PortReport) Lines). r >>= λ others. Ok (port ∷ others)) (ports_again n names le ports h.1 (omega arith))

-- ---- names

abbrev spaced_name : List ℕ → List ℕ
spaced_name name = 32 ∷ name

names_are : (word : List ℕ) (names : Lines) → spaced (word ∷ names) ≡ word ++ flat_map spaced_name names
names_are word [] = sym (append-nil word)
names_are word (name ∷ names) = ap (λ (xs : List ℕ). word ++ 32 ∷ xs) (names_are name names)

record Names (n : ℕ) (names : Lines) (bytes : List ℕ) : Type 0 where
  parts : bytes ≡ flat_map spaced_name names
  within : list_all is_name names ≡ true
  clean : list_all is_line_byte (flat_map spaced_name names) ≡ true
  few : length names ≤ n

some_is : {A : Type 0} (x y : A) → ◌≡◌ {A = Option A} (Some x) (Some y) → x ≡ y
some_is x y e = cc

names_found : (n : ℕ) (bytes : List ℕ) (names : Lines) → names_at n bytes ≡ Some names → Names n names bytes
unfolding names_at
names_found zero [] names h = subst (λ (ns : Lines). Names zero ns []) (some_is [] names h) (record { parts = refl; within = refl; clean = refl; few = omega arith })
names_found zero (byte ∷ bytes) names h = absurd cc
names_found (suc n) [] names h = subst (λ (ns : Lines). Names (suc n) ns []) (some_is [] names h) (record { parts = refl; within = refl; clean = refl; few = omega arith })
names_found (suc n) (byte ∷ bytes) names h =
    option_and_then_some _ (spaced_at name_at (byte ∷ bytes)) names h (λ first read go.
    option_and_then_some _ (names_at n first.1) names go (λ others tail made.
    let same = some_is (first.0 ∷ others) names made in
    let one = spaced_found (λ name. name) is_name name_at name_law (byte ∷ bytes) first.0 first.1 read in
    let m = names_found n first.1 others tail in
    let whole : Names (suc n) (first.0 ∷ others) (byte ∷ bytes) = record {
      parts = one.0 ∙ ap (λ (xs : List ℕ). 32 ∷ (first.0 ++ xs)) m.parts;
      within = both (is_name first.0) _ one.1 m.within;
      clean = line_append first.0 (flat_map spaced_name others) one.2 m.clean;
      few = omega (arith, m.few);
    } in
    subst (λ (ns : Lines). Names (suc n) ns (byte ∷ bytes)) same whole))

names_end : (names : Lines) → ends (flat_map spaced_name names) ≡ true
names_end [] = refl
names_end (name ∷ names) = refl

names_again : (n : ℕ) (names : Lines) → list_all is_name names ≡ true → length names ≤ n → names_at n (flat_map spaced_name names) ≡ Some names
unfolding names_at
names_again zero [] all few = refl
names_again (suc n) [] all few = refl
names_again zero (name ∷ names) all few = absurd (omega arith)
names_again (suc n) (name ∷ names) all few =
    let h = and_parts (is_name name) (list_all is_name names) all in
    let one : spaced_at name_at (32 ∷ (name ++ flat_map spaced_name names)) ≡ Some (name, flat_map spaced_name names) = name_law.again name (flat_map spaced_name names) h.0 (names_end names) in
    rw (one, names_again n names h.1 (omega arith)) refl

pub record NamesLine (names : Lines) (line : List ℕ) : Type 0 where
  pub parts : line ≡ names_line names
  pub within : list_all is_name names ≡ true
  pub clean : list_all is_line_byte (names_line names) ≡ true
  pub few : length names ≤ 32

pub names_line_found : (line : List ℕ) (names : Lines) → names_of line ≡ Some names → NamesLine names line
unfolding names_of
names_line_found line names h =
    let word = take_while is_word_byte line in
    let rest = behind is_word_byte line in
    elim (cases_Bool (bytes_eq word (codes "processes"))) [
      | inl e ↦
          let m = names_found 32 rest names (rw e at h) in
          let is = names_are (codes "processes") names in
          record {
            parts = front_parts is_word_byte line ∙ ap (λ (w : List ℕ). w ++ rest) (word_is word (codes "processes") e) ∙ ap (λ (xs : List ℕ). codes "processes" ++ xs) m.parts ∙ sym is;
            within = m.within;
            clean = ap (list_all is_line_byte) is ∙ line_append (codes "processes") (flat_map spaced_name names) refl m.clean;
            few = m.few;
          }
      | inr e ↦ absurd (let h1 = rw e at h in cc)
    ]

pub names_line_again : (names : Lines) → list_all is_name names ≡ true → length names ≤ 32 → names_of (names_line names) ≡ Some names
unfolding names_of
names_line_again names all few =
    let tail : List ℕ = flat_map spaced_name names in
    let word : take_while is_word_byte (codes "processes" ++ tail) ≡ codes "processes" = word_front (codes "processes") tail refl (names_end names) in
    let rest : behind is_word_byte (codes "processes" ++ tail) ≡ tail = word_behind (codes "processes") tail refl (names_end names) in
    ap names_of (names_are (codes "processes") names)
    ∙ ap (λ (w : List ℕ). cond (bytes_eq w (codes "processes")) (names_at 32 (behind is_word_byte (codes "processes" ++ tail))) None) word
    ∙ ap (names_at 32) rest ∙ names_again 32 names all few

-- ---- books

head_is : head_line 1 ≡ codes "journal 1"
head_is = rw (decimal_digit 1 (omega arith)) refl

pub head_found : (line : List ℕ) (x : Bool) → head_of line ≡ Some x → line ≡ head_line 1
head_found line x h = let p = cond_some (bytes_eq line (codes "journal 1")) true x h in word_is line (codes "journal 1") p.0 ∙ sym head_is

pub head_again : head_of (head_line 1) ≡ Some true
head_again = ap head_of head_is

pub record BookLines (book : BookView) (lines : Lines) : Type 0 where
  pub parts : lines ≡ journal_lines 1 book ++ [] ∷ []
  pub within : is_book book ≡ true
  pub clean : are_lines (journal_lines 1 book) ≡ true

pub few_64 : (n : ℕ) → n ≤ 32 → n ≤ 2 ^ 64
few_64 n le = omega arith

pub book_found : (lines : Lines) (book : BookView) → book_at lines ≡ Ok book → BookLines book lines
unfolding book_at
book_found lines book h =
    let a = bind_ok (line_at head_of lines) (λ head. line_at names_of head.1 >>= λ names. (ports_at 32 (length names.0) names.1 >>= λ ports. Ok (record { names = names.0; ports = ports }))) book h in
    let b = bind_ok (line_at names_of a.0.1) (λ names. ports_at 32 (length names.0) names.1 >>= λ ports. Ok (record { names = names.0; ports = ports })) book a.2 in
    let c = bind_ok (ports_at 32 (length b.0.0) b.0.1) (λ ports. Ok (record { names = b.0.0; ports = ports })) book b.2 in
    let view : BookView = record { names = b.0.0; ports = c.0 } in
    let same : view ≡ book = ok_is view book c.2 in
    let one = line_found head_of lines a.0.0 a.0.1 a.1 in
    let two = line_found names_of a.0.1 b.0.0 b.0.1 b.1 in
    let n = names_line_found two.line b.0.0 two.read in
    let m = ports_found 32 (length b.0.0) (few_64 (length b.0.0) n.few) b.0.1 c.0 c.1 in
    let head_clean : list_all is_line_byte (head_line 1) ≡ true = ap (list_all is_line_byte) head_is in
    let made : BookLines view lines = record {
      parts = one.parts ∙ ap (λ (l : List ℕ). l ∷ a.0.1) (head_found one.line a.0.0 one.read) ∙ ap (λ (ls : Lines). head_line 1 ∷ ls) (two.parts ∙ ap (λ (l : List ℕ). l ∷ b.0.1) n.parts ∙ ap (λ (ls : Lines). names_line b.0.0 ∷ ls) m.parts);
      within = both (nat_le (length b.0.0) 32) _ (le-leb (length b.0.0) 32 n.few) (both (list_all is_name b.0.0) _ n.within (both (nat_le (length c.0) 32) _ (le-leb (length c.0) 32 m.few) m.within));
      clean = both (list_all is_line_byte (head_line 1)) _ head_clean (both (list_all is_line_byte (names_line b.0.0)) _ n.clean m.clean);
    } in
    subst (λ (v : BookView). BookLines v lines) same made

pub book_again : (book : BookView) → is_book book ≡ true → book_at (journal_lines 1 book ++ [] ∷ []) ≡ Ok book
unfolding book_at
book_again book h =
    let a = and_parts (nat_le (length book.names) 32) _ h in
    let b = and_parts (list_all is_name book.names) _ a.1 in
    let c = and_parts (nat_le (length book.ports) 32) _ b.1 in
    let few : length book.names ≤ 32 = leb-true (length book.names) 32 a.0 in
    let some_ports : length book.ports ≤ 32 = leb-true (length book.ports) 32 c.0 in
    let tail : Lines = flat_map port_lines book.ports ++ [] ∷ [] in
    ap (λ (r : Result (Bool × Lines) Lines). r >>= λ head. (line_at names_of head.1 >>= λ names. (ports_at 32 (length names.0) names.1 >>= λ ports. Ok (record { names = names.0; ports = ports }))))
    (line_again head_of (head_line 1) true (names_line book.names ∷ tail) refl head_again)
    ∙ ap (λ (r : Result (Lines × Lines) Lines). r >>= λ names. (ports_at 32 (length names.0) names.1 >>= λ ports. Ok (record { names = names.0; ports = ports })))
    (line_again names_of (names_line book.names) book.names tail (tail_some book.ports) (names_line_again book.names b.0 few))
    ∙ ap (λ (r : Result (List PortReport) Lines). r >>= λ ports. Ok (record { names = book.names; ports = ports })) (ports_again 32 (length book.names) (few_64 (length book.names) few) book.ports c.1 some_ports)

-- ---- texts

pub book_clean : (book : BookView) → is_book book ≡ true → are_lines (journal_lines 1 book) ≡ true
book_clean book h = (book_found (journal_lines 1 book ++ [] ∷ []) book (book_again book h)).clean

pub lines_of_text : (book : BookView) → is_book book ≡ true → lines_of (journal_text 1 book) ≡ journal_lines 1 book ++ [] ∷ []
unfolding journal_text
lines_of_text book h = ap lines_of (sym (append-nil (flat_map ended (journal_lines 1 book)))) ∙ split_lines (journal_lines 1 book) [] (book_clean book h)

-- the text of a book is read as it
pub text_again : (book : BookView) → is_book book ≡ true → book_at (lines_of (journal_text 1 book)) ≡ Ok book
text_again book h = ap book_at (lines_of_text book h) ∙ book_again book h

-- what is read is the text of a book
pub text_found : (bytes : List ℕ) (book : BookView) → book_at (lines_of bytes) ≡ Ok book → (bytes ≡ journal_text 1 book) × (is_book book ≡ true)
unfolding journal_text
text_found bytes book h =
    let b = book_found (lines_of bytes) book h in
    (text_of_lines bytes (journal_lines 1 book) [] b.parts ∙ append-nil (flat_map ended (journal_lines 1 book)), b.within)

-- two books with one text are one book
pub same_book : (a b : BookView) → is_book a ≡ true → is_book b ≡ true → journal_text 1 a ≡ journal_text 1 b → a ≡ b
same_book a b p q e = ok_is a b (sym (text_again a p) ∙ ap (λ (text : List ℕ). book_at (lines_of text)) e ∙ text_again b q)
