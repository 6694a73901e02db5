-- The first line of a text, and reading row by row and port by port, as loops do.
use Rattle.std.proofs.Common.{◌≡◌, ℕ, zero, suc, ◌+◌, ◌-◌, ◌<◌, ◌≤◌, Bool, true, false, cond, List, [], ◌∷◌, ◌++◌, length, take, drop, Option, Some, None, Result, Ok, Err, refl, sym, ap, subst, ◌∙◌, append_assoc, arith, inl, inr}
use Rattle.std.specs.Prelude.{◌==◌, codes}
use Rattle.std.specs.List.{take_while, prefix_len, join_with_byte, onto_first, slice_split}
use Rattle.std.specs.Str.{bytes_eq}
use Rattle.std.proofs.lemmas.Bool.{cases_Bool, ne_eqb}
use Rattle.std.proofs.lemmas.List.{append-nil}
use Rattle.std.proofs.lemmas.List.Splits.{join_with_byte-slice_split}
use Rattle.port_model.specs.declared.row.Row.{Row}
use Rattle.journal_text.specs.declared.book.PortReport.{PortReport}
use Rattle.journal_text.specs.declared.fault.TextFault.{TextFault}
use Rattle.journal_text.specs.declared.fault.TextFault.TheVariants.{Bad, NoMemory}
use Rattle.journal_text.specs.Words.{is_line_byte}
use Rattle.journal_text.specs.Reading.{behind}
use Rattle.journal_text.specs.ReadingRows.{row_of}
use Rattle.journal_text.specs.ReadingBooks.{Lines, lines_of, size_of, ◌>>=◌, first_line, or_fault, row_then, rows_at, is_over, port_at, ports_at}
use Rattle.journal_text.specs.TextFault.{MissedText}

-- ---- the first line

pub size_is : (bytes : List ℕ) → size_of (lines_of bytes) ≡ length bytes
size_is bytes = ap length (join_with_byte-slice_split 10 bytes)

abbrev pub first_by : List ℕ → List ℕ → Option (List ℕ × Lines)
first_by line [] = None
first_by line (byte ∷ rest) = Some (line, lines_of rest)

-- what is in front of the first line
with_byte : ℕ → Option (List ℕ × Lines) → Option (List ℕ × Lines)
with_byte byte None = None
with_byte byte (Some x) = Some (byte ∷ x.0, x.1)

first_onto : (byte : ℕ) (lines : Lines) → first_line (onto_first byte lines) ≡ with_byte byte (first_line lines)
unfolding with_byte
first_onto byte [] = refl
first_onto byte (line ∷ []) = refl
first_onto byte (line ∷ next ∷ lines) = refl

first_cons : (line : List ℕ) (lines others : Lines) (next : List ℕ) → lines ≡ next ∷ others → first_line (line ∷ lines) ≡ Some (line, lines)
first_cons line lines others next e = rw e refl

onto_cons : (byte : ℕ) (lines : Lines) → (next : List ℕ) × (others : Lines) × (onto_first byte lines ≡ next ∷ others)
onto_cons byte [] = (byte ∷ [], [], refl)
onto_cons byte (line ∷ lines) = (byte ∷ line, lines, refl)

-- a text has a line at least
lines_cons : (bytes : List ℕ) → (next : List ℕ) × (others : Lines) × (lines_of bytes ≡ next ∷ others)
lines_cons [] = ([], [], refl)
lines_cons (byte ∷ bytes) =
    elim (cases_Bool (byte == 10)) [
      | inl e ↦ ([], lines_of bytes, rw e refl)
      | inr e ↦ let o = onto_cons byte (lines_of bytes) in (o.0, o.1, rw e o.2)
    ]

first_empty : (rest : List ℕ) → first_line ([] ∷ lines_of rest) ≡ Some ([], lines_of rest)
first_empty rest = let c = lines_cons rest in first_cons [] (lines_of rest) c.1 c.0 c.2

first_more : (byte : ℕ) (line rest : List ℕ) → first_by (byte ∷ line) rest ≡ with_byte byte (first_by line rest)
unfolding with_byte
first_more byte line [] = refl
first_more byte line (other ∷ rest) = refl

pub first_line_is : (bytes : List ℕ) → first_line (lines_of bytes) ≡ first_by (take_while is_line_byte bytes) (behind is_line_byte bytes)
first_line_is [] = refl
first_line_is (byte ∷ bytes) =
    elim (cases_Bool (byte == 10)) [
      | inl e ↦ rw e (first_empty bytes)
      | inr e ↦
          let n : 1 + prefix_len is_line_byte bytes ≡ suc (prefix_len is_line_byte bytes) = omega arith in
          rw (e, n) (first_onto byte (lines_of bytes) ∙ ap (with_byte byte) (first_line_is bytes) ∙ sym (first_more byte (take_while is_line_byte bytes) (behind is_line_byte bytes)))
    ]

onto_over : (byte : ℕ) (lines : Lines) → is_over (onto_first byte lines) ≡ false
onto_over byte [] = refl
onto_over byte (line ∷ lines) = refl

pub over_cons : (byte : ℕ) (bytes : List ℕ) → is_over (lines_of (byte ∷ bytes)) ≡ false
over_cons byte bytes =
    elim (cases_Bool (byte == 10)) [
      | inl e ↦ let c = lines_cons bytes in rw (e, c.2) refl
      | inr e ↦ rw e (onto_over byte (lines_of bytes))
    ]

pub over_some : (bytes : List ℕ) → is_over (lines_of bytes) ≡ (length bytes == 0)
over_some [] = refl
over_some (byte ∷ bytes) = over_cons byte bytes ∙ sym (ne_eqb (length (byte ∷ bytes)) 0 (λ e. omega arith))

take_all : (xs : List ℕ) → take (length xs) xs ≡ xs
take_all [] = refl
take_all (x ∷ xs) = ap (λ (ys : List ℕ). x ∷ ys) (take_all xs)

-- the same of what a pattern gives behind the first byte
pub first_some : (bytes line whole : List ℕ) → line ≡ take_while is_line_byte bytes → whole ≡ behind is_line_byte bytes → 1 ≤ length whole → Some (line, lines_of (take (length whole - 1) (drop 1 whole))) ≡ first_line (lines_of bytes)
first_some bytes line [] l e some = absurd (omega arith)
first_some bytes line (byte ∷ rest) l e some =
    let n : length (byte ∷ rest) - 1 ≡ length rest = omega arith in
    let all : take (length (byte ∷ rest) - 1) rest ≡ rest = ap (λ (k : ℕ). take k rest) n ∙ take_all rest in
    ap (λ (xs : List ℕ). Some (line, lines_of xs)) all ∙ ap (λ (l : List ℕ). Some (l, lines_of rest)) l
    ∙ ap (first_by (take_while is_line_byte bytes)) e ∙ sym (first_line_is bytes)

-- ---- row by row

-- what was read before, and what is still read
abbrev pub with_rows_before : List Row → Result (List Row × Lines) Lines → Result (List Row × Lines) Lines
with_rows_before front read = read >>= λ x. Ok (front ++ x.0, x.1)

regroup : (front : List Row) (row : Row) (read : Result (List Row × Lines) Lines) → with_rows_before front (read >>= λ y. Ok (row ∷ y.0, y.1)) ≡ with_rows_before (front ++ row ∷ []) read
regroup front row (Ok y) = ap (λ (xs : List Row). Ok (xs, y.1)) (simp append_assoc)
regroup front row (Err lines) = refl

abbrev by_first : ℕ → Lines → Option (List ℕ × Lines) → Result (List Row × Lines) Lines
by_first names lines None = Err lines
by_first names lines (Some x) = cond (bytes_eq x.0 (codes "end")) (Ok ([], x.1)) (row_then lines (row_of names x.0) (rows_at names x.1))

rows_by : (names : ℕ) (lines : Lines) → rows_at names lines ≡ by_first names lines (first_line lines)
unfolding rows_at
rows_by names [] = refl
rows_by names (line ∷ []) = refl
rows_by names (line ∷ next ∷ lines) = refl

rows_first : (names : ℕ) (lines : Lines) (o : Option (List ℕ × Lines)) → first_line lines ≡ o → rows_at names lines ≡ by_first names lines o
rows_first names lines o e = rows_by names lines ∙ ap (by_first names lines) e

-- the line `end`
pub rows_end : (names : ℕ) (front : List Row) (lines rest : Lines) (line : List ℕ) (total : Result (List Row × Lines) Lines) → first_line lines ≡ Some (line, rest) → bytes_eq line (codes "end") ≡ true
    → with_rows_before front (rows_at names lines) ≡ total → total ≡ Ok (front, rest)
rows_end names front lines rest line total first e so_far =
    let one : rows_at names lines ≡ Ok ([], rest) = rows_first names lines (Some (line, rest)) first ∙ ap (λ (b : Bool). cond b (Ok ([], rest)) (row_then lines (row_of names line) (rows_at names rest))) e in
    sym so_far ∙ ap (with_rows_before front) one ∙ ap (λ (xs : List Row). Ok (xs, rest)) (append-nil front)

other_line : (names : ℕ) (lines rest : Lines) (line : List ℕ) → first_line lines ≡ Some (line, rest) → bytes_eq line (codes "end") ≡ false → rows_at names lines ≡ row_then lines (row_of names line) (rows_at names rest)
other_line names lines rest line first e = rows_first names lines (Some (line, rest)) first ∙ ap (λ (b : Bool). cond b (Ok ([], rest)) (row_then lines (row_of names line) (rows_at names rest))) e

read_row : (lines : Lines) (o : Option Row) (row : Row) → or_fault lines o ≡ Ok row → o ≡ Some row
read_row lines (Some x) row h = let e : x ≡ row = cc in ap Some e
read_row lines None row h = absurd cc

-- a row
pub rows_next : (names : ℕ) (front : List Row) (lines rest : Lines) (line : List ℕ) (row : Row) (total : Result (List Row × Lines) Lines) → first_line lines ≡ Some (line, rest) → bytes_eq line (codes "end") ≡ false → or_fault lines (row_of names line) ≡ Ok row
    → with_rows_before front (rows_at names lines) ≡ total → with_rows_before (front ++ row ∷ []) (rows_at names rest) ≡ total
rows_next names front lines rest line row total first e read so_far =
    let one : rows_at names lines ≡ (rows_at names rest >>= λ x. Ok (row ∷ x.0, x.1)) = other_line names lines rest line first e ∙ ap (λ (o : Option Row). row_then lines o (rows_at names rest)) (read_row lines (row_of names line) row read) in
    sym (regroup front row (rows_at names rest)) ∙ ap (with_rows_before front) (sym one) ∙ so_far

missed_row : (fault : TextFault) (lines : Lines) (o : Option Row) (others : Result (List Row × Lines) Lines) (front : List Row) → MissedText fault (or_fault lines o) → MissedText fault (with_rows_before front (row_then lines o others))
missed_row NoMemory lines o others front h = tt
missed_row (Bad left) lines None others front h = h
missed_row (Bad left) lines (Some row) others front h = absurd h

-- a line that is no row
pub rows_fault : (names : ℕ) (front : List Row) (lines rest : Lines) (line : List ℕ) (fault : TextFault) (total : Result (List Row × Lines) Lines) → first_line lines ≡ Some (line, rest) → bytes_eq line (codes "end") ≡ false → MissedText fault (or_fault lines (row_of names line))
    → with_rows_before front (rows_at names lines) ≡ total → MissedText fault total
rows_fault names front lines rest line fault total first e missed so_far =
    subst (λ (r : Result (List Row × Lines) Lines). MissedText fault r) (ap (with_rows_before front) (sym (other_line names lines rest line first e)) ∙ so_far)
    (missed_row fault lines (row_of names line) (rows_at names rest) front missed)

-- no line
pub rows_past : (names : ℕ) (front : List Row) (lines : Lines) (total : Result (List Row × Lines) Lines) → first_line lines ≡ None → with_rows_before front (rows_at names lines) ≡ total → MissedText (Bad (size_of lines)) total
rows_past names front lines total none so_far =
    let one : total ≡ Err lines = sym so_far ∙ ap (with_rows_before front) (rows_first names lines None none) in
    subst (λ (r : Result (List Row × Lines) Lines). MissedText (Bad (size_of lines)) r) (sym one) refl

-- ---- port by port

abbrev pub with_ports_before : List PortReport → Result (List PortReport) Lines → Result (List PortReport) Lines
with_ports_before front read = read >>= λ x. Ok (front ++ x)

regroup_ports : (front : List PortReport) (port : PortReport) (read : Result (List PortReport) Lines) → with_ports_before front (read >>= λ y. Ok (port ∷ y)) ≡ with_ports_before (front ++ port ∷ []) read
regroup_ports front port (Ok y) = ap (λ (xs : List PortReport). Ok xs) (simp append_assoc)
regroup_ports front port (Err lines) = refl

over_ports : (n names : ℕ) (lines : Lines) → is_over lines ≡ true → ports_at n names lines ≡ Ok []
unfolding ports_at
over_ports zero names lines over = rw over refl
over_ports (suc n) names lines over = rw over refl

-- the end of the text
pub ports_end : (names : ℕ) (front : List PortReport) (n i : ℕ) (lines : Lines) (total : Result (List PortReport) Lines) → is_over lines ≡ true → with_ports_before front (ports_at (n - i) names lines) ≡ total → total ≡ Ok front
ports_end names front n i lines total over so_far = sym so_far ∙ ap (with_ports_before front) (over_ports (n - i) names lines over) ∙ ap (λ (xs : List PortReport). Ok xs) (append-nil front)

-- a port
pub ports_next : (names : ℕ) (front : List PortReport) (n i : ℕ) (lines rest : Lines) (port : PortReport) (total : Result (List PortReport) Lines) → i < n → is_over lines ≡ false → port_at names lines ≡ Ok (port, rest)
    → with_ports_before front (ports_at (n - i) names lines) ≡ total → with_ports_before (front ++ port ∷ []) (ports_at (n - (i + 1)) names rest) ≡ total
unfolding ports_at
ports_next names front n i lines rest port total lt over read so_far =
    let k : n - i ≡ suc (n - (i + 1)) = omega arith in
    let one : ports_at (n - i) names lines ≡ (ports_at (n - (i + 1)) names rest >>= λ others. Ok (port ∷ others)) = rw (k, over, read) refl in
    sym (regroup_ports front port (ports_at (n - (i + 1)) names rest)) ∙ ap (with_ports_before front) (sym one) ∙ so_far

missed_port : (fault : TextFault) (read : Result (PortReport × Lines) Lines) (f : PortReport × Lines → Result (List PortReport) Lines) (front : List PortReport) → MissedText fault read → MissedText fault (with_ports_before front (read >>= f))
missed_port NoMemory read f front h = tt
missed_port (Bad left) (Ok x) f front h = absurd h
missed_port (Bad left) (Err lines) f front h = h

-- no port
pub ports_fault : (names : ℕ) (front : List PortReport) (n i : ℕ) (lines : Lines) (fault : TextFault) (total : Result (List PortReport) Lines) → i < n → is_over lines ≡ false → MissedText fault (port_at names lines)
    → with_ports_before front (ports_at (n - i) names lines) ≡ total → MissedText fault total
unfolding ports_at
ports_fault names front n i lines fault total lt over missed so_far =
    let k : n - i ≡ suc (n - (i + 1)) = omega arith in
    let one : ports_at (n - i) names lines ≡ (port_at names lines >>= λ first. (ports_at (n - (i + 1)) names first.1 >>= λ others. Ok (first.0 ∷ others))) = rw (k, over) refl in
    subst (λ (r : Result (List PortReport) Lines). MissedText fault r) (ap (with_ports_before front) (sym one) ∙ so_far)
    (missed_port fault (port_at names lines) (λ first. ports_at (n - (i + 1)) names first.1 >>= λ others. Ok (first.0 ∷ others)) front missed)

-- too many ports
pub ports_past : (names : ℕ) (front : List PortReport) (n i : ℕ) (lines : Lines) (total : Result (List PortReport) Lines) → n ≤ i → is_over lines ≡ false → with_ports_before front (ports_at (n - i) names lines) ≡ total → MissedText (Bad (size_of lines)) total
unfolding ports_at
ports_past names front n i lines total le over so_far =
    let k : n - i ≡ 0 = omega arith in
    let one : total ≡ Err lines = sym so_far ∙ rw (k, over) refl in
    subst (λ (r : Result (List PortReport) Lines). MissedText (Bad (size_of lines)) r) (sym one) refl
