-- Reading a journal line by line. A fault tells the lines from the first one on that isn't in the grammar.
use Rattle.std.specs.Prelude.{ℕ, zero, suc, ◌==◌, Bool, true, false, if◌then◌else◌, List, [], ◌∷◌, length, Option, Some, None, Result, Ok, Err, codes, option_and_then}
use Rattle.std.specs.List.{slice_split, join_with_byte, take_while}
use Rattle.std.specs.Str.{bytes_eq}
use Rattle.port_model.specs.declared.row.Row.{Row}
use Rattle.journal_text.specs.declared.book.PortReport.{PortReport}
use Rattle.journal_text.specs.Words.{is_word_byte}
use Rattle.journal_text.specs.Ports.{with_rows}
use Rattle.journal_text.specs.Books.{BookView}
use Rattle.journal_text.specs.Reading.{behind, spaced_at, name_at}
use Rattle.journal_text.specs.ReadingRows.{row_of}
use Rattle.journal_text.specs.ReadingPorts.{port_line_of}

-- the lines of a text, and what stands behind the last byte 10
abbrev pub Lines : Type 0
Lines = List (List ℕ)

abbrev pub lines_of : List ℕ → Lines
lines_of bytes = slice_split (λ byte. byte == 10) bytes

-- how many bytes these lines have
abbrev pub size_of : Lines → ℕ
size_of lines = length (join_with_byte 10 lines)

infixl 10 ◌>>=◌
abbrev pub ◌>>=◌ : {A B : Type 0} → Result A Lines → (A → Result B Lines) → Result B Lines
(Ok x) >>= f = f x
(Err lines) >>= f = Err lines

-- the first line, if byte 10 ends it, and the others
abbrev pub first_line : Lines → Option (List ℕ × Lines)
first_line [] = None
first_line (line ∷ []) = None
first_line (line ∷ next ∷ lines) = Some (line, next ∷ lines)

-- what was read, or else these lines
abbrev pub or_fault : {A : Type 0} → Lines → Option A → Result A Lines
or_fault lines (Some x) = Ok x
or_fault lines None = Err lines

-- what the first line is
unfoldable pub line_at : {A : Type 0} → (List ℕ → Option A) → Lines → Result (A × Lines) Lines
line_at of lines = or_fault lines (option_and_then (λ x. option_and_then (λ y. Some (y, x.1)) (of x.0)) (first_line lines))

-- a row and the others
abbrev pub row_then : Lines → Option Row → Result (List Row × Lines) Lines → Result (List Row × Lines) Lines
row_then lines None others = Err lines
row_then lines (Some row) others = others >>= λ x. Ok (row ∷ x.0, x.1)

-- rows up to the line `end`
unfoldable pub rows_at : ℕ → Lines → Result (List Row × Lines) Lines
rows_at names [] = Err []
rows_at names (line ∷ []) = Err (line ∷ [])
rows_at names (line ∷ next ∷ lines) =
    if bytes_eq line (codes "end") then Ok ([], next ∷ lines)
    else row_then (line ∷ next ∷ lines) (row_of names line) (rows_at names (next ∷ lines))

unfoldable pub port_at : ℕ → Lines → Result (PortReport × Lines) Lines
port_at names lines = do
  line ← line_at (port_line_of names) lines
  rows ← rows_at names line.1
  Ok (with_rows line.0 rows.0, rows.1)

-- no line is left
abbrev pub is_over : Lines → Bool
is_over [] = false
is_over ([] ∷ []) = true
is_over lines = false

-- at most n ports, to the end of the text
unfoldable pub ports_at : ℕ → ℕ → Lines → Result (List PortReport) Lines
ports_at zero names lines = if is_over lines then Ok [] else Err lines
ports_at (suc n) names lines =
    if is_over lines then Ok []
    else (port_at names lines >>= λ first. (ports_at n names first.1 >>= λ others. Ok (first.0 ∷ others)))

-- at most n names, each behind a space, to the end of the line
unfoldable pub names_at : ℕ → List ℕ → Option (List (List ℕ))
names_at zero [] = Some []
names_at zero (byte ∷ bytes) = None
names_at (suc n) [] = Some []
names_at (suc n) (byte ∷ bytes) = option_and_then (λ first. option_and_then (λ others. Some (first.0 ∷ others)) (names_at n first.1)) (spaced_at name_at (byte ∷ bytes))

unfoldable pub names_of : List ℕ → Option (List (List ℕ))
names_of line = if bytes_eq (take_while is_word_byte line) (codes "processes") then names_at 32 (behind is_word_byte line) else None

abbrev pub head_of : List ℕ → Option Bool
head_of line = if bytes_eq line (codes "journal 1") then Some true else None

-- all lines of a text
unfoldable pub book_at : Lines → Result BookView Lines
book_at lines = do
  head ← line_at head_of lines
  names ← line_at names_of head.1
  ports ← ports_at 32 (length names.0) names.1
  Ok (record { names = names.0; ports = ports })
