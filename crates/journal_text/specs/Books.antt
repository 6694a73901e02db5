-- What a journal is: the text of a book.
use Rattle.std.specs.Prelude.{◌≡◌, ℕ, ◌≤◌, List, [], ◌∷◌, ◌++◌, length, take, Bool, true, ◌&&◌, nat_le, codes}
use Rattle.std.specs.List.{list_all, flat_map}
use Rattle.std.specs.Fmt.{decimal}
use Rattle.journal_text.specs.declared.book.PortReport.{PortReport}
use Rattle.journal_text.specs.Words.{spaced, is_name}
use Rattle.journal_text.specs.Ports.{port_lines, is_report}

-- the names of the processes, and the ports, each in the order of declaration
pub record BookView : Type 0 where
  pub names : List (List ℕ)
  pub ports : List PortReport

-- there are at most 32 names and 32 ports, and each number, name and list is in its range
abbrev pub is_book : BookView → Bool
is_book book =
    nat_le (length book.names) 32 && (list_all is_name book.names && (nat_le (length book.ports) 32
    && list_all (is_report (length book.names)) book.ports))

-- a line with the byte 10 that ends it
abbrev pub ended : List ℕ → List ℕ
ended line = line ++ 10 ∷ []

abbrev pub head_line : ℕ → List ℕ
head_line version = spaced (codes "journal" ∷ decimal version ∷ [])

abbrev pub names_line : List (List ℕ) → List ℕ
names_line names = spaced (codes "processes" ∷ names)

-- the lines of a journal of this version, and its text
abbrev pub journal_lines : ℕ → BookView → List (List ℕ)
journal_lines version book = head_line version ∷ names_line book.names ∷ flat_map port_lines book.ports

unfoldable pub journal_text : ℕ → BookView → List ℕ
journal_text version book = flat_map ended (journal_lines version book)

-- a front of a journal
abbrev pub BeginsJournal : ℕ → List ℕ → Type 0
BeginsJournal version front = (book : BookView) × (more : List ℕ) × (is_book book ≡ true) × (journal_text version book ≡ front ++ more)

-- how many bytes stand before the first line that isn't in the grammar: these bytes are whole lines that begin a journal, and no longer
-- front of the text that ends with byte 10 begins one
pub record IsFirstBadLine (version : ℕ) (text : List ℕ) (at : ℕ) : Type 0 where
  pub lines : List (List ℕ)
  pub whole : take at text ≡ flat_map ended lines
  pub within : at ≤ length text
  pub begins : BeginsJournal version (take at text)
  pub ends : (front rest : List ℕ) → text ≡ front ++ 10 ∷ rest → at ≤ length front → BeginsJournal version (ended front) → ⊥
