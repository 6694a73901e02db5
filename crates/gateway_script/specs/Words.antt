-- The words of a line, each read from the front of the bytes that are left.
use Rattle.std.specs.Prelude.{ℕ, ◌==◌, ◌&&◌, nat_le, List, [], ◌∷◌, Bool, not, Option, Some, None, option_and_then, option_map, is_none, if◌then◌else◌, drop, codes}
use Rattle.std.specs.List.{take_while, prefix_len, list_any}
use Rattle.std.specs.Str.{bytes_eq, is_utf8}
use Rattle.port_signal.specs.Name.{name_fault}
use Rattle.script_text.specs.Reading.{skip, after, number_at, text_at}

infixl 10 ◌>>=◌
abbrev pub ◌>>=◌ : {A B : Type 0} → Option A → (A → Option B) → Option B
o >>= f = option_and_then f o

-- a byte of a word: any but a space
abbrev pub is_word_byte : ℕ → Bool
is_word_byte byte = not (byte == 32)

-- what stands behind one or more spaces
abbrev pub gap_at : List ℕ → Option (List ℕ)
gap_at bytes = option_map skip (after 32 bytes)

-- the word in front, which may be empty, and what stands behind it
abbrev pub word_at : List ℕ → List ℕ × List ℕ
word_at bytes = (take_while is_word_byte bytes, drop (prefix_len is_word_byte bytes) bytes)

-- the word behind a gap
unfoldable pub next_word_at : List ℕ → Option (List ℕ × List ℕ)
next_word_at bytes = gap_at bytes >>= λ inner. Some (word_at inner)

-- the NAME that a word is
abbrev pub name_of : List ℕ → Option (List ℕ)
name_of word = if is_none (name_fault word) then Some word else None

-- the NAME behind a gap
unfoldable pub next_name_at : List ℕ → Option (List ℕ × List ℕ)
next_name_at bytes = do
  word ← next_word_at bytes
  name ← name_of word.0
  Some (name, word.1)

-- the names that no process and no port can have
abbrev pub is_reserved : List ℕ → Bool
is_reserved name = list_any (bytes_eq name) (codes "process" ∷ codes "port" ∷ codes "journal" ∷ codes "save" ∷ [])

-- the NAME that a word is, if a process or a port can have it
abbrev pub free_name_of : List ℕ → Option (List ℕ)
free_name_of word = name_of word >>= λ name. if is_reserved name then None else Some name

-- the NAME behind a gap, if a process or a port can have it
unfoldable pub next_free_name_at : List ℕ → Option (List ℕ × List ℕ)
next_free_name_at bytes = do
  word ← next_word_at bytes
  name ← free_name_of word.0
  Some (name, word.1)

-- the value, if nothing stands behind it
abbrev pub last : {A : Type 0} → List ℕ → A → Option A
last [] value = Some value
last (byte ∷ rest) value = None

-- the NUMBER behind a gap
unfoldable pub next_number_at : List ℕ → Option (ℕ × List ℕ)
next_number_at bytes = gap_at bytes >>= number_at

-- the NUMBER behind a gap, if it lies between these
unfoldable pub number_within : ℕ → ℕ → List ℕ → Option (ℕ × List ℕ)
number_within low high bytes = do
  found ← next_number_at bytes
  if nat_le low found.0 && nat_le found.0 high then Some found else None

-- the TEXT behind a gap
unfoldable pub next_text_at : List ℕ → Option (List ℕ × List ℕ)
next_text_at bytes = gap_at bytes >>= text_at

-- the name of a file of these bytes, if they are UTF-8
abbrev pub utf8_name_of : List ℕ → Option (List ℕ)
utf8_name_of text = if is_utf8 text then Some text else None

-- the TEXT behind a gap, if it can name a file
unfoldable pub next_file_at : List ℕ → Option (List ℕ × List ℕ)
next_file_at bytes = do
  found ← next_text_at bytes
  name ← utf8_name_of found.0
  Some (name, found.1)
