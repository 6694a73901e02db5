-- The lines of a text.
use Rattle.std.specs.Prelude.{ℕ, ◌+◌, ◌==◌, Bool, List, [], ◌∷◌, Option, Some, None}
use Rattle.std.specs.List.{slice_split}

-- a line without its end, and its number
pub record Line : Type 0 where
  pub number : ℕ
  pub bytes : List ℕ

-- the lines with their numbers, counted from `number`
abbrev pub numbered_from : ℕ → List (List ℕ) → List Line
numbered_from number [] = []
numbered_from number (bytes ∷ below) = record { number = number; bytes = bytes } ∷ numbered_from (number + 1) below

-- whether a line ends with this byte
abbrev pub is_line_end : ℕ → Bool
is_line_end byte = byte == 10

-- the lines of a text, counted from 1. Byte 10 ends a line; what stands behind the last one is a line too, mostly an empty one
abbrev pub lines : List ℕ → List Line
lines text = numbered_from 1 (slice_split is_line_end text)

-- the lines of what is left of a text, without their numbers
abbrev pub parts_left : Option (List ℕ) → List (List ℕ)
parts_left (Some text) = slice_split is_line_end text
parts_left None = []
