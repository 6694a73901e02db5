-- Where a part of a line ends.
use Rattle.std.specs.Prelude.{◌≡◌, ℕ, List, ◌++◌, slice_index, false}
use Rattle.script_text.specs.Tokens.{is_name_byte}

-- a spelling of the value stands in front of the bytes, and the rest stands behind it
pub record InFront {A : Type 0} (IsSpelling : A → List ℕ → Type 0) (value : A) (bytes rest : List ℕ) : Type 0 where
  pub text : List ℕ
  pub parts : bytes ≡ text ++ rest
  pub spelled : IsSpelling value text

-- the rest doesn't go on with a name or a number: its first byte, if there is one, isn't a letter, a digit or `_`
abbrev pub IsEnd : List ℕ → Type 0
IsEnd rest = is_name_byte (slice_index rest 0) ≡ false
