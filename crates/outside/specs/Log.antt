-- What calls answered so far, oldest first. Every object tells it, also one that doesn't tell what it holds.
use Rattle.std.specs.Prelude.{ℕ, List, [], ◌∷◌, ◌++◌}

-- a name, and the bytes that one call read or wrote under it
pub record NamedBytes : Type 0 where
  pub name : List ℕ
  pub bytes : List ℕ

-- the log with one more answer
abbrev pub noted : List NamedBytes → List ℕ → List ℕ → List NamedBytes
noted log name bytes = log ++ record { name = name; bytes = bytes } ∷ []
