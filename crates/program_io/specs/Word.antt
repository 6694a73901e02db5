-- The words of a command line that name files.
use Rattle.std.specs.Prelude.{ℕ, List, Bool, not, ◌&&◌, codes, nat_eq, nat_lt, length}
use Rattle.std.specs.List.{starts_with}

-- a word that may name a file: it isn't empty, and doesn't begin with `-`
abbrev pub is_word : List ℕ → Bool
is_word word = nat_lt 0 (length word) && not (starts_with nat_eq word (codes "-"))
