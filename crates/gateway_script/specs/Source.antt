-- Where bytes of a line stand in the text of a script.
use Rattle.std.specs.Prelude.{◌≡◌, ◌+◌, ◌++◌, ℕ, List, length}

-- these bytes stand in the text, and end at this place
pub record EndsAt (text : List ℕ) (end : ℕ) (bytes : List ℕ) : Type 0 where
  pub front : List ℕ
  pub behind : List ℕ
  pub parts : text ≡ front ++ bytes ++ behind
  pub place : end ≡ length front + length bytes
