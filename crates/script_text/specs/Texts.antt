-- TEXTs: bytes in double quotes.
use Rattle.std.specs.Prelude.{◌≡◌, ◌≢◌, ℕ, ◌+◌, ◌*◌, ◌<◌, ◌≤◌, List, [], ◌∷◌, ◌++◌, length, nat_lt, if◌then◌else◌}
use Rattle.port_terms.specs.declared.values.TheConstants.{MAX_ITEMS}

-- a digit below 16, from `0` to `9` and from `a` to `f`
abbrev pub hex_digit : ℕ → ℕ
hex_digit n = if nat_lt n 10 then 48 + n else 87 + n

-- How one byte is written in a TEXT. An escape begins with a backslash, 92.
pub data SpellsByte : ℕ → List ℕ → Type 0 where
  -- any byte but a double quote and a backslash
  itself : (byte : ℕ) → byte ≢ 34 → byte ≢ 92 → SpellsByte byte (byte ∷ [])
  -- \n
  newline : SpellsByte 10 (92 ∷ 110 ∷ [])
  -- \r
  carriage_return : SpellsByte 13 (92 ∷ 114 ∷ [])
  -- \t
  tab : SpellsByte 9 (92 ∷ 116 ∷ [])
  -- \\
  backslash : SpellsByte 92 (92 ∷ 92 ∷ [])
  -- \"
  quote : SpellsByte 34 (92 ∷ 34 ∷ [])
  -- \xHH
  hexadecimal : (high low : ℕ) → high < 16 → low < 16 → SpellsByte (16 * high + low) (92 ∷ 120 ∷ hex_digit high ∷ hex_digit low ∷ [])

-- bytes, one after the other
pub data SpellsBytes : List ℕ → List ℕ → Type 0 where
  nothing : SpellsBytes [] []
  one_more : (byte : ℕ) (bytes first others : List ℕ) → SpellsByte byte first → SpellsBytes bytes others → SpellsBytes (byte ∷ bytes) (first ++ others)

-- a TEXT: at most 262,143 bytes, between double quotes
pub record SpellsText (bytes text : List ℕ) : Type 0 where
  pub content : List ℕ
  pub quoted : text ≡ 34 ∷ content ++ 34 ∷ []
  pub spelled : SpellsBytes bytes content
  pub few : length bytes ≤ MAX_ITEMS
