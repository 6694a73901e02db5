-- What a read takes from a source whose bytes are known.
use Rattle.std.specs.Prelude.{◌≡◌, ℕ, List, ◌++◌, Option}
use Rattle.std.specs.Io.KnownBytes.{Consumes}

-- the source lost some bytes at its front, and these stand behind the older ones
abbrev pub Grows : Option (List ℕ) → Option (List ℕ) → List ℕ → List ℕ → Type 0
Grows left left' older newer = (more : List ℕ) × (newer ≡ older ++ more) × Consumes left left' more
