-- What a job's seat of OVER saw.
use Rattle.std.specs.Prelude.{◌≡◌, ℕ, ◌<◌, List, [], ◌∷◌, ◌++◌}
use Rattle.port_words.specs.over.Over.{OverKnown, stopped_part}

-- its last look found a stop
abbrev pub SawStop : OverKnown → OverKnown → Type 0
SawStop old new = (before : List ℕ) × (word : ℕ) × (new.known.found ≡ before ++ word ∷ []) × (0 < stopped_part word)
