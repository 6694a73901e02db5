-- How a scheduler's run ends.
use Rattle.std.specs.Prelude.{◌≡◌, ◌⊎◌, ℕ, ◌<◌, List, [], ◌∷◌, ◌++◌}
use Rattle.port_words.specs.over.Over.{OverKnown, over_known, over_view, stopped_view, finished_part, stopped_part}
use Rattle.port_sched.specs.declared.scheduling.SchedEnd.{SchedEnd}
use Rattle.port_sched.specs.declared.scheduling.SchedEnd.TheVariants.{Done, NoMemory}

abbrev pub IsDone : SchedEnd → Type 0
IsDone Done = Unit {0}
IsDone NoMemory = ⊥

abbrev pub IsNoMemory : SchedEnd → Type 0
IsNoMemory Done = ⊥
IsNoMemory NoMemory = Unit {0}

-- a seat of OVER has looked, and said nothing
abbrev pub Looked : OverKnown → OverKnown → Type 0
Looked old new = (found : List ℕ) × (new ≡ over_known old.word (over_view old.known.size old.known.places (old.known.found ++ found)))

-- its last look found that all counted seats have finished, or a stop
abbrev pub SawTheEnd : OverKnown → OverKnown → Type 0
SawTheEnd old new = (before : List ℕ) × (word : ℕ) × (new.known.found ≡ before ++ word ∷ []) × ((finished_part word ≡ old.known.size.counted) ⊎ (0 < stopped_part word))

-- it looked, and then stopped the run
abbrev pub Stopped : OverKnown → OverKnown → Type 0
Stopped old new = (between : OverKnown) × (found : ℕ) × Looked old between × (new ≡ over_known old.word (stopped_view between.known found))
