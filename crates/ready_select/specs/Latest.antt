-- What the last entry of a list that decides says.
use Rattle.std.specs.Prelude.{Bool, if◌then◌else◌, List, Option, None, Some, fold, unwrap_or}

-- a decision, where it is one
abbrev pub when : Bool → Bool → Option Bool
when applies answer = if applies then Some answer else None

-- what the last entry that decides says, and `before` where none does
abbrev pub latest : {X : Type 0} → (X → Option Bool) → Bool → List X → Bool
latest decides before entries = fold (λ answer entry. unwrap_or (decides entry) answer) before entries
