-- What reading a part of a line gives. Want of memory tells nothing.
use Rattle.std.specs.Prelude.{◌≡◌, ℕ, List, Option, Some, None, Result, Ok, Err}
use Rattle.script_text.specs.declared.fault.PartFault.{PartFault}
use Rattle.script_text.specs.declared.fault.PartFault.TheVariants.{Bad, NoMemory}

-- what a fault tells of what there was to read: nothing of a bad part
abbrev pub Missed : {Y : Type 0} → PartFault → Option Y → Type 0
Missed Bad read = read ≡ None
Missed NoMemory read = Unit {0}

-- a result, seen by `view`, is what there was to read
abbrev pub Reads : {X Y : Type 0} → (X → Y) → Result X PartFault → Option Y → Type 0
Reads view (Ok x) read = read ≡ Some (view x)
Reads view (Err fault) read = Missed fault read

-- a result, seen by `value` and `behind`, is this value with the rest behind it, unless memory ran out
abbrev pub Gives : {X A : Type 0} → (X → A) → (X → List ℕ) → Result X PartFault → A → List ℕ → Type 0
Gives value behind (Ok x) v rest = (value x ≡ v) × (behind x ≡ rest)
Gives value behind (Err Bad) v rest = ⊥
Gives value behind (Err NoMemory) v rest = Unit {0}
