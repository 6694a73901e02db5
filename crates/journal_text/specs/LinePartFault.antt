-- What a reader of a part of a line gives.
use Rattle.std.specs.Prelude.{◌≡◌, Option, Some, None, Result, Ok, Err}
use Rattle.journal_text.specs.declared.fault.LinePartFault.{LinePartFault}
use Rattle.journal_text.specs.declared.fault.LinePartFault.TheVariants.{Bad, NoMemory}

-- what a fault tells of what there was to read: nothing of a bad line
abbrev pub Missed : {Y : Type 0} → LinePartFault → Option Y → Type 0
Missed Bad read = read ≡ None
Missed NoMemory read = Unit {0}

-- a result, seen by `view`, is what there was to read
abbrev pub Reads : {X Y : Type 0} → (X → Y) → Result X LinePartFault → Option Y → Type 0
Reads view (Ok x) read = read ≡ Some (view x)
Reads view (Err fault) read = Missed fault read
