-- What a reader of lines gives.
use Rattle.std.specs.Prelude.{◌≡◌, ℕ, Result, Ok, Err}
use Rattle.journal_text.specs.declared.fault.LinePartFault.{LinePartFault}
use Rattle.journal_text.specs.declared.fault.LinePartFault.TheVariants as line
use Rattle.journal_text.specs.declared.fault.TextFault.{TextFault}
use Rattle.journal_text.specs.declared.fault.TextFault.TheVariants.{Bad, NoMemory}
use Rattle.journal_text.specs.ReadingBooks.{Lines, size_of}

-- a line's fault, where so many bytes are left from the line on
abbrev pub fault_of : LinePartFault → ℕ → TextFault
fault_of line.Bad left = Bad left
fault_of line.NoMemory left = NoMemory

-- what a fault tells of what there was to read: how many bytes there are from the first bad line on
abbrev pub MissedText : {Y : Type 0} → TextFault → Result Y Lines → Type 0
MissedText (Bad left) (Ok x) = ⊥
MissedText (Bad left) (Err lines) = left ≡ size_of lines
MissedText NoMemory read = Unit {0}

-- a result, seen by `view`, is what there was to read
abbrev pub ReadsText : {X Y : Type 0} → (X → Y) → Result X TextFault → Result Y Lines → Type 0
ReadsText view (Ok x) read = read ≡ Ok (view x)
ReadsText view (Err fault) read = MissedText fault read
