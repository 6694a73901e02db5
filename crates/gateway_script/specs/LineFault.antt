-- What the fault of a line tells. Want of memory tells nothing.
use Rattle.std.specs.Prelude.{◌≡◌, ℕ, Result, Err}
use Rattle.script_text.specs.declared.fault.PartFault.{PartFault}
use Rattle.script_text.specs.declared.fault.PartFault.TheVariants as part
use Rattle.script_plan.specs.declared.fault.ScriptFault.{ScriptFault}
use Rattle.script_plan.specs.declared.fault.ScriptFault.TheVariants as script
use Rattle.gateway_script.specs.declared.line_fault.LineFault.{LineFault}
use Rattle.gateway_script.specs.declared.line_fault.LineFault.TheVariants.{Bad, UnknownName, Repeated, Limit, NoMemory}

-- the fault is the one that a line reads as
abbrev pub Tells : {X : Type 0} → Result X LineFault → LineFault → Type 0
Tells read Bad = read ≡ Err Bad
Tells read UnknownName = read ≡ Err UnknownName
Tells read Repeated = read ≡ Err Repeated
Tells read (Limit which) = read ≡ Err (Limit which)
Tells read NoMemory = Unit {0}

-- the fault of a part of a line, as the line's
abbrev pub of_part : PartFault → LineFault
of_part part.Bad = Bad
of_part part.NoMemory = NoMemory

-- the fault of a line of this number, as the script's
abbrev pub fault_at : ℕ → LineFault → ScriptFault
fault_at number Bad = script.BadLine number
fault_at number UnknownName = script.UnknownName number
fault_at number Repeated = script.Repeated number
fault_at number (Limit which) = script.Limit number which
fault_at number NoMemory = script.NoMemory
