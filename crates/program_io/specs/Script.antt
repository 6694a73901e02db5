-- The script of a run, as its file says it.
use Rattle.std.specs.Prelude.{◌≡◌, ℕ, ◌⊎◌, List, Result, Err}
use Rattle.script_plan.specs.Plan.{Plan}
use Rattle.script_plan.specs.declared.fault.ScriptFault.{ScriptFault}
use Rattle.script_plan.specs.declared.fault.ScriptFault.TheVariants.{NoMemory as NoMemoryForScript}
use Rattle.gateway_script.specs.Script.{script}
use Rattle.program_io.specs.declared.fault.InputFault.{InputFault}
use Rattle.program_io.specs.declared.fault.InputFault.TheVariants.{Script, ReadFault, Limit, NoMemory}
use Rattle.program_io.specs.Files.{FilesView, HasRead, NothingRead, ReadEnds}

-- one read answered, of the file of this name, with at most 1,048,576 bytes, and they say this plan, or have this fault
pub record ScriptRead (before after : FilesView) (name : List ℕ) (said : Result Plan ScriptFault) : Type 0 where
  pub bytes : List ℕ
  pub read : HasRead 1048576 before after name bytes
  pub says : script bytes ≡ said

-- the fault is one of the script, and not want of memory
abbrev pub IsOfScript : ScriptFault → Type 0
IsOfScript NoMemoryForScript = ⊥
IsOfScript fault = Unit {0}

-- why there is no script: what was read has a fault, or nothing was read. Memory may have been wanting before the read or behind it
abbrev pub ScriptEnds : FilesView → FilesView → List ℕ → InputFault → Type 0
ScriptEnds before after name (Script fault) = IsOfScript fault × ScriptRead before after name (Err fault)
ScriptEnds before after name (ReadFault line) = ReadEnds 0 1048576 before after name (ReadFault line)
ScriptEnds before after name (Limit line) = ReadEnds 0 1048576 before after name (Limit line)
ScriptEnds before after name NoMemory = NothingRead before after ⊎ ((bytes : List ℕ) × HasRead 1048576 before after name bytes)
