-- What a command ends with whose input wasn't read.
use Rattle.program_io.specs.declared.fault.InputFault.{InputFault}
use Rattle.program_io.specs.declared.fault.InputFault.TheVariants as input
use Rattle.run_report.specs.declared.cause.Cause.{Cause}
use Rattle.run_report.specs.declared.cause.Cause.TheVariants.{Script, ReadFault, NoMemory, Limit}

-- the cause of a command whose input wasn't read
abbrev pub input_cause : InputFault → Cause
input_cause (input.Script fault) = Script fault
input_cause (input.ReadFault line) = ReadFault line
input_cause (input.Limit line) = Limit line
input_cause input.NoMemory = NoMemory
