-- The statuses and the texts of the causes with which a call of the program ends.
use Rattle.std.specs.Prelude.{ℕ, List, [], ◌∷◌, ◌++◌, codes}
use Rattle.std.specs.Fmt.{decimal}
use Rattle.script_plan.specs.declared.fault.ScriptFault.{ScriptFault}
use Rattle.script_plan.specs.declared.fault.ScriptFault.TheVariants.{BadLine, UnknownName, Repeated, Limit as LimitOfScript, NoMemory as NoMemoryForScript}
use Rattle.port_driver.specs.declared.life.StartRefusal.{StartRefusal}
use Rattle.port_driver.specs.declared.life.StartRefusal.TheVariants.{General, Errno, Badarg, StartFault, NoMemory as NoMemoryToStart}
use Rattle.run_report.specs.declared.cause.Cause.{Cause}
use Rattle.run_report.specs.declared.cause.Cause.TheVariants.{Done, Usage, Script, ReadFault, WriteFault, NoDriver, StartRefused, PollFault, NoMemory, Illegal, Limit, JournalText}

-- the status with which the program ends
abbrev pub status_of : Cause → ℕ
status_of Done = 0
status_of (Usage at) = 1
status_of (Script fault) = 2
status_of (ReadFault line) = 3
status_of WriteFault = 4
status_of (NoDriver line handed) = 5
status_of (StartRefused line refusal) = 6
status_of PollFault = 7
status_of NoMemory = 8
status_of (Illegal port row law) = 9
status_of (Limit line) = 10
status_of (JournalText at) = 11

-- the fault is one of the script, and not want of memory
abbrev pub IsOfScript : ScriptFault → Type 0
IsOfScript NoMemoryForScript = ⊥
IsOfScript fault = Unit {0}

-- the driver refused for a reason of its own, and not for want of memory
abbrev pub IsOfDriver : StartRefusal → Type 0
IsOfDriver NoMemoryToStart = ⊥
IsOfDriver refusal = Unit {0}

-- a cause that tells a fault of a script or a refusal of a driver doesn't tell want of memory
abbrev pub HasText : Cause → Type 0
HasText (Script fault) = IsOfScript fault
HasText (StartRefused line refusal) = IsOfDriver refusal
HasText cause = Unit {0}

-- the line of a fault of a script, and no byte for want of memory
unfoldable pub fault_line_of : ScriptFault → List ℕ
fault_line_of (BadLine line) = codes "gateway: script line " ++ decimal line ++ codes ": bad line" ++ 10 ∷ []
fault_line_of (UnknownName line) = codes "gateway: script line " ++ decimal line ++ codes ": unknown name" ++ 10 ∷ []
fault_line_of (Repeated line) = codes "gateway: script line " ++ decimal line ++ codes ": repeated" ++ 10 ∷ []
fault_line_of (LimitOfScript line which) =
    codes "gateway: script line " ++ decimal line ++ codes ": limit " ++ decimal which ++ 10 ∷ []
fault_line_of NoMemoryForScript = []

-- what is said of a refusal, and no byte for want of memory
abbrev pub refusal_text : StartRefusal → List ℕ
refusal_text General = codes "general"
refusal_text Errno = codes "errno"
refusal_text Badarg = codes "badarg"
refusal_text StartFault = codes "fault"
refusal_text NoMemoryToStart = []

-- the text of a cause: one line, and none where the work was done
unfoldable pub cause_text_of : Cause → List ℕ
cause_text_of Done = []
cause_text_of (Usage at) = codes "gateway: usage at word " ++ decimal at ++ 10 ∷ []
cause_text_of (Script fault) = fault_line_of fault
cause_text_of (ReadFault line) = codes "gateway: read fault at line " ++ decimal line ++ 10 ∷ []
cause_text_of WriteFault = codes "gateway: write fault" ++ 10 ∷ []
cause_text_of (NoDriver line handed) =
    codes "gateway: no driver for line " ++ decimal line ++ codes ", handed " ++ decimal handed ++ 10 ∷ []
cause_text_of (StartRefused line refusal) =
    codes "gateway: start refused at line " ++ decimal line ++ codes ": " ++ refusal_text refusal ++ 10 ∷ []
cause_text_of PollFault = codes "gateway: poll fault" ++ 10 ∷ []
cause_text_of NoMemory = codes "gateway: no memory" ++ 10 ∷ []
cause_text_of (Illegal port row law) =
    codes "gateway: port " ++ decimal port ++ codes " row " ++ decimal row ++ codes " breaks law " ++ decimal law ++ 10 ∷ []
cause_text_of (Limit line) = codes "gateway: limit at line " ++ decimal line ++ 10 ∷ []
cause_text_of (JournalText at) = codes "gateway: journal text at byte " ++ decimal at ++ 10 ∷ []
