-- What a script says, as its lines go on.
use Rattle.std.specs.Prelude.{◌≡◌, ℕ, ◌==◌, ◌&&◌, List, [], ◌∷◌, ◌++◌, length, Bool, false, ◌||◌, Option, Some, None, is_some, Result, Ok, Err, if◌then◌else◌, nat_le, position}
use Rattle.std.specs.List.{list_any}
use Rattle.std.specs.Str.{bytes_eq}
use Rattle.port_config.specs.declared.config.Config.{Config}
use Rattle.script_plan.specs.declared.fault.ScriptFault.{ScriptFault}
use Rattle.script_plan.specs.declared.fault.ScriptFault.TheVariants as fault
use Rattle.script_plan.specs.declared.step.Act.{Act}
use Rattle.script_plan.specs.declared.step.Act.TheVariants as act
use Rattle.script_plan.specs.Plan.{Plan}
use Rattle.script_plan.specs.Monitors.{has_died, monitor_count, oldest_monitor}
use Rattle.gateway_script.specs.declared.line_fault.LineFault.{LineFault}
use Rattle.gateway_script.specs.declared.line_fault.LineFault.TheVariants.{Bad, UnknownName, Repeated, Limit}
use Rattle.gateway_script.specs.declared.options.PortOption.{PortOption}
use Rattle.gateway_script.specs.declared.statement.Statement.{Statement}
use Rattle.gateway_script.specs.declared.statement.Statement.TheVariants.{Nothing, Process, Port, Journal, Save, Step, Die}
use Rattle.gateway_script.specs.declared.statement.Action.{Action}
use Rattle.gateway_script.specs.declared.statement.Action.TheVariants.{Command, File, Send, Control, Call, Close, Connect, SendClose, SendConnect, Link, Unlink, Monitor, Demonitor, Exit, Expect, Bytes}
use Rattle.gateway_script.specs.Lines.{Line, lines}
use Rattle.gateway_script.specs.LineFault.{fault_at}
use Rattle.gateway_script.specs.Options.{config_of}
use Rattle.gateway_script.specs.Forms.{statement_of}

infixl 10 ◌>>=◌
abbrev pub ◌>>=◌ : {A B : Type 0} → Result A LineFault → (A → Result B LineFault) → Result B LineFault
Ok x >>= f = f x
Err fault >>= f = Err fault

-- the value, or else this fault
abbrev pub or_fault : {A : Type 0} → LineFault → Option A → Result A LineFault
or_fault fault (Some x) = Ok x
or_fault fault None = Err fault

-- the plan of a script without lines
abbrev pub empty : Plan
empty = record { processes = []; ports = []; saves = []; journal = None; steps = [] }

-- ---- names

-- the place of the process of this name
abbrev pub process_named : Plan → List ℕ → Result ℕ LineFault
process_named plan name = or_fault UnknownName (position (λ p. bytes_eq p.name name) plan.processes)

-- the place of the port of this name
abbrev pub port_named : Plan → List ℕ → Result ℕ LineFault
port_named plan name = or_fault UnknownName (position (λ p. bytes_eq p.name name) plan.ports)

-- whether a process or a port has this name
abbrev pub is_declared : Plan → List ℕ → Bool
is_declared plan name = list_any (λ p. bytes_eq p.name name) plan.processes || list_any (λ p. bytes_eq p.name name) plan.ports

-- whether the file of this name is the one
abbrev pub names_file : List ℕ → Option (List ℕ) → Bool
names_file name (Some file) = bytes_eq file name
names_file name None = false

-- whether the journal or a save is written to the file of this name
abbrev pub is_written : Plan → List ℕ → Bool
is_written plan name = names_file name plan.journal || list_any (λ s. bytes_eq s.file name) plan.saves

-- whether the data that this process got from this port is saved
abbrev pub is_saved : Plan → ℕ → ℕ → Bool
is_saved plan process port = list_any (λ s. s.process == process && s.port == port) plan.saves

-- ---- declarations

-- a process is declared
abbrev pub process_said : Plan → ℕ → List ℕ → Result Plan LineFault
process_said plan line name =
    if is_declared plan name then Err Repeated
    else (if nat_le 32 (length plan.processes) then Err (Limit 1)
    else Ok (record plan { processes = plan.processes ++ record { line = line; name = name } ∷ [] }))

-- a port is declared, with its owner and its options found
abbrev pub port_declared : Plan → ℕ → List ℕ → ℕ → List ℕ → Config → Result Plan LineFault
port_declared plan line name owner driver config =
    if is_declared plan name then Err Repeated
    else (if nat_le 32 (length plan.ports) then Err (Limit 2)
    else Ok (record plan { ports = plan.ports ++ record { line = line; name = name; owner = owner; driver = driver; config = config } ∷ [] }))

unfoldable pub port_said : Plan → ℕ → List ℕ → List ℕ → List ℕ → List PortOption → Result Plan LineFault
port_said plan line name process driver options = process_named plan process >>= λ owner. (config_of options >>= λ config. port_declared plan line name owner driver config)

-- the journal is written to a file
abbrev pub journal_said : Plan → List ℕ → Result Plan LineFault
journal_said plan name =
    if is_some plan.journal || is_written plan name then Err Repeated
    else Ok (record plan { journal = Some name })

-- what a process got from a port is written to a file, with the two found
abbrev pub save_declared : Plan → ℕ → ℕ → ℕ → List ℕ → Result Plan LineFault
save_declared plan line process port name =
    if is_saved plan process port || is_written plan name then Err Repeated
    else Ok (record plan { saves = plan.saves ++ record { line = line; process = process; port = port; file = name } ∷ [] })

unfoldable pub save_said : Plan → ℕ → List ℕ → List ℕ → List ℕ → Result Plan LineFault
save_said plan line process port name = process_named plan process >>= λ process. (port_named plan port >>= λ port. save_declared plan line process port name)

-- ---- steps

-- what a process does at a port, by their places
abbrev pub act_at : Plan → ℕ → ℕ → Action → Result Act LineFault
act_at plan process port (Command bytes how) = Ok (act.Command port bytes how.force how.nosuspend)
act_at plan process port (File size name how) = Ok (act.File port size name how.force how.nosuspend)
act_at plan process port (Send bytes) = Ok (act.Send port bytes)
act_at plan process port (Control op bytes) = Ok (act.Control port op bytes)
act_at plan process port (Call op bytes) = Ok (act.Call port op bytes)
act_at plan process port Close = Ok (act.Close port)
act_at plan process port (Connect to) = process_named plan to >>= λ to. Ok (act.Connect port to)
act_at plan process port SendClose = Ok (act.SendClose port)
act_at plan process port (SendConnect to) = process_named plan to >>= λ to. Ok (act.SendConnect port to)
act_at plan process port Link = Ok (act.Link port)
act_at plan process port Unlink = Ok (act.Unlink port)
act_at plan process port Monitor = Ok (act.Monitor port (monitor_count process plan.steps))
act_at plan process port Demonitor = or_fault Bad (oldest_monitor process port plan.steps) >>= λ number. Ok (act.Demonitor port number)
act_at plan process port (Exit reason) = Ok (act.Exit port reason)
act_at plan process port (Expect count) = Ok (act.Expect port count)
act_at plan process port (Bytes count) = Ok (act.Bytes port count)

-- a step is made
abbrev pub step_made : Plan → ℕ → ℕ → Act → Result Plan LineFault
step_made plan line process act =
    if nat_le 131072 (length plan.steps) then Err (Limit 3)
    else Ok (record plan { steps = plan.steps ++ record { line = line; process = process; act = act } ∷ [] })

-- the place of the process of this name, if it hasn't died
unfoldable pub living_process : Plan → List ℕ → Result ℕ LineFault
living_process plan name = process_named plan name >>= λ process. if has_died process plan.steps then Err Bad else Ok process

-- a process does something at a port, if it hasn't died
unfoldable pub step_said : Plan → ℕ → List ℕ → List ℕ → Action → Result Plan LineFault
step_said plan line process port action = living_process plan process >>= λ process. (port_named plan port >>= λ port. (act_at plan process port action >>= step_made plan line process))

-- a process ends, if it hasn't died
unfoldable pub die_said : Plan → ℕ → List ℕ → List ℕ → Result Plan LineFault
die_said plan line process reason = living_process plan process >>= λ process. step_made plan line process (act.Die reason)

-- ---- lines

-- the plan with what a line of this number says
unfoldable pub said : Plan → ℕ → Statement → Result Plan LineFault
said plan line Nothing = Ok plan
said plan line (Process name) = process_said plan line name
said plan line (Port name process driver options) = port_said plan line name process driver options
said plan line (Journal name) = journal_said plan name
said plan line (Save process port name) = save_said plan line process port name
said plan line (Step process port action) = step_said plan line process port action
said plan line (Die process reason) = die_said plan line process reason

-- the plan with a line
unfoldable pub with_line : Plan → Line → Result Plan LineFault
with_line plan line = or_fault Bad (statement_of line.bytes) >>= said plan line.number

-- a script's reading goes on below a line, or ends there with its fault
abbrev pub below : ℕ → (Plan → Result Plan ScriptFault) → Result Plan LineFault → Result Plan ScriptFault
below number rest (Ok plan) = rest plan
below number rest (Err fault) = Err (fault_at number fault)

-- the plan with these lines, or the fault of the first faulty one
unfoldable pub with_lines : List Line → Plan → Result Plan ScriptFault
with_lines [] plan = Ok plan
with_lines (line ∷ rest) plan = below line.number (with_lines rest) (with_line plan line)

-- what the text says
abbrev pub script : List ℕ → Result Plan ScriptFault
script text = with_lines (lines text) empty

-- the fault is the one of a text that reads so. Want of memory tells nothing
abbrev pub IsFaultOf : Result Plan ScriptFault → ScriptFault → Type 0
IsFaultOf read (fault.BadLine line) = read ≡ Err (fault.BadLine line)
IsFaultOf read (fault.UnknownName line) = read ≡ Err (fault.UnknownName line)
IsFaultOf read (fault.Repeated line) = read ≡ Err (fault.Repeated line)
IsFaultOf read (fault.Limit line which) = read ≡ Err (fault.Limit line which)
IsFaultOf read fault.NoMemory = Unit {0}
