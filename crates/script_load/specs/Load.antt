-- The script of the load generator.
use Rattle.std.specs.Prelude.{ℕ, Bool, zero, suc, ◌+◌, ◌*◌, ◌/◌, ◌%◌, ◌^◌, ◌==◌, List, [], ◌∷◌, ◌++◌, map, min, take, drop, replicate, false, None, count_by, nat_lt, if◌then◌else◌, codes}
use Rattle.std.specs.List.{flat_map}
use Rattle.port_config.specs.Config.{plain}
use Rattle.script_plan.specs.declared.decl.ProcessDecl.{ProcessDecl}
use Rattle.script_plan.specs.declared.decl.PortDecl.{PortDecl}
use Rattle.script_plan.specs.declared.step.Step.{Step}
use Rattle.script_plan.specs.declared.step.Act.{Act}
use Rattle.script_plan.specs.declared.step.Act.TheVariants.{Command, Expect}
use Rattle.script_plan.specs.Plan.{Plan}

-- the x behind this one
abbrev pub next : ℕ → ℕ
next x = (x * 6364136223846793005 + 1442695040888963407) % 2 ^ 64

-- so many x's behind this one
unfoldable pub values : ℕ → ℕ → List ℕ
values zero x = []
values (suc n) x = next x ∷ values n (next x)

-- the port to which the command of an x goes
abbrev pub port_of : ℕ → ℕ
port_of x = (x / 2 ^ 33) % 4

-- the bytes of the command of an x
abbrev pub bytes_of : ℕ → ℕ → List ℕ
bytes_of process x = replicate (1 + (x / 2 ^ 40) % 64) (97 + process)

-- the commands of a process, from this line on
abbrev pub commands : ℕ → ℕ → List ℕ → List Step
commands line process [] = []
commands line process (x ∷ xs) = record { line = line; process = process; act = Command (port_of x) (bytes_of process x) false false } ∷ commands (line + 1) process xs

-- how many commands go to a port
abbrev pub command_count : ℕ → List ℕ → ℕ
command_count port xs = count_by (λ x. port_of x == port) xs

-- the first four processes wait for what their own ports send
abbrev pub waits : ℕ → ℕ → List ℕ → List Step
waits line process xs = if nat_lt process 4 then record { line = line; process = process; act = Expect process (command_count process xs) } ∷ [] else []

-- the line of the first step of a process: 8 processes and 4 ports come before the steps, and 2,000 commands of each process before it
abbrev pub first_line : ℕ → ℕ
first_line process = 13 + 2000 * process + min process 4

-- the steps of a process, where these are the x's of all commands
abbrev pub steps_of : List ℕ → ℕ → List Step
steps_of xs process =
    commands (first_line process) process (take 2000 (drop (2000 * process) xs)) ++ waits (first_line process + 2000) process xs

abbrev pub processes : List ℕ
processes = 0 ∷ 1 ∷ 2 ∷ 3 ∷ 4 ∷ 5 ∷ 6 ∷ 7 ∷ []

abbrev pub ports : List ℕ
ports = 0 ∷ 1 ∷ 2 ∷ 3 ∷ []

-- a letter and a digit
abbrev pub name : ℕ → ℕ → List ℕ
name letter number = letter ∷ (48 + number) ∷ []

abbrev pub process_of : ℕ → ProcessDecl
process_of number = record { line = number + 1; name = name 97 number }

abbrev pub port_with : ℕ → PortDecl
port_with number = record { line = number + 9; name = name 113 number; owner = number; driver = codes "echo"; config = plain }

-- the script of this number
unfoldable pub load_plan : ℕ → Plan
load_plan number = record {
  processes = map process_of processes;
  ports = map port_with ports;
  saves = [];
  journal = None;
  steps = flat_map (steps_of (values 16000 number)) processes;
}

-- whether the act is a command to this port
abbrev pub goes_to : ℕ → Act → Bool
goes_to port (Command other bytes force nosuspend) = other == port
goes_to port _ = false

-- how many of the steps are commands to a port
abbrev pub commands_to : ℕ → List Step → ℕ
commands_to port steps = count_by (λ s. goes_to port s.act) steps
