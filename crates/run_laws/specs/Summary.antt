-- The summary of a load, as its script alone tells it.
use Rattle.std.specs.Prelude.{ℕ, ◌==◌, List, [], ◌∷◌, ◌++◌, length, sum_by, codes, if◌then◌else◌}
use Rattle.std.specs.Fmt.{decimal}
use Rattle.std.specs.List.{flat_map}
use Rattle.script_plan.specs.declared.step.Step.{Step}
use Rattle.script_plan.specs.declared.step.Act.{Act}
use Rattle.script_plan.specs.declared.step.Act.TheVariants.{Command}
use Rattle.script_load.specs.Load.{commands_to, load_plan, name, ports}

-- how many bytes a command to this port has
abbrev pub bytes_to : ℕ → Act → ℕ
bytes_to port (Command other bytes force nosuspend) = if other == port then length bytes else 0
bytes_to port act = 0

-- how many bytes the commands to a port have together
abbrev pub command_bytes : ℕ → List Step → ℕ
command_bytes port steps = sum_by (λ s. bytes_to port s.act) steps

-- and how many those to all ports
abbrev pub all_bytes : List Step → ℕ
all_bytes steps = sum_by (λ port. command_bytes port steps) ports

-- the line of a port: how many of the steps are commands to it, and how many bytes these have
abbrev pub port_line : List Step → ℕ → List ℕ
port_line steps port =
    codes "port " ++ name 113 port ++ codes " commands=" ++ decimal (commands_to port steps) ++ codes " bytes=" ++ decimal (command_bytes port steps) ++ 10 ∷ []

-- the first line: all 16,000 commands are handled, and none comes late
abbrev pub first_line : ℕ → List Step → List ℕ
first_line number steps =
    codes "load number=" ++ decimal number ++ codes " commands=" ++ decimal 16000 ++ codes " late=" ++ decimal 0 ++ codes " bytes=" ++ decimal (all_bytes steps) ++ 10 ∷ []

-- the summary of the load of a number
abbrev pub load_summary : ℕ → List ℕ
load_summary number = first_line number (load_plan number).steps ++ flat_map (port_line (load_plan number).steps) ports
