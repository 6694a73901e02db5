-- What a script says.
use Rattle.std.specs.Prelude.{◌≡◌, ℕ, ◌<◌, ◌≤◌, List, length, All, true, Option}
use Rattle.port_config.specs.Config.{is_config}
use Rattle.script_plan.specs.declared.decl.ProcessDecl.{ProcessDecl}
use Rattle.script_plan.specs.declared.decl.PortDecl.{PortDecl}
use Rattle.script_plan.specs.declared.decl.SaveDecl.{SaveDecl}
use Rattle.script_plan.specs.declared.script.ScriptParts.{ScriptParts}
use Rattle.script_plan.specs.declared.step.Step.{Step}
use Rattle.script_plan.specs.declared.step.Act.{Act}
use Rattle.script_plan.specs.declared.step.Act.TheVariants.{Command, File, Send, Control, Call, Close, Connect, SendClose, SendConnect, Link, Unlink, Monitor, Demonitor, Exit, Expect, Bytes, Die}
use Rattle.script_plan.specs.Monitors.{IsNumbered}

-- the processes, the ports, the saves and the steps, each in the order of the script, and the name of the file for the journal
pub record Plan : Type 0 where
  pub processes : List ProcessDecl
  pub ports : List PortDecl
  pub saves : List SaveDecl
  pub journal : Option (List ℕ)
  pub steps : List Step

abbrev pub plan_of : ScriptParts → Plan
plan_of parts = record {
  processes = parts.processes.items;
  ports = parts.ports.items;
  saves = parts.saves.items;
  journal = parts.journal;
  steps = parts.steps.items;
}

-- the places that an act names are below these counts of processes and ports, and a file is cut into pieces of 1 to 262,143 bytes
abbrev pub IsWithin : ℕ → ℕ → Act → Type 0
IsWithin processes ports (Command port bytes force nosuspend) = port < ports
IsWithin processes ports (File port size file force nosuspend) = (port < ports) × (1 ≤ size) × (size ≤ 262143)
IsWithin processes ports (Send port bytes) = port < ports
IsWithin processes ports (Control port op bytes) = port < ports
IsWithin processes ports (Call port op bytes) = port < ports
IsWithin processes ports (Close port) = port < ports
IsWithin processes ports (Connect port to) = (port < ports) × (to < processes)
IsWithin processes ports (SendClose port) = port < ports
IsWithin processes ports (SendConnect port to) = (port < ports) × (to < processes)
IsWithin processes ports (Link port) = port < ports
IsWithin processes ports (Unlink port) = port < ports
IsWithin processes ports (Monitor port number) = port < ports
IsWithin processes ports (Demonitor port number) = port < ports
IsWithin processes ports (Exit port reason) = port < ports
IsWithin processes ports (Expect port count) = port < ports
IsWithin processes ports (Bytes port count) = port < ports
IsWithin processes ports (Die reason) = Unit {0}

-- the process and the port of a save are below these counts
abbrev pub SaveWithin : ℕ → ℕ → SaveDecl → Type 0
SaveWithin processes ports save = (save.process < processes) × (save.port < ports)

-- what holds of every script: it is within its limits, what it names by a place is declared, the options of each port lie in their ranges, and each process begins the
-- monitors that its steps name by a number
pub record IsPlan (plan : Plan) : Type 0 where
  pub few_processes : length plan.processes ≤ 32
  pub few_ports : length plan.ports ≤ 32
  pub few_steps : length plan.steps ≤ 131072
  pub owners : All (λ p. p.owner < length plan.processes) plan.ports
  pub configs : All (λ p. is_config p.config ≡ true) plan.ports
  pub saved : All (λ s. SaveWithin (length plan.processes) (length plan.ports) s) plan.saves
  pub senders : All (λ s. s.process < length plan.processes) plan.steps
  pub named : All (λ s. IsWithin (length plan.processes) (length plan.ports) s.act) plan.steps
  pub numbered : IsNumbered plan.steps
