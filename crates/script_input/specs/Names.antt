-- What is kept of a script beside what is run.
use Rattle.std.specs.Prelude.{◌≡◌, map}
use Rattle.script_plan.specs.declared.decl.PortDecl.{PortDecl}
use Rattle.script_plan.specs.Plan.{Plan}
use Rattle.script_input.specs.declared.input.PortName.{PortName}
use Rattle.script_input.specs.declared.input.RunNames.{RunNames}
use Rattle.script_input.specs.declared.input.RunWrites.{RunWrites}

-- a port as it is declared
abbrev pub port_name : PortDecl → PortName
port_name port = record { name = port.name; driver = port.driver; owner = port.owner }

-- the names are those of the script, in its order
pub record AreNamesOf (plan : Plan) (names : RunNames) : Type 0 where
  pub processes : names.processes.items ≡ map (λ p. p.name) plan.processes
  pub ports : names.ports.items ≡ map port_name plan.ports

-- what is written is what the script says
pub record AreWritesOf (plan : Plan) (writes : RunWrites) : Type 0 where
  pub saves : writes.saves.items ≡ plan.saves
  pub journal : writes.journal ≡ plan.journal
