use Rattle.std.proofs.Common.{◌≡◌, take, map}
use Rattle.script_input.specs.Names.{port_name}
use Rattle.script_input.proofs.naming.port_names.Given as goal

-- the names of the ports so far
abbrev pub invariant-loop-port : goal.invariant-loop-port
invariant-loop-port l = l.names.items ≡ map port_name (take l.port-index l.ports)
