use Rattle.std.proofs.Common.{◌≡◌, ◌++◌, take}
use Rattle.std.specs.List.{flat_map}
use Rattle.journal_text.specs.Ports.{port_lines}
use Rattle.journal_text.specs.Books.{ended}
use Rattle.journal_text.proofs.printing_ports.put_ports.Given as goal

abbrev pub invariant-loop-port : goal.invariant-loop-port
invariant-loop-port l = l.out.items ≡ l.fn.out.items ++ flat_map (λ port. flat_map ended (port_lines port)) (take l.port-index l.ports)
