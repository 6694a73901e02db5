use Rattle.std.proofs.Common.{◌≡◌, ◌-◌}
use Rattle.journal_text.specs.ReadingBooks.{lines_of, ports_at}
use Rattle.journal_text.specs.declared.reader.TheConstants.{MAX_PORTS}
use Rattle.journal_text.proofs.LineSteps.{with_ports_before}
use Rattle.journal_text.proofs.reader.ports.Given as goal

abbrev pub invariant-loop : goal.invariant-loop
invariant-loop l = with_ports_before l.ports.items (ports_at (MAX_PORTS - l.counter) l.names (lines_of l.rest)) ≡ ports_at MAX_PORTS l.names (lines_of l.bytes)
