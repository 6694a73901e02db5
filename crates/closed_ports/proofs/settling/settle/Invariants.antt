use Rattle.closed_ports.specs.Settling.{IsSamePort}
use Rattle.closed_ports.proofs.settling.settle.Given as goal

abbrev pub invariant-loop : goal.invariant-loop
invariant-loop g l = (goal.iterator-loop g).can_next l.iterator' × (goal.iterator-loop g).is_finite l.iterator' × IsSamePort l.fn.body l.body
