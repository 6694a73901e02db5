use Rattle.std.proofs.Common.{map}
use Rattle.closed_ports.specs.Laws.{TakeColumnsIn}
use Rattle.closed_ports.proofs.closing.take_in_columns.Given as goal

-- the columns so far were taken in
abbrev pub invariant-loop-ends : goal.invariant-loop-ends
invariant-loop-ends g l = TakeColumnsIn l.initial.bodies.items (map (λ c. c.items) l.yielded) l.bodies.items
