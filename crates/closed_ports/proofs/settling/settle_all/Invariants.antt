use Rattle.closed_ports.proofs.Settled.{SettleBelow}
use Rattle.closed_ports.proofs.settling.settle_all.Given as goal

abbrev pub invariant-ports : goal.invariant-ports
invariant-ports g l = SettleBelow l.port l.fn.bodies.items l.bodies.items l.all
