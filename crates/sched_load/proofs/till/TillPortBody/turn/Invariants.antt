use Rattle.std.proofs.Common.{◌≡◌}
use Rattle.sched_load.proofs.till.TillPortBody.turn.Given as goal

abbrev pub invariant-steps : goal.invariant-steps
invariant-steps g l = (l.self.port ≡ l.fn.self.port) × (l.fn.self.left ≡ 0 → l.self.left ≡ 0)
