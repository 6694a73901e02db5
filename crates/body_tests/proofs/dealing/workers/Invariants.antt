use Rattle.std.proofs.Common.{vec_len}
use Rattle.body_tests.proofs.dealing.workers.Given as goal
use Rattle.body_tests.specs.Beside.{AreOfWorkers}

abbrev pub decreases-workers : goal.decreases-workers
decreases-workers l = vec_len l.all

abbrev pub invariant-workers : goal.invariant-workers
invariant-workers l = AreOfWorkers l.all.items
