use Rattle.std.proofs.Common.{vec_len}
use Rattle.body_tests.proofs.dealing.peers.Given as goal
use Rattle.body_tests.specs.Beside.{CanServeEach}

abbrev pub decreases-processes : goal.decreases-processes
decreases-processes l = vec_len l.all

abbrev pub invariant-processes : goal.invariant-processes
invariant-processes l = CanServeEach l.all.items
