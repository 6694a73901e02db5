use Rattle.std.proofs.Common.{length}
use Rattle.crowd_tests.proofs.taking.Taker.resume_all.Given as goal

abbrev pub decreases-loop-process : goal.decreases-loop-process
decreases-loop-process g l = length l.self.listed.items
