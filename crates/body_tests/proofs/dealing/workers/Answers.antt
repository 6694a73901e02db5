use Rattle.body_tests.proofs.Dealt.{fewer_workers}
use Rattle.body_tests.proofs.dealing.workers.Goals as goal

pub workers-preserved : goal.workers-preserved
workers-preserved c = fewer_workers _ _ _ c.pop.ensures.rest c.workers.invariant
