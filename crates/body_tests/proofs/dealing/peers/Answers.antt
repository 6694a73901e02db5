use Rattle.body_tests.proofs.Dealt.{fewer_processes}
use Rattle.body_tests.proofs.dealing.peers.Goals as goal

pub processes-preserved : goal.processes-preserved
processes-preserved c = fewer_processes _ _ _ c.pop.ensures.rest c.processes.invariant
