use Rattle.std.proofs.Common.{refl}
use Rattle.body_tests.proofs.OnePort.{signalled_one}
use Rattle.body_tests.proofs.peers.SendingProcess.put_ask.Goals as goal

pub invariant_of-self : goal.invariant_of-self
invariant_of-self g c = record { one = signalled_one _ _ _ _ c.signal.ensures refl c.args.self.now.one }
