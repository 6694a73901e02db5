use Rattle.std.proofs.Common.{refl}
use Rattle.body_tests.proofs.OnePort.{commanded_one}
use Rattle.body_tests.proofs.peers.SendingProcess.put.Goals as goal

pub returns : goal.returns
returns g c = commanded_one _ _ _ c.command.ensures refl c.args.self.one
