use Rattle.std.proofs.lemmas.Result.{on_ok_weaker}
use Rattle.sample_drivers.proofs.Jobs.{digest_told}
use Rattle.sample_drivers.proofs.digest.DigestDriver.ready_async.Goals as goal

pub returns-clause-did : goal.returns-clause-did
returns-clause-did c = on_ok_weaker c.send.result (λ sent. digest_told _ _ _ _ _ sent) c.send.ensures.ok
