use Rattle.std.proofs.lemmas.Result.{IfOk-weaker}
use Rattle.sample_drivers.proofs.Queued.{store_controlled}
use Rattle.sample_drivers.proofs.store.StoreDriver.control.Goals as goal

pub returns-clause-did : goal.returns-clause-did
returns-clause-did c = IfOk-weaker c.control.result _ _ (λ answer answers. store_controlled _ _ _ _ answer answers) c.control.ensures.answers
