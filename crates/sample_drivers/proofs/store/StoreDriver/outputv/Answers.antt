use Rattle.sample_drivers.proofs.Queued.{store_queued}
use Rattle.sample_drivers.proofs.store.StoreDriver.outputv.Goals as goal

pub returns-in-Ok-clause-did : goal.returns-in-Ok-clause-did
returns-in-Ok-clause-did c = store_queued _ _ _ c.in-Ok.ensures.ok
