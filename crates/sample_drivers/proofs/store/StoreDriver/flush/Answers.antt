use Rattle.sample_drivers.proofs.Queued.{store_flushed}
use Rattle.sample_drivers.proofs.store.StoreDriver.flush.Goals as goal

pub returns-clause-did : goal.returns-clause-did
returns-clause-did c = store_flushed _ _ _ _ _ c.join_queue.ensures.same c.in_ok-all.ensures.ok c.in_ok-send.ensures.ok c.clear_queue.ensures
