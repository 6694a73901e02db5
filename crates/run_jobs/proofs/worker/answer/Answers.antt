use Rattle.std.proofs.Common.{ap}
use Rattle.port_model.specs.declared.signal.Sender.TheVariants.{Worker}
use Rattle.process_end.specs.port_lanes.port_history.Laws.{may_send}
use Rattle.run_jobs.proofs.worker.answer.Goals as goal

pub tell-requires-clause-sender : goal.tell-requires-clause-sender
tell-requires-clause-sender g c = (Worker c.requires.ends.0, c.requires.ends.1, ap (λ t. may_send (Worker c.requires.ends.0) t.signal) c.task_of.ensures)
