use Rattle.task_queue.proofs.Keeps.{begins, opens}
use Rattle.task_queue.proofs.channel.open.Goals as goal

pub with_rule-requires : goal.with_rule-requires
with_rule-requires g c = begins g.T.Fits.fits

pub another-sender-requires-clause-rule : goal.another-sender-requires-clause-rule
another-sender-requires-clause-rule g c =
    rw (c.in_ok-queue.ensures.2, c.requires) (opens g.T.Fits.fits c.in_ok-queue.taker.id c.args.key.now.value)
