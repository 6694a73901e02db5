use Rattle.std.proofs.Common.{ap}
use Rattle.task_queue.proofs.Keeps.{takes_in}
use Rattle.task_queue.proofs.take_end.TakeEnd.take_in.Goals as goal

pub absorb-requires-clause-rule : goal.absorb-requires-clause-rule
absorb-requires-clause-rule g c =
    takes_in g.T.Fits.fits _ _ _ _ (ap (λ h. h.takes) c.self.invariant.1) (ap (λ h. h.sends) c.into_pass-pass.ensures.hand)
