use Rattle.std.proofs.Common.{ap}
use Rattle.task_queue.proofs.Keeps.{takes, looks}
use Rattle.task_queue.proofs.Told.{next_told, fits_told, all_told, order_told}
use Rattle.task_queue.proofs.take_end.TakeEnd.take.Goals as goal

pub pop_as-requires-clause-rule : goal.pop_as-requires-clause-rule
pop_as-requires-clause-rule g c =
    (takes g.T.Fits.fits _ _ (ap (λ h. h.takes) c.self.invariant.1), looks g.T.Fits.fits _ _)

pub returns-clause-next : goal.returns-clause-next
returns-clause-next g c =
    rw (← c.self.view_is) (next_told g.T.Fits.fits c.self.inside.channel.value.queue.web _ _ _ _ _ c.self.invariant.1 c.pop_as.ensures.rule)

pub returns-clause-fits : goal.returns-clause-fits
returns-clause-fits g c =
    rw (← c.self.view_is) (fits_told g.T.Fits.fits c.self.inside.channel.value.queue.web _ _ _ _ _ c.self.invariant.1 c.pop_as.ensures.rule)

pub returns-clause-all : goal.returns-clause-all
returns-clause-all g c =
    rw (← c.self.view_is) (all_told g.T.Fits.fits c.self.inside.channel.value.queue.web _ _ _ _ _ c.self.invariant.1 c.pop_as.ensures.rule)

pub returns-clause-order : goal.returns-clause-order
returns-clause-order g c =
    order_told g.T.Fits.fits c.self.inside.channel.value.queue.web _ _ _ _ _ c.self.invariant.1 c.pop_as.ensures.rule
