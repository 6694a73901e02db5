use Rattle.task_queue.proofs.Told.{prefix_always, left_always, ended_prefix_always, ended_left_always}
use Rattle.task_queue.proofs.laws.prefix_at_every_moment.Goals as goal

pub returns-clause-taken : goal.returns-clause-taken
returns-clause-taken g c = prefix_always g.T.Fits.fits

pub returns-clause-left : goal.returns-clause-left
returns-clause-left g c = left_always g.T.Fits.fits

pub returns-clause-ended : goal.returns-clause-ended
returns-clause-ended g c = ended_prefix_always g.T.Fits.fits

pub returns-clause-ended_left : goal.returns-clause-ended_left
returns-clause-ended_left g c = ended_left_always g.T.Fits.fits
