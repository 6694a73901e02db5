use Rattle.task_queue.proofs.Keeps.{begins, opens, splits, puts, takes, takes_in}
use Rattle.task_queue.proofs.laws.kept_by_each_step.Goals as goal

pub returns-clause-new : goal.returns-clause-new
returns-clause-new g c pass k = (begins g.T.Fits.fits, opens g.T.Fits.fits pass k)

pub returns-clause-split : goal.returns-clause-split
returns-clause-split g c = splits g.T.Fits.fits

pub returns-clause-put : goal.returns-clause-put
returns-clause-put g c = puts g.T.Fits.fits

pub returns-clause-take : goal.returns-clause-take
returns-clause-take g c pass v may x items views rule at =
    let step = takes g.T.Fits.fits pass v may x items views rule at in
    (step.0, step.1, step.2.0)

pub returns-clause-take_in : goal.returns-clause-take_in
returns-clause-take_in g c = takes_in g.T.Fits.fits
