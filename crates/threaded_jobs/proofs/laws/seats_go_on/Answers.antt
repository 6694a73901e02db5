use Rattle.threaded_jobs.proofs.Joined.{seats_went}
use Rattle.threaded_jobs.proofs.laws.seats_go_on.Goals as goal

pub returns : goal.returns
returns g c = λ old ran. seats_went g.S.PollSet.faults g.S.PollSet.answered old c.args.jobs.now ran
