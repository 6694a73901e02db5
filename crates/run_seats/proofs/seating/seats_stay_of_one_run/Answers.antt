use Rattle.run_seats.proofs.OneRun.{stay_of_one_run}
use Rattle.run_seats.proofs.seating.seats_stay_of_one_run.Goals as goal

pub returns : goal.returns
returns g c = stay_of_one_run g.S.PollSet.faults g.S.PollSet.answered c.args.run.now
