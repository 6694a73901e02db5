use Rattle.std.proofs.Common.{[], arith}
use Rattle.process_job.proofs.Seating.{seats_none}
use Rattle.process_job.proofs.ending.end_process.Goals as goal

pub returns-in_default-clause-seats : goal.returns-in_default-clause-seats
returns-in_default-clause-seats g c = ([], seats_none c.args.seats.now c.requires.homes, omega arith)
