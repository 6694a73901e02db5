use Rattle.ticket_account.proofs.Sums.{new_seat_is_unused, new_account, served_account, joined_account, joined_job_account, each_once}
use Rattle.ticket_account.proofs.laws.each_ticket_once_at_the_end.Goals as goal

pub returns-clause-served : goal.returns-clause-served
returns-clause-served g c = served_account _

pub returns-clause-once : goal.returns-clause-once
returns-clause-once g c = each_once _

pub returns-clause-seats : goal.returns-clause-seats
returns-clause-seats g c = new_seat_is_unused

pub returns-clause-begins : goal.returns-clause-begins
returns-clause-begins g c = new_account _

pub returns-clause-joined : goal.returns-clause-joined
returns-clause-joined g c = joined_account _

pub returns-clause-jobs : goal.returns-clause-jobs
returns-clause-jobs g c = joined_job_account _
