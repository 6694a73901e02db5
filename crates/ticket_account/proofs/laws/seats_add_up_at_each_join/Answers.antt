use Rattle.ticket_account.proofs.Sums.{homes_add_up, seats_add_up, ends_add_up}
use Rattle.ticket_account.proofs.laws.seats_add_up_at_each_join.Goals as goal

pub returns-clause-homes : goal.returns-clause-homes
returns-clause-homes g c = homes_add_up _

pub returns-clause-seats : goal.returns-clause-seats
returns-clause-seats g c = seats_add_up

pub returns-clause-ends : goal.returns-clause-ends
returns-clause-ends g c = ends_add_up
