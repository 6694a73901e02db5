use Rattle.ticket_account.proofs.Seats.{keep_names}
use Rattle.ticket_account.proofs.laws.bodies_keep_their_names.Goals as goal

pub returns : goal.returns
returns g c = keep_names _
