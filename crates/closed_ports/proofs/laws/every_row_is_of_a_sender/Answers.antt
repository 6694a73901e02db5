use Rattle.closed_ports.proofs.Senders.{every-row-is-of-an-end}
use Rattle.closed_ports.proofs.laws.every_row_is_of_a_sender.Goals as goal

pub returns : goal.returns
returns c = every-row-is-of-an-end
