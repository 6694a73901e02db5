use Rattle.closed_ports.proofs.Sent.{rows-are-sent}
use Rattle.closed_ports.proofs.laws.settled_rows_are_what_was_sent.Goals as goal

pub returns : goal.returns
returns c = rows-are-sent
