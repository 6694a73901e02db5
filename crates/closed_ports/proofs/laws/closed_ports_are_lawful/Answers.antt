use Rattle.closed_ports.proofs.Workers.{all-lawful}
use Rattle.closed_ports.proofs.laws.closed_ports_are_lawful.Goals as goal

pub returns : goal.returns
returns c = all-lawful c.each_sender_has_an_end.ensures.ends c.each_sender_has_an_end.ensures.senders
