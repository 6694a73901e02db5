use Rattle.closed_ports.proofs.Signalled.{mail-of-histories, signals-have-rows}
use Rattle.closed_ports.proofs.laws.accepted_signals_have_rows.Goals as goal

pub returns-clause-signals : goal.returns-clause-signals
returns-clause-signals c = signals-have-rows c.each_sender_has_an_end.ensures.ends

pub returns-clause-mail : goal.returns-clause-mail
returns-clause-mail c = mail-of-histories
