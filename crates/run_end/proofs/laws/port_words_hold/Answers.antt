use Rattle.run_end.proofs.Tells.{run_ports}
use Rattle.run_end.proofs.laws.port_words_hold.Goals as goal

pub returns : goal.returns
returns c = run_ports
