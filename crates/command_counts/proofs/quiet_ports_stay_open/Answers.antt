use Rattle.command_counts.proofs.Staying.{stay-open}
use Rattle.command_counts.proofs.quiet_ports_stay_open.Goals as goal

pub returns : goal.returns
returns c = stay-open
