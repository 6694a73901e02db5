use Rattle.command_counts.proofs.Counting.{counted}
use Rattle.command_counts.proofs.each_command_is_counted.Goals as goal

pub returns : goal.returns
returns c = counted
