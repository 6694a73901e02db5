use Rattle.script_load.proofs.Plans.{counts-all}
use Rattle.script_load.proofs.laws.each_wait_counts_the_commands.Goals as goal

pub returns : goal.returns
returns c = counts-all
