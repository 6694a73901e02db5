use Rattle.process_end.proofs.Stats.{shown-rise}
use Rattle.process_end.proofs.laws.shown_stats_rise.Goals as goal

pub returns : goal.returns
returns c = shown-rise
