use Rattle.run_lanes.proofs.Ends.{each_is_taken}
use Rattle.run_lanes.proofs.laws.all_of_each_end_is_taken.Goals as goal

pub returns : goal.returns
returns g c = each_is_taken
