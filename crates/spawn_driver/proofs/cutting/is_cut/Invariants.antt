use Rattle.std.proofs.Common.{◌≡◌, drop}
use Rattle.driver_model.specs.Calls.{cut_of}
use Rattle.driver_model.specs.Spawn.{is_cut}
use Rattle.spawn_driver.proofs.cutting.is_cut.Given as goal

abbrev pub invariant-loop-effect : goal.invariant-loop-effect
invariant-loop-effect l = is_cut (cut_of l.row) l.size ≡ is_cut (cut_of (drop l.effect-index l.row)) l.left
