use Rattle.std.proofs.Common.{◌≡◌, ◌++◌, length, drop, true}
use Rattle.std.specs.Prelude.{map}
use Rattle.io_vector.specs.declared.flag.Flag.TheVariants.{Plain}
use Rattle.packet_framing.specs.Lines.{message}
use Rattle.driver_model.specs.Calls.{cut_of}
use Rattle.driver_model.specs.Spawn.{is_cut, pieces}
use Rattle.spawn_driver.proofs.cutting.pieces.Given as goal

abbrev pub invariant-loop-effect : goal.invariant-loop-effect
invariant-loop-effect l = record {
  cut : is_cut (cut_of (drop l.effect-index l.row)) (length l.left) ≡ true;
  whole : map (message Plain) (pieces (cut_of l.row) l.bytes) ≡ l.messages.items ++ map (message Plain) (pieces (cut_of (drop l.effect-index l.row)) l.left);
}
