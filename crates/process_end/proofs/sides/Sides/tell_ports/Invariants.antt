use Rattle.std.proofs.Common.{◌≡◌, ◌≤◌, length}
use Rattle.process_end.specs.Ports.{AllFree}
use Rattle.process_end.specs.Ended.{HasTold}
use Rattle.process_end.proofs.sides.Sides.tell_ports.Given as goal

abbrev pub invariant-loop : goal.invariant-loop
invariant-loop g l = record {
  told : HasTold l.reason l.fn.self l.self;
  free : AllFree l.self;
  at : l.self.told ≡ l.counter;
  ends : l.end ≡ length l.self.lanes;
  below : l.counter ≤ l.end;
}
