use Rattle.std.proofs.Common.{arith, ◌+◌, sym, ap, ◌∙◌}
use Rattle.process_end.proofs.Gone.{told-one}
use Rattle.process_end.proofs.sides.Sides.tell_ports.Goals as goal

pub loop-preserved : goal.loop-preserved
loop-preserved g c = record {
  told = told-one c.args.reason.now c.args.self.now c.loop.self c.tell_next.new.self c.loop.invariant.told c.in_ok-tell_next.ensures.told;
  free = c.in_ok-tell_next.ensures.free;
  at = c.in_ok-tell_next.ensures.told.1.counts ∙ ap (λ n. n + 1) c.loop.invariant.at;
  ends = c.loop.invariant.ends ∙ sym c.in_ok-tell_next.ensures.told.1.made.touched.many.0;
  below = let test = c.loop-test.true in omega arith;
}
