use Rattle.std.proofs.Common.{◌<◌, length, sym, ap, ◌∙◌, arith}
use Rattle.run_lanes.proofs.Places.{rest_more, rest_first, rest_within}
use Rattle.run_lanes.proofs.TakingIn.{takes_more}
use Rattle.run_lanes.proofs.taking_in.take_each_in.Goals as goal

pub take_in_at-requires-clause-lane : goal.take_in_at-requires-clause-lane
take_in_at-requires-clause-lane g c = λ t.
    let inv = c.ends.invariant in
    let rest = c.ends.end-iterator.rest in
    let steps = c.in-Some.ensures.steps in
    let within : c.ends.lane < length c.args.ends.items = rest_within c.ends.lane c.args.ends.items rest.items c.next.new.self.rest.items c.in-Some.end rest.len inv.1 steps.0 in
    let is = rest_first c.ends.lane c.args.ends.items rest.items c.next.new.self.rest.items c.in-Some.end rest.len within inv.1 steps.0 in
    let many = c.requires.many in
    ap (λ e. e.lane) (is c.in-Some.end) ∙ c.requires.each c.ends.lane t c.in-Some.end (omega arith) ∙ sym (ap (λ u. u.lane) (inv.0.above c.ends.lane t (omega arith)))

pub ends-preserved : goal.ends-preserved
ends-preserved g c =
    let inv = c.ends.invariant in
    let rest = c.ends.end-iterator.rest in
    let after = c.next.new.self.rest in
    let steps = c.in-Some.ensures.steps in
    let within : c.ends.lane < length c.args.ends.items = rest_within c.ends.lane c.args.ends.items rest.items after.items c.in-Some.end rest.len inv.1 steps.0 in
    let many = c.requires.many in (
      takes_more c.ends.lane c.args.takers.now.items c.ends.takers.items c.take_in_at.new.takers.items c.args.ends.items c.in-Some.end (omega arith)
          (rest_first c.ends.lane c.args.ends.items rest.items after.items c.in-Some.end rest.len within inv.1 steps.0) inv.0 c.take_in_at.ensures,
      rest_more c.ends.lane c.args.ends.items rest.items after.items c.in-Some.end rest.len after.len within inv.1 steps.0 steps.1,
      omega arith,
    )
