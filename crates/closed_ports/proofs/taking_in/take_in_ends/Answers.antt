use Rattle.std.proofs.Common.{◌<◌, length, sym, ap, ◌∙◌, arith}
use Rattle.closed_ports.proofs.Places.{rest-more, rest-first, rest-within}
use Rattle.closed_ports.proofs.TakingIn.{take-more}
use Rattle.closed_ports.proofs.taking_in.take_in_ends.Goals as goal

pub take_in_at-requires-clause-lane : goal.take_in_at-requires-clause-lane
take_in_at-requires-clause-lane g c = λ v.
    let inv = c.ends.invariant in
    let rest = c.ends.end-iterator.rest in
    let steps = c.in-Some.ensures.steps in
    let within : c.ends.port < length c.args.ends.items = rest-within c.ends.port c.args.ends.items rest.items c.next.new.self.rest.items c.in-Some.end rest.len inv.1 steps.0 in
    let is = rest-first c.ends.port c.args.ends.items rest.items c.next.new.self.rest.items c.in-Some.end rest.len within inv.1 steps.0 in
    let many = c.requires.many in
    ap (λ e. e.lane) (is c.in-Some.end) ∙ (c.requires.each c.ends.port v c.in-Some.end (omega arith) ∙ sym (ap (λ w. w.lane_port.lane.lane) (inv.0.above c.ends.port v (omega arith))))

pub ends-preserved : goal.ends-preserved
ends-preserved g c =
    let inv = c.ends.invariant in
    let rest = c.ends.end-iterator.rest in
    let after = c.next.new.self.rest in
    let steps = c.in-Some.ensures.steps in
    let within : c.ends.port < length c.args.ends.items = rest-within c.ends.port c.args.ends.items rest.items after.items c.in-Some.end rest.len inv.1 steps.0 in
    let many = c.requires.many in (
      take-more c.ends.port c.args.bodies.now.items c.ends.bodies.items c.take_in_at.new.bodies.items c.args.ends.items c.in-Some.end (omega arith)
          (rest-first c.ends.port c.args.ends.items rest.items after.items c.in-Some.end rest.len within inv.1 steps.0) inv.0 c.take_in_at.ensures,
      rest-more c.ends.port c.args.ends.items rest.items after.items c.in-Some.end rest.len after.len within inv.1 steps.0 steps.1,
      omega arith,
    )
