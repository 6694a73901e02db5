use Rattle.std.proofs.Common.{◌+◌, length, ap, arith}
use Rattle.port_body.specs.LanePort.{LanePortView}
use Rattle.port_body.proofs.Same.{lane_port_trans}
use Rattle.port_body.proofs.lane_port.LanePort.settle.Goals as goal

pub settle_rest-requires-clause-room : goal.settle_rest-requires-clause-room
settle_rest-requires-clause-room g c =
    let one = c.in_ok-settle_one.ensures.settles in
    let left = ap (λ (v : LanePortView). length v.waiting.items) one.rest in
    let before = c.requires.room in
    let enough = one.room (2 + length c.args.self.now.waiting.items) (omega (arith, before)) in
    omega (arith, left, enough)

pub returns-clause-same : goal.returns-clause-same
returns-clause-same g c = lane_port_trans c.args.self.now c.settle_one.new.self c.settle_rest.new.self c.settle_one.ensures.same c.settle_rest.ensures.same
