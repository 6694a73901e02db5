use Rattle.std.proofs.Common.{length, ap, arith}
use Rattle.port_body.proofs.Reserved.{reserved_body, reserved_same, reserved_stepped}
use Rattle.port_body.proofs.Same.{lane_port_trans}
use Rattle.port_body.proofs.Settling.{if-ok}
use Rattle.port_body.proofs.lane_port.LanePort.step.Goals as goal

pub returns-in_err-reserve-clause-same : goal.returns-in_err-reserve-clause-same
returns-in_err-reserve-clause-same g c = reserved_same c.args.self.now c.reserve.new.self c.reserve.ensures.same

pub take_next-requires-clause-body : goal.take_next-requires-clause-body
take_next-requires-clause-body g c = reserved_body c.args.self.now c.reserve.new.self c.reserve.ensures.same c.requires

pub take_next-requires-clause-room : goal.take_next-requires-clause-room
take_next-requires-clause-room g c =
    let same = ap length c.reserve.ensures.same.items in
    let room = c.in_ok-reserve.ensures.room in
    omega (arith, same, room)

pub returns-clause-same : goal.returns-clause-same
returns-clause-same g c =
    lane_port_trans c.args.self.now c.reserve.new.self c.take_next.new.self (reserved_same c.args.self.now c.reserve.new.self c.reserve.ensures.same) c.take_next.ensures.same

pub returns-clause-stepped : goal.returns-clause-stepped
returns-clause-stepped g c =
    if-ok c.take_next.result (λ did went. reserved_stepped did c.args.self.now c.reserve.new.self c.take_next.new.self c.reserve.ensures.same went) c.take_next.ensures.stepped
