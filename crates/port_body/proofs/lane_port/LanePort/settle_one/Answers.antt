use Rattle.std.proofs.Common.{sym, ap, subst, arith}
use Rattle.port_lanes.specs.Keys.{sender_at}
use Rattle.recorded_port.specs.Taking.{MayTake, Takes, IsSameRecorded, UsesRoom}
use Rattle.port_body.specs.LanePort.{LanePortView, Holds}
use Rattle.port_body.proofs.Holding.{took, resumed}
use Rattle.recorded_port.proofs.Same.{same-trans}
use Rattle.port_body.proofs.Room.{took_room}
use Rattle.port_body.proofs.Same.{same_lane}
use Rattle.port_body.proofs.Settling.{on-both, may-take, settles-one}
use Rattle.port_body.proofs.lane_port.LanePort.settle_one.Goals as goal

pub take-requires-clause-may : goal.take-requires-clause-may
take-requires-clause-may g c =
    let old = c.args.self.now in
    let x = c.args.item in
    let may = may-take old x old.waiting.items c.requires.holds c.requires.free in
    subst (λ s. MayTake c.self.inside.port s x.seq x.value) (sym c.sender_at-from.ensures)
    (subst (λ (v : LanePortView). MayTake v.port (sender_at old.lane.key x.sender) x.seq x.value) (sym c.self.view_is) may)

pub returns-clause-holds : goal.returns-clause-holds
returns-clause-holds g c =
    let old = c.args.self.now in
    let x = c.args.item in
    let takes = subst (λ (v : LanePortView). Takes v.port c.take.new.self (sender_at old.lane.key x.sender) x.seq x.value.task) c.self.view_is
    (subst (λ s. Takes c.self.inside.port c.take.new.self s x.seq x.value.task) c.sender_at-from.ensures c.in_ok-take.ensures.takes) in
    let same = subst (λ (v : LanePortView). IsSameRecorded v.port c.take.new.self) c.self.view_is c.take.ensures.same in
    let mid = took old c.take.new.self x old.waiting.items c.requires.holds c.in_ok-take.ensures.settled same takes in
    on-both c.resume.result (λ settled resumes. subst (λ (v : LanePortView). Holds (record v { port = c.resume.new.self }) v.waiting.items) (sym c.self.view_is)
    (resumed (record old { port = c.take.new.self }) c.resume.new.self old.waiting.items mid settled c.resume.ensures.same resumes)) c.resume.ensures.settled c.resume.ensures.resumes

pub returns-clause-settles : goal.returns-clause-settles
returns-clause-settles g c =
    let old = c.args.self.now in
    let x = c.args.item in
    let takes = subst (λ (v : LanePortView). Takes v.port c.take.new.self (sender_at old.lane.key x.sender) x.seq x.value.task) c.self.view_is
    (subst (λ s. Takes c.self.inside.port c.take.new.self s x.seq x.value.task) c.sender_at-from.ensures c.in_ok-take.ensures.takes) in
    let same = subst (λ (v : LanePortView). IsSameRecorded v.port c.take.new.self) c.self.view_is c.take.ensures.same in
    let room = subst (λ (v : LanePortView). UsesRoom v.port c.take.new.self) c.self.view_is c.take.ensures.room in
    on-both c.resume.result (λ settled resumes. settles-one old _ c.take.new.self x takes same c.resume.ensures.same resumes
    (ap (λ (v : LanePortView). record v { port = c.resume.new.self }) c.self.view_is) c.requires.holds.settled c.in_ok-take.ensures.settled settled room c.resume.ensures.room)
    c.resume.ensures.settled c.resume.ensures.resumes

pub resume-requires-clause-room : goal.resume-requires-clause-room
resume-requires-clause-room g c =
    let old = c.args.self.now in
    let x = c.args.item in
    let takes = subst (λ (v : LanePortView). Takes v.port c.take.new.self (sender_at old.lane.key x.sender) x.seq x.value.task) c.self.view_is
    (subst (λ s. Takes c.self.inside.port c.take.new.self s x.seq x.value.task) c.sender_at-from.ensures c.in_ok-take.ensures.takes) in
    let room = subst (λ (v : LanePortView). UsesRoom v.port c.take.new.self) c.self.view_is c.take.ensures.room in
    let enough = took_room old.port c.take.new.self (sender_at old.lane.key x.sender) x.seq x.value.task c.requires.holds.settled c.in_ok-take.ensures.settled room takes 0 c.requires.room in
    omega (arith, enough)

pub returns-clause-same : goal.returns-clause-same
returns-clause-same g c =
    let old = c.args.self.now in
    let same = subst (λ (v : LanePortView). IsSameRecorded v.port c.take.new.self) c.self.view_is c.take.ensures.same in
    same_lane old _ (same-trans old.port c.take.new.self c.resume.new.self same c.resume.ensures.same) (ap (λ (v : LanePortView). v.lane) c.self.view_is)
    (ap (λ (v : LanePortView). v.processes) c.self.view_is) (ap (λ (v : LanePortView). v.workers) c.self.view_is)
