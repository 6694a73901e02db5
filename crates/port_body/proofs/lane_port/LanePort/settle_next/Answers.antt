use Rattle.std.proofs.Common.{◌∷◌, false, refl, sym, ap, ◌∙◌, subst}
use Rattle.waiting_parcels.specs.Waiting.{GoesFirst}
use Rattle.port_body.specs.LanePort.{LanePortView, Holds}
use Rattle.port_body.specs.Steps.{SettlesOne}
use Rattle.port_body.proofs.Holding.{first-moved, waits}
use Rattle.port_body.proofs.Settling.{settles-first}
use Rattle.port_body.proofs.lane_port.LanePort.settle_next.Goals as goal

pub settle_one-requires-clause-holds : goal.settle_one-requires-clause-holds
settle_one-requires-clause-holds g c =
    let old = c.args.self.now in
    let goes = subst (λ (v : LanePortView). GoesFirst false v.waiting.items c.in-Some.item c.take_first.new.self.items) c.self.view_is c.in-Some.ensures.some in
    subst (λ (v : LanePortView). Holds (record v { waiting = c.take_first.new.self }) (c.in-Some.item ∷ c.take_first.new.self.items)) (sym c.self.view_is)
    (waits old c.take_first.new.self (c.in-Some.item ∷ c.take_first.new.self.items) (first-moved old false old.waiting.items c.in-Some.item c.take_first.new.self.items c.requires.holds goes)
    (c.take_first.ensures.senders ∙ ap (λ (v : LanePortView). v.waiting.senders) c.self.view_is))

pub returns-clause-next : goal.returns-clause-next
returns-clause-next g c =
    let x = c.in-Some.item in
    let items = ap (λ (v : LanePortView). v.waiting.items) (sym c.self.view_is) ∙ c.in-Some.ensures.head refl in
    settles-first c.args.self.now c.settle_one.new.self c.take_first.new.self x items c.requires.owners c.requires.closed c.requires.holds.processes c.requires.room
    (subst (λ (v : LanePortView). SettlesOne (record v { waiting = c.take_first.new.self }) c.settle_one.new.self x) c.self.view_is c.in_ok-settle_one.ensures.settles)
