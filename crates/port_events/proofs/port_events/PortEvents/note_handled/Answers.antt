use Rattle.std.proofs.Common.{◌≡◌, List, false}
use Rattle.port_history.specs.Events.{Event, told_of}
use Rattle.port_events.specs.Table.{Agrees}
use Rattle.port_events.specs.Asks.{has_room}
use Rattle.port_events.specs.declared.fault.EventFault.TheVariants.{NoRoom}
use Rattle.port_events.proofs.Handling.{handled, on-err}
use Rattle.port_events.proofs.port_events.PortEvents.note_handled.Goals as goal

pub returns-in_err-follow-clause-no_room : goal.returns-in_err-follow-clause-no_room
returns-in_err-follow-clause-no_room g c =
    on-err c.from_residual-in_err-follow.result _
    (λ fault. fault ≡ NoRoom → (events : List Event) → Agrees c.args.self.now.selector events → has_room c.args.effects.now (told_of false c.args.signal.now events) ≡ false)
    c.from_residual-in_err-follow.ensures.1
    (λ full events a. c.in_err-follow.ensures.room full (told_of false c.args.signal.now events) (c.tell.ensures.told events a))

pub returns-clause-events : goal.returns-clause-events
returns-clause-events g c = λ events a.
    let d = handled c.args.signal.now c.args.effects.now c.args.ending.closed c.args.ending.stops c.args.self.now c.tell.new.self c.follow.new.self c.deselect.new.self c.arm_selected.new.self c.stop.new.self
    c.in_ok-given_back.given_back.items c.follow.new.given_back.items c.stop.new.given_back.items
    c.tell.ensures.told c.tell.ensures.same c.in_ok-given_back.ensures c.in_ok-follow.ensures.ok c.follow.ensures.same c.deselect.ensures.done c.deselect.ensures.same
    c.in_ok-arm_selected.ensures.ok c.arm_selected.ensures.same c.in_ok-stop.ensures.ok events a in
    d.agrees

pub returns-clause-given_back : goal.returns-clause-given_back
returns-clause-given_back g c = λ events a.
    let d = handled c.args.signal.now c.args.effects.now c.args.ending.closed c.args.ending.stops c.args.self.now c.tell.new.self c.follow.new.self c.deselect.new.self c.arm_selected.new.self c.stop.new.self
    c.in_ok-given_back.given_back.items c.follow.new.given_back.items c.stop.new.given_back.items
    c.tell.ensures.told c.tell.ensures.same c.in_ok-given_back.ensures c.in_ok-follow.ensures.ok c.follow.ensures.same c.deselect.ensures.done c.deselect.ensures.same
    c.in_ok-arm_selected.ensures.ok c.arm_selected.ensures.same c.in_ok-stop.ensures.ok events a in
    d.given_back

pub returns-clause-asks : goal.returns-clause-asks
returns-clause-asks g c = λ events a.
    let d = handled c.args.signal.now c.args.effects.now c.args.ending.closed c.args.ending.stops c.args.self.now c.tell.new.self c.follow.new.self c.deselect.new.self c.arm_selected.new.self c.stop.new.self
    c.in_ok-given_back.given_back.items c.follow.new.given_back.items c.stop.new.given_back.items
    c.tell.ensures.told c.tell.ensures.same c.in_ok-given_back.ensures c.in_ok-follow.ensures.ok c.follow.ensures.same c.deselect.ensures.done c.deselect.ensures.same
    c.in_ok-arm_selected.ensures.ok c.arm_selected.ensures.same c.in_ok-stop.ensures.ok events a in
    d.asked

pub returns-clause-room : goal.returns-clause-room
returns-clause-room g c = λ events a.
    let d = handled c.args.signal.now c.args.effects.now c.args.ending.closed c.args.ending.stops c.args.self.now c.tell.new.self c.follow.new.self c.deselect.new.self c.arm_selected.new.self c.stop.new.self
    c.in_ok-given_back.given_back.items c.follow.new.given_back.items c.stop.new.given_back.items
    c.tell.ensures.told c.tell.ensures.same c.in_ok-given_back.ensures c.in_ok-follow.ensures.ok c.follow.ensures.same c.deselect.ensures.done c.deselect.ensures.same
    c.in_ok-arm_selected.ensures.ok c.arm_selected.ensures.same c.in_ok-stop.ensures.ok events a in
    d.room
