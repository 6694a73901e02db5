use Rattle.std.proofs.Common.{◌≤◌, length, arith, refl}
use Rattle.std.specs.Prelude.{vec_capacity}
use Rattle.seated_script.proofs.Seats.{have-parts, is-seated, were-opened}
use Rattle.seated_script.proofs.seating.seat_script.Goals as goal

pub seat_bodies-requires-clause-parts : goal.seat_bodies-requires-clause-parts
seat_bodies-requires-clause-parts g c = have-parts g.D.Driver.kind g.D.Driver.faults c.args.script c.args.hosts.now.items c.open_ports_of.new.hosts.items c.in-Ok-open_ports_of.open c.size_of-size.result
    c.size_of-size.ensures c.in-Ok-open_ports_of.ensures.opened c.requires.runnable

pub end_opened-requires : goal.end_opened-requires
end_opened-requires g c = (
  c.args.hosts.now.items,
  rw (c.as_slice.ensures.value, c.in-Err-seat_bodies.ensures.back) (were-opened g.D.Driver.kind g.D.Driver.faults c.args.script c.args.hosts.now.items
      c.open_ports_of.new.hosts.items c.in-Ok-open_ports_of.open c.size_of-size.result c.size_of-size.ensures c.in-Ok-open_ports_of.ensures.opened g.D.Driver.stage c.requires.unused),
)

pub returns-in-Ok-seat_bodies-clause-seated : goal.returns-in-Ok-seat_bodies-clause-seated
returns-in-Ok-seat_bodies-clause-seated g c =
    let room : length c.args.script.process_steps.items ≤ vec_capacity c.in-Ok.ended =
    let many = c.len.ensures in
    let len = c.args.script.process_steps.ok.0 in
    let capacity = c.in-Ok.ensures.capacity in
    omega arith in
    is-seated g.D.Driver.kind g.D.Driver.faults c.args.script c.args.hosts.now.items c.open_ports_of.new.hosts.items c.in-Ok-open_ports_of.open c.size_of-size.result c.size_of-size.ensures
    c.in-Ok-open_ports_of.ensures.opened c.args.poll _ c.requires.runnable c.in-Ok-seat_bodies.ensures.seated refl c.in-Ok.ensures.items room

pub returns-in-Err-seat_bodies-clause-back : goal.returns-in-Err-seat_bodies-clause-back
returns-in-Err-seat_bodies-clause-back g c = c.end_opened.ensures c.args.hosts.now.items (rw (c.as_slice.ensures.value, c.in-Err-seat_bodies.ensures.back) (were-opened g.D.Driver.kind g.D.Driver.faults
    c.args.script c.args.hosts.now.items c.open_ports_of.new.hosts.items c.in-Ok-open_ports_of.open c.size_of-size.result c.size_of-size.ensures c.in-Ok-open_ports_of.ensures.opened g.D.Driver.stage
    c.requires.unused))
