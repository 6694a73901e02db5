use Rattle.std.proofs.Common.{◌++◌, length, map, refl, ap, ◌∙◌, arith}
use Rattle.ticket_account.proofs.Seats.{keep_names}
use Rattle.run_seats.proofs.Names.{body_names, last_many}
use Rattle.run_seats.proofs.homing.bring_home.Goals as goal

pub close_homes-requires-clause-room : goal.close_homes-requires-clause-room
close_homes-requires-clause-room g c =
    let run = c.requires.0 in
    let room = c.requires.1 in
    let homes = (c.gather-homes.ensures.homes run).0 in
    let size = c.gather-homes.result.ok.0 in
    let none = ap length room.no_lodgers in
    let len = c.args.room.lodgers.ok.0 in
    let most = room.for_lodgers in
    omega arith

pub bodies_of-requires-clause-room : goal.bodies_of-requires-clause-room
bodies_of-requires-clause-room g c =
    let run = c.requires.0 in
    let room = c.requires.1 in
    let closed = c.close_homes.ensures in
    let last = ap length (closed.1 ∙ ap (λ l. l ++ closed.0) room.no_lodgers) in
    let homes = (c.gather-homes.ensures.homes run).0 in
    let many = last_many _ c.gather-homes.result.items closed.0 closed.2 in
    let most = room.for_bodies in
    omega arith

pub returns : goal.returns
returns g c = λ run.
    let closed = c.close_homes.ensures in
    let last = closed.1 ∙ ap (λ l. l ++ closed.0) c.requires.1.no_lodgers in
    ap (map g.B.PortBody.name) (c.bodies_of.ensures ∙ ap (map (λ x. x.body)) last)
    ∙ body_names (λ x. x.body) g.B.PortBody.name _ (λ x. refl) closed.0 run.opened.bodies (keep_names _ run.opened.bodies closed.0 c.gather-homes.result.items (c.gather-homes.ensures.homes run) closed.2)
