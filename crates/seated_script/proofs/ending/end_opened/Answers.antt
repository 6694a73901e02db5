use Rattle.std.proofs.Common.{ap, refl}
use Rattle.std.proofs.lemmas.List.{get_or_default}
use Rattle.run_opening.specs.driver_hosts.port_body.Body.{name_of}
use Rattle.run_opening.specs.driver_hosts.Laws.{KeepNames}
use Rattle.seated_script.proofs.ending.end_opened.Goals as goal

pub take_back-requires-clause-within : goal.take_back-requires-clause-within
take_back-requires-clause-within g c k d below = rw c.requires.1.opened.len (c.requires.1.within k d below)

pub returns : goal.returns
returns g c first were =
    let keep : KeepNames c.args.bodies.items c.args.bodies.items = record { count = refl; each = λ port v w below. ap name_of (get_or_default c.args.bodies.items port w v below) } in
    (c.all_drivers_come_back.ensures.served were.ports were.rooms c.args.places.now first c.args.hosts.now.items c.take_back.new.hosts.items c.args.bodies.items c.args.bodies.items were.unused were.within
    were.places_many were.ports_many were.rooms_many keep were.opened c.take_back.ensures.returned).1
