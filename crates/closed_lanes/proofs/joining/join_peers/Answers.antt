use Rattle.std.proofs.Common.{map}
use Rattle.served_port.proofs.Same.{if-ok}
use Rattle.closed_lanes.proofs.Peers.{HavePeers}
use Rattle.closed_lanes.proofs.Together.{are_joined, mails_many, rows_of_mail, rows_of_seats}
use Rattle.closed_lanes.proofs.joining.join_peers.Goals as goal

pub join_all_seats-requires : goal.join_all_seats-requires
join_all_seats-requires g c =
    let h = c.requires in
    rows_of_seats h.0 h.1 h.2 c.args.ports c.args.processes (record { set = h.3; named = h.4; have = h.5; own = h.6 }) h.7

pub take_all_rest-requires-clause-many : goal.take_all_rest-requires-clause-many
take_all_rest-requires-clause-many g c =
    let h = c.requires in
    mails_many h.0 h.1 h.2 c.args.ports c.args.processes (record { set = h.3; named = h.4; have = h.5; own = h.6 }) h.7

pub take_all_rest-requires-clause-rows : goal.take_all_rest-requires-clause-rows
take_all_rest-requires-clause-rows g c =
    let h = c.requires in
    rows_of_mail h.0 h.1 h.2 c.args.ports c.args.processes (record { set = h.3; named = h.4; have = h.5; own = h.6 }) h.7

pub returns : goal.returns
returns g c = λ s names ran set named have own of.
    let peers : HavePeers s names ran c.args.ports = record { set = set; named = named; have = have; own = own } in
    if-ok c.take_all_rest.result
    (λ all taken. are_joined s names ran c.args.ports c.args.processes peers of c.join_all_seats.new.ports.items (map (λ m. m.items) all.items) c.in_ok-join_all_seats.ensures.joined taken)
    c.take_all_rest.ensures
