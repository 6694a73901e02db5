use Rattle.std.proofs.Common.{◌≡◌, length, map, ◌∙◌, subst}
use Rattle.port_words.specs.home.Seats.{AreSeatsOf}
use Rattle.ticket_account.proofs.Seats.{map_length}
use Rattle.ticket_account.proofs.Openings.{alike_more}
use Rattle.ticket_account.proofs.homes.add_port.Goals as goal

pub returns-in-Ok-clause-alike : goal.returns-in-Ok-clause-alike
returns-in-Ok-clause-alike g c = λ bodies many alike.
    let rows = map (λ v. v.items) c.args.lists.now.items in
    let seats = length c.args.lists.now.items in
    let len : c.len.result ≡ seats = c.len.ensures ∙ c.args.lists.now.ok.0 in
    alike_more seats c.args.port c.args.lodger c.in-Ok.seats.items rows _ (map_length (λ v. v.items) c.args.lists.now.items)
    (subst (λ n. AreSeatsOf c.args.port c.args.lodger n c.in-Ok.seats.items) len c.in-Ok.ensures.ok) c.give_each.ensures.each bodies many alike
