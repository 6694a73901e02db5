use Rattle.std.proofs.Common.{◌+◌, length, sym, ap, ◌∙◌, subst, arith}
use Rattle.ticket_account.specs.Run.{AreDealt}
use Rattle.ticket_account.proofs.Seats.{map_length}
use Rattle.ticket_account.proofs.Openings.{alike_length, opened, can_begin, ready_jobs}
use Rattle.ticket_account.proofs.opening.open_run.Goals as goal

pub returns-clause-opened : goal.returns-clause-opened
returns-clause-opened g c =
    let alike = c.in-Ok-deal_homes.ensures.homes.1.2 in
    let places = c.in-Ok-places.ensures in
    let seated = c.seat_schedulers.ensures.seated alike.row places.word alike.same places.rest_are in
    let few = c.requires.few in
    opened c.args.size.schedulers (c.args.size.finishing + c.args.size.others) c.in-Ok.runs.items c.in-Ok.entries.items alike.row alike.homes c.in-Ok-deal_homes.ensures.homes.1.0 places.word _ _
    c.requires.schedulers.0 (omega arith) c.in-Ok.ensures alike.many (subst (λ n. AreDealt alike.homes c.in-Ok-deal_homes.ensures.homes.1.0 n alike.row) c.in-Ok-room.ensures.lists.0 alike.dealt) seated.0 (c.seat_jobs.ensures alike.row seated.1) c.args.bodies.items c.in-Ok-deal_homes.ensures.homes.1.1

pub returns-clause-schedulers : goal.returns-clause-schedulers
returns-clause-schedulers g c =
    let alike = c.in-Ok-deal_homes.ensures.homes.1.2 in
    let places = c.in-Ok-places.ensures in
    let seated = c.seat_schedulers.ensures.seated alike.row places.word alike.same places.rest_are in
    let few = c.requires.few in
    let row = alike.dealt.0 in
    let many = alike.many in
    let size_of = sym (map_length (λ b. b.body) c.in-Ok-deal_homes.ensures.homes.1.0) ∙ ap length c.in-Ok-deal_homes.ensures.homes.1.1 in (
      seated.0.0 ∙ c.in-Ok.ensures.seats_count,
      can_begin c.in-Ok.runs.items alike.row alike.homes _ _ places.word _ alike.dealt (omega arith) seated.0,
    )

pub returns-clause-jobs : goal.returns-clause-jobs
returns-clause-jobs g c =
    let alike = c.in-Ok-deal_homes.ensures.homes.1.2 in
    let places = c.in-Ok-places.ensures in
    let seated = c.seat_schedulers.ensures.seated alike.row places.word alike.same places.rest_are in
    let jobs = c.seat_jobs.ensures alike.row seated.1 in
    let size_of = sym (map_length (λ b. b.body) c.in-Ok-deal_homes.ensures.homes.1.0) ∙ ap length c.in-Ok-deal_homes.ensures.homes.1.1 in (
      jobs.0 ∙ ap length c.in-Ok.ensures.ends ∙ alike_length _ _,
      ready_jobs (length c.args.bodies.items) c.in-Ok.entries.items alike.row alike.homes _ _ _ alike.dealt (alike.many ∙ size_of) jobs,
    )

pub returns-clause-places : goal.returns-clause-places
returns-clause-places g c =
    let alike = c.in-Ok-deal_homes.ensures.homes.1.2 in
    let places = c.in-Ok-places.ensures in
    let seated = c.seat_schedulers.ensures.seated alike.row places.word alike.same places.rest_are in
    let len = c.len.ensures in
    let size = c.args.bodies.ok.0 in
    let firsts = places.many in
    let rest = places.others_many in
    let left = c.in-Ok-deal_homes.ensures.left in
    let others_left = c.seat_schedulers.ensures.left.1 in
    let runs = c.in-Ok.ensures.seats_count in
    record {
      word = places.word;
      many = omega arith;
      others_many = omega arith;
      firsts_are = c.in-Ok-deal_homes.ensures.places places.word places.firsts_are;
      rest_are = seated.2;
    }
