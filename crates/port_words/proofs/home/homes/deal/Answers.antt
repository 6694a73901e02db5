use Rattle.std.proofs.Common.{◌≡◌, ◌∙◌, ◌+◌, ◌-◌, ◌++◌, ◌∷◌, [], suc, arith, vec_len, replicate}
use Rattle.std.specs.Arc.{arc_value}
use Rattle.std.proofs.lemmas.List.Elements.{All-pop}
use Rattle.port_words.proofs.lemmas.home.HomeLemmas.{one_seat_more}
use Rattle.port_words.specs.home.Home.{fresh_view, other_shares, one_share}
use Rattle.port_words.specs.home.Seats.{home_known}
use Rattle.port_words.proofs.home.homes.deal.Goals as goal

pub seats-preserved : goal.seats-preserved
seats-preserved g c =
    let before = c.seats.invariant in
    let body = c.args.rest.me.0.body in
    let seats = c.args.rest.me.0.seats in
    let fewer : vec_len c.seats.copies ≡ vec_len c.pop.new.self + 1 = (let n = c.in-Some.ensures.len in omega arith) in
    let more = c.add.ensures.len in
    let room = c.add.ensures.capacity in
    let all = before.0 in
    let capacity = before.1 in
    let shares : vec_len c.seats.copies + 1 - 1 ≡ vec_len c.pop.new.self + 1 = omega arith in
    let seat : c.cut-seat.result ≡ home_known c.args.rest.table_id c.args.port (fresh_view body seats 1) = c.cut-seat.ensures.cut ∙ (λ i. home_known (before.2 i) c.args.port (one_share (before.3 i).0)) in
    let count : suc (vec_len c.seats.all) ≡ vec_len c.add.new.all = omega arith in (
      omega arith,
      omega arith,
      c.cut-seat.ensures.rest.0 ∙ before.2,
      c.cut-seat.ensures.rest.1 ∙ (λ i. (other_shares (before.3 i).0, [])) ∙ (λ i. (fresh_view body seats (shares i), [])),
      c.add.ensures.items ∙ (λ i. before.4 i ++ seat i ∷ []) ∙ one_seat_more (vec_len c.seats.all) (home_known c.args.rest.table_id c.args.port (fresh_view body seats 1)) ∙ (λ i. replicate (count i) (home_known c.args.rest.table_id c.args.port (fresh_view body seats 1))),
      (All-pop (λ h. arc_value h ≡ arc_value c.args.words) c.seats.copies.items c.pop.new.self.items c.pop.result c.pop.ensures.items before.5).0,
    )
