use Rattle.std.proofs.Common.{◌≡◌, ◌∙◌, ◌+◌, arith, vec_len, replicate}
use Rattle.port_words.specs.home.Home.{fresh_view}
use Rattle.port_words.specs.home.Seats.{home_known}
use Rattle.port_words.proofs.home.homes.home.Goals as goal

pub returns-clause-ok : goal.returns-clause-ok
returns-clause-ok g c =
    let count : vec_len c.in-Ok-copies.copies + 1 ≡ c.args.seats = (let n = c.in-Ok-copies.ensures.0 in let some = c.requires in omega arith) in
    let me = c.in-Ok-furnish.ensures.ok.2 in
    let home' = c.in-Ok-furnish.furnished.1.table_id in
    record {
      home = home';
      first = c.of.result;
      made_with = c.of.ensures;
      dealt = c.deal.ensures ∙ (λ i. replicate (count i) (home_known home' c.args.port (fresh_view (me i).0.body (me i).0.seats 1)));
    }
