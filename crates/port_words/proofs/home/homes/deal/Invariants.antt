use Rattle.std.proofs.Common.{◌≡◌, ◌+◌, ◌<◌, [], vec_len, vec_capacity, replicate}
use Rattle.std.specs.List.{All}
use Rattle.std.specs.Arc.{arc_value}
use Rattle.port_words.specs.home.Home.{fresh_view}
use Rattle.port_words.specs.home.Seats.{home_known}
use Rattle.port_words.proofs.home.homes.deal.Given as goal

abbrev pub invariant-seats : goal.invariant-seats
invariant-seats g l =
    (vec_len l.all + vec_len l.copies ≡ vec_len l.fn.copies)
    × (vec_len l.fn.copies < vec_capacity l.all)
    × (l.rest.table_id ≡ l.fn.rest.table_id)
    × (l.rest.me ≡ (fresh_view l.fn.rest.me.0.body l.fn.rest.me.0.seats (vec_len l.copies + 1), []))
    × (l.all.items ≡ replicate (vec_len l.all) (home_known l.fn.rest.table_id l.fn.port (fresh_view l.fn.rest.me.0.body l.fn.rest.me.0.seats 1)))
    × All (λ h. arc_value h ≡ arc_value l.fn.words) l.copies.items

abbrev pub decreases-seats : goal.decreases-seats
decreases-seats g l = vec_len l.copies
