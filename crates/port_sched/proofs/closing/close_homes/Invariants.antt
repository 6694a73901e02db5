use Rattle.std.proofs.Common.{◌≡◌, ◌+◌, ◌≤◌, ◌++◌, List, length, vec_len, vec_capacity}
use Rattle.std.specs.List.{All}
use Rattle.port_words.specs.home.Seats.{HomeKnown}
use Rattle.port_sched.specs.Closing.{IsWhole, AreLastBodies}
use Rattle.port_sched.proofs.closing.close_homes.Given as goal

abbrev pub invariant-homes : goal.invariant-homes
invariant-homes g l =
    ((done : List (HomeKnown _)) × (last : List _)
    × (done ++ l.home-iterator.rest.items ≡ l.fn.homes.items)
    × (l.bodies.items ≡ l.fn.bodies.items ++ last)
    × AreLastBodies g.B.Lodged.name done last)
    × (l.home-iterator.rest.len ≡ length l.home-iterator.rest.items)
    × All IsWhole l.home-iterator.rest.items
    × (vec_len l.bodies + l.home-iterator.rest.len ≤ vec_capacity l.bodies)
