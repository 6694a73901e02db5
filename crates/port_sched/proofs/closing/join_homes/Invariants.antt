use Rattle.std.proofs.Common.{◌≡◌, ◌++◌, List, length, vec_len}
use Rattle.port_words.specs.home.Seats.{HomeKnown}
use Rattle.port_sched.proofs.Closings.{joined_from}
use Rattle.port_sched.proofs.closing.join_homes.Given as goal

abbrev pub invariant-homes : goal.invariant-homes
invariant-homes g l =
    (l.homes.items ≡ joined_from (length l.others.items) l.fn.homes.items l.fn.others.items)
    × ((done : List (HomeKnown _)) × (l.others.items ++ done ≡ l.fn.others.items))

abbrev pub decreases-homes : goal.decreases-homes
decreases-homes g l = vec_len l.others
