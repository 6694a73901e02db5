use Rattle.std.proofs.Common.{◌≡◌, ◌+◌, ◌≤◌, ◌++◌, length, map, vec_len, vec_capacity}
use Rattle.run_seats.proofs.homing.bodies_of.Given as goal

abbrev pub invariant-lodgers : goal.invariant-lodgers
invariant-lodgers g l =
    (l.all.items ++ map (λ x. x.body) l.lodger-iterator.rest.items ≡ map (λ x. x.body) l.fn.lodgers.items)
    × (l.lodger-iterator.rest.len ≡ length l.lodger-iterator.rest.items)
    × (vec_len l.all + l.lodger-iterator.rest.len ≤ vec_capacity l.all)
