use Rattle.std.proofs.Common.{◌≡◌, ◌+◌, ◌≤◌, ◌++◌, List, map, length, vec_len, vec_capacity}
use Rattle.std.specs.List.{All}
use Rattle.atomic_table.specs.Seated.{TableId}
use Rattle.port_sched.specs.declared.lodger.Lodger.{Lodger}
use Rattle.ticket_account.specs.Opening.{AreAlike, IsCounted}
use Rattle.ticket_account.proofs.homes.deal_homes.Given as goal

abbrev pub invariant-ports : goal.invariant-ports
invariant-ports g l =
    (l.port + length l.rest.rest.items ≡ length l.fn.bodies.items)
    × (length l.places.items + l.port ≡ length l.fn.places.items)
    × ((word : TableId) → All (IsCounted word) l.fn.places.items → All (IsCounted word) l.places.items)
    × (length l.lists.items ≡ length l.fn.lists.items)
    × ((lodgers : List (Lodger _ _)) × (length lodgers ≡ l.port) × (map (λ b. b.body) lodgers ++ l.rest.rest.items ≡ l.fn.bodies.items)
    × AreAlike (length l.fn.lists.items) lodgers (map (λ v. v.items) l.lists.items))
    × All (λ v. length l.fn.bodies.items ≤ vec_capacity v) l.lists.items
    × (l.back ≡ l.fn.back)

abbrev pub decreases-ports : goal.decreases-ports
decreases-ports g l = goal.left-ports g l

abbrev pub invariant-rest : goal.invariant-rest
invariant-rest g l =
    (l.body-iterator.rest.len ≡ length l.body-iterator.rest.items)
    × (vec_len l.back + l.body-iterator.rest.len ≤ vec_capacity l.back)
    × (l.back.items ++ l.body-iterator.rest.items ≡ l.fn.bodies.items)
