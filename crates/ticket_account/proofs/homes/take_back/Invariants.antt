use Rattle.std.proofs.Common.{◌≡◌, ◌+◌, ◌<◌, ◌≤◌, ◌++◌, List, map, length, vec_len, vec_capacity}
use Rattle.ticket_account.specs.Opening.{HomesOfBodies}
use Rattle.ticket_account.proofs.Returning.{Unjoined, GiveAll}
use Rattle.ticket_account.proofs.homes.take_back.Given as goal

abbrev pub invariant-jobs : goal.invariant-jobs
invariant-jobs g l =
    (length l.lists.items < length l.fn.lists.items)
    × ((bodies : List _) (homes : HomesOfBodies (length l.fn.lists.items) bodies (map (λ v. v.items) l.fn.lists.items)) → Unjoined homes.0 (length l.fn.lists.items) (map (λ v. v.items) l.lists.items) l.all.items)

abbrev pub decreases-jobs : goal.decreases-jobs
decreases-jobs g l = goal.left-jobs g l

abbrev pub invariant-homes : goal.invariant-homes
invariant-homes g l =
    (l.home-iterator.rest.len ≡ length l.home-iterator.rest.items)
    × (vec_len l.back + l.home-iterator.rest.len ≤ vec_capacity l.back)
    × (vec_capacity l.fn.back ≤ vec_capacity l.back)
    × ((bodies : List _) → HomesOfBodies (length l.fn.lists.items) bodies (map (λ v. v.items) l.fn.lists.items)
    → (done : List _) × (rest : List _) × (l.back.items ≡ l.fn.back.items ++ done) × (done ++ rest ≡ bodies) × GiveAll rest l.home-iterator.rest.items)
