use Rattle.std.proofs.Common.{◌≡◌, ◌≤◌, [], length, vec_capacity}
use Rattle.std.specs.List.{All}
use Rattle.ticket_account.proofs.homes.empty_lists.Given as goal

abbrev pub invariant-jobs : goal.invariant-jobs
invariant-jobs g l = (length l.lists.items ≡ l.counter) × All (λ v. (v.items ≡ []) × (l.ports ≤ vec_capacity v)) l.lists.items
