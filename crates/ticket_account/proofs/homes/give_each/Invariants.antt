use Rattle.std.proofs.Common.{◌≡◌, ◌+◌, ◌≤◌, ℕ, length, map, replicate, slice_get, vec_capacity}
use Rattle.std.specs.List.{All}
use Rattle.port_words.specs.home.Seats.{HomeKnown}
use Rattle.ticket_account.proofs.Openings.{given}
use Rattle.ticket_account.proofs.homes.give_each.Given as goal

abbrev pub invariant-jobs : goal.invariant-jobs
invariant-jobs g l =
    (length l.lists.items ≡ length l.fn.lists.items)
    × (length l.seats.items + l.job ≡ length l.fn.lists.items)
    × ((n : ℕ) → l.job ≤ n → slice_get l.lists.items n ≡ slice_get l.fn.lists.items n)
    × ((room : ℕ) → All (λ v. room ≤ vec_capacity v) l.fn.lists.items → All (λ v. room ≤ vec_capacity v) l.lists.items)
    × ((s : HomeKnown _) → l.fn.seats.items ≡ replicate (length (map (λ v. v.items) l.fn.lists.items)) s
    → (l.seats.items ≡ replicate (length l.seats.items) s) × (map (λ v. v.items) l.lists.items ≡ given l.job s (map (λ v. v.items) l.fn.lists.items)))
