use Rattle.std.proofs.Common.{◌≤◌, length, map}
use Rattle.run_lanes.proofs.Places.{IsRest}
use Rattle.run_end.proofs.TakingRests.{TakesBelow}
use Rattle.run_end.proofs.mailboxes.take_each_rest.Given as goal

abbrev pub invariant-columns : goal.invariant-columns
invariant-columns g l =
    TakesBelow l.place (map (λ c. c.items) l.fn.columns.items) l.fn.mailboxes.items l.mailboxes.items (map (λ m. m.items) l.fn.mails.items) (map (λ m. m.items) l.mails.items)
    × IsRest l.place l.fn.columns.items l.ends-iterator.rest.items l.ends-iterator.rest.len
    × (l.place ≤ length l.fn.columns.items)
