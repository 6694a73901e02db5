use Rattle.std.proofs.Common.{◌≡◌, [], All, vec_len}
use Rattle.waiting_parcels.specs.Queues.{lists}
use Rattle.waiting_parcels.proofs.queues.empty_queues.Given as goal

abbrev pub invariant-loop : goal.invariant-loop
invariant-loop l = (vec_len l.queues ≡ l.counter) × All (λ queue. queue ≡ []) (lists l.queues.items)
