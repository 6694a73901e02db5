use Rattle.std.proofs.Common.{take}
use Rattle.waiting_parcels.specs.Queues.{lists, IsChoice}
use Rattle.waiting_parcels.proofs.queues.first_to_go.Given as goal

abbrev pub invariant-loop-place : goal.invariant-loop-place
invariant-loop-place l = IsChoice l.busy (lists l.queues) l.waiting (take l.place l.waiting) l.first
