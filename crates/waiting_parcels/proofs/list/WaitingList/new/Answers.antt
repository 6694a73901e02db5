use Rattle.std.proofs.Common.{sym, subst}
use Rattle.std.specs.Prelude.{None}
use Rattle.waiting_parcels.specs.Queues.{lists, IsKept}
use Rattle.waiting_parcels.proofs.Kept.{kept-empty}
use Rattle.waiting_parcels.proofs.list.WaitingList.new.Goals as goal

pub invariant_of-result : goal.invariant_of-result
invariant_of-result c =
    subst (λ ws. IsKept (lists c.in_ok-empty_queues.field-0.items) ws 0 0 None) (sym c.new.ensures.items) (kept-empty _ c.in_ok-empty_queues.ensures.empty)
