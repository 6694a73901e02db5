use Rattle.std.proofs.Common.{arith}
use Rattle.waiting_parcels.proofs.Kept.{queued-le}
use Rattle.waiting_parcels.proofs.list.WaitingList.len.Goals as goal

pub overflow_add-result : goal.overflow_add-result
overflow_add-result c =
    let few = queued-le _ _ _ _ _ c.self.invariant in
    grind (arith, few, c.from.ensures)
