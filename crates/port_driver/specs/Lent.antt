-- How a context lends its queue.
use Rattle.std.specs.Prelude.{Result}
use Rattle.std.specs.List.{concat}
use Rattle.std.specs.Borrow.{LendsIfOk, MutBor, Fml}
use Rattle.driver_queue.specs.DriverQueue.{Queued}
use Rattle.driver_queue.specs.contracts.queue.DriverQueue.{the_row as queue_row}
use Rattle.port_driver.specs.Context.{Context}
use Rattle.port_driver.specs.contracts.context.DriverCtx.{the_row}

-- the context ends with the bytes that the queue is left with, and as it was where there is no room
abbrev pub LendsQueue : {E : Type 0} → MutBor Context → Result (MutBor Queued) E → Fml
LendsQueue ctx lent = LendsIfOk the_row queue_row ctx lent (λ queue. record ctx.now { queue = concat queue.segments }) ctx.now
