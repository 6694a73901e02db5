use Rattle.std.proofs.Common.{Some, None, ap}
use Rattle.std.specs.Prelude.{if◌then◌else◌}
use Rattle.driver_model.specs.Calls.{ProcessExit}
use Rattle.history_driver.proofs.handling.exit_callback.Goals as goal

pub returns-then-is_told_of : goal.returns-then-is_told_of
returns-then-is_told_of c = λ port s k. rw c.in-Process.is (ap (λ b. if b then Some (ProcessExit c.in-Process.process) else None) (c.if-is_told_of.ensures port s k))

pub returns-else-is_told_of : goal.returns-else-is_told_of
returns-else-is_told_of c = λ port s k. rw c.in-Process.is (ap (λ b. if b then Some (ProcessExit c.in-Process.process) else None) (c.if-is_told_of.ensures port s k))
