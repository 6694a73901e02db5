use Rattle.std.proofs.Common.{Some, None, ap}
use Rattle.std.specs.Prelude.{if◌then◌else◌}
use Rattle.std.specs.List.{concat}
use Rattle.driver_model.specs.Calls.{Outputv}
use Rattle.history_driver.proofs.handling.callback_of.Goals as goal

pub returns-then-is_owner : goal.returns-then-is_owner
returns-then-is_owner c = λ port s k.
    rw c.in-OwnerCommand.is (ap (λ b. if b then Some (Outputv (concat c.in-OwnerCommand.payload)) else None) (c.if-is_owner.ensures port s k))

pub returns-else-is_owner : goal.returns-else-is_owner
returns-else-is_owner c = λ port s k.
    rw c.in-OwnerCommand.is (ap (λ b. if b then Some (Outputv (concat c.in-OwnerCommand.payload)) else None) (c.if-is_owner.ensures port s k))

pub returns-in-Gone : goal.returns-in-Gone
returns-in-Gone c = λ port s k. rw c.in-Gone.is (c.exit_callback.ensures port s k)
