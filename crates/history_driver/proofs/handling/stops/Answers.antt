use Rattle.std.proofs.Common.{ap, ◌∙◌}
use Rattle.std.specs.Prelude.{is_some}
use Rattle.history_driver.specs.Calling.{is_stopped_for}
use Rattle.driver_model.specs.Calls.{is_empty}
use Rattle.port_history.specs.Service.{first_reason}
use Rattle.history_driver.proofs.Calls.{stops-stopped, stops-closed, stops-open}
use Rattle.history_driver.proofs.handling.stops.Goals as goal

pub returns-then-is_stopped : goal.returns-then-is_stopped
returns-then-is_stopped c = λ port s k. stops-stopped s.stopped (first_reason s.reason c.args.reason.now) (is_empty c.args.ctx.now.queue) (c.if-is_stopped.ensures port s k)

pub returns-then-is_some : goal.returns-then-is_some
returns-then-is_some c = λ port s k.
    let first = c.reason-first.ensures port s k in
    c.is_stopped_for.ensures ∙ (ap (λ r. is_stopped_for r (is_empty c.args.ctx.now.queue)) first
    ∙ stops-closed s.stopped s.reason c.args.reason.now (is_empty c.args.ctx.now.queue) (c.if-is_stopped.ensures port s k) (c.if-is_some.ensures ∙ ap is_some first))

pub returns : goal.returns
returns c = λ port s k.
    let first = c.reason-first.ensures port s k in
    c.is_stopped_for-2.ensures
    ∙ stops-open s.stopped s.reason c.args.reason.now (is_empty c.args.ctx.now.queue) (c.if-is_stopped.ensures port s k) (c.if-is_some.ensures ∙ ap is_some first)
