use Rattle.std.proofs.Common.{sym, ◌∙◌, refl}
use Rattle.history_driver.proofs.Calls.{flushed-did}
use Rattle.history_driver.proofs.running.RunningDriver.flush_queued.Goals as goal

pub returns-clause-flushed : goal.returns-clause-flushed
returns-clause-flushed c = λ port calls kind stands.
    flushed-did port c.args.reason.now calls _ _ _ c.args.ctx.now _ c.in_ok-call.field-0 refl (sym c.is_flushed.ensures ∙ c.if-not-is_flushed.false)
    (rw kind at c.in_ok-call.ensures.told) stands
