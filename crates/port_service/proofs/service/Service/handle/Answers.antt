use Rattle.std.proofs.Common.{◌≡◌, sym, ap, ◌∙◌, refl}
use Rattle.std.specs.List.{concat}
use Rattle.driver_queue.specs.DriverQueue.{Queued}
use Rattle.port_driver.specs.Context.{Context}
use Rattle.port_history.specs.Ties.{signal_reason}
use Rattle.port_service.specs.Callbacks.{is_flagged, is_told_of}
use Rattle.port_service.proofs.Rows.{Called-as, Served-by, Serves-by}
use Rattle.port_service.proofs.Calls.{Stands-in}
use Rattle.port_service.proofs.Counted.{counts-row}
use Rattle.port_service.proofs.service.Service.handle.Goals as goal

pub returns-clause-serves : goal.returns-clause-serves
returns-clause-serves g c = rw (← c.self.view_is) (λ port s seq task k e caller why served flagged stands.
    let fresh = c.in_ok-ctx.ensures in
    let watched : c.is_flagged-watched.result ≡ is_told_of s.watched c.args.caller.from =
    c.is_flagged-watched.ensures ∙ (ap (λ fs. is_flagged fs c.args.caller.from) c.deref.ensures.value ∙ flagged) in
    let called = Called-as _ port s c.args.caller.from task c.args.caller.process c.args.caller.owns _ c.args.signal.now _ _ _ _ _ _ _ _ _ k fresh caller.process caller.owns watched e c.in_ok-call_driver.ensures.called in
    let flushed = rw (c.call_driver.ensures.kept.kind, ← k) at c.in_ok-flush_queued.ensures.flushed in
    let halted = rw (c.flush_queued.ensures.kept.kind, c.call_driver.ensures.kept.kind, ← k) at c.halt.ensures.halted in
    let first = c.call_driver.ensures.kept.caller ∙ (ap (λ x. x.caller) fresh ∙ caller.process) in
    let queue = ap (λ (q : Queued). concat q.segments) c.replace-queue.ensures.value in
    let start = Stands-in _ _ _ _ _ _ _ queue refl refl stands in
    let whole = Serves-by port s c.args.caller.from seq task c.args.stands.closing c.ends_driver-stops.result _ _ _ _ _ _ _ _ _ _ _ c.call_driver.new.ctx c.flush_queued.new.ctx
    c.reason_to_close-reason.result c.args.why called flushed halted first (c.flush_queued.ensures.kept.room.caller ∙ first) (why ∙ ap (λ x. signal_reason s.ties c.args.caller.from x) (sym e)) c.reason_to_close-reason.ensures c.ends_driver-stops.ensures served start in
    Served-by port s c.args.caller.from seq task _ _ _ c.flush_queued.new.ctx _ _ whole c.finish-queue.ensures.outside c.finish-queue.ensures.effects c.finish-queue.ensures.queue c.next_job-self-inside.ensures c.finish-queue.ensures.held)

pub returns-clause-failed : goal.returns-clause-failed
returns-clause-failed g c = rw (← c.self.view_is) (counts-row c.in_ok-ctx.ctx c.call_driver.new.ctx c.flush_queued.new.ctx c.finish-queue.result.1 _ _ _ _ (ap (λ (x : Context). x.outside) c.in_ok-ctx.ensures)
    c.in_ok-call_driver.ensures.counted c.in_ok-flush_queued.ensures.counted c.halt.ensures.faults c.finish-queue.ensures.outside)
