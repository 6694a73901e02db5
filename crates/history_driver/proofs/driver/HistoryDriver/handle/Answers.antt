use Rattle.std.proofs.Common.{sym, ap, ◌∙◌}
use Rattle.std.specs.List.{concat}
use Rattle.driver_queue.specs.DriverQueue.{Queued}
use Rattle.driver_model.specs.Drivers.{held_by}
use Rattle.driver_model.specs.Same.{same_effects}
use Rattle.port_history.specs.Opening.{taken_of}
use Rattle.history_driver.proofs.Rows.{after-row, fresh-stands, judged-other, judged-same, judged-unanswered}
use Rattle.history_driver.proofs.driver.HistoryDriver.handle.Goals as goal

pub returns-then-not-branch : goal.returns-then-not-branch
returns-then-not-branch c = λ port s seq task e k d.
    let queue = ap (λ (q : Queued). concat q.segments) c.replace-queue.ensures.value in
    let start = fresh-stands port s.calls _ _ _ _ _ _ _ c.in_ok-ctx.ctx c.in_ok-ctx.ensures c.as_slice.ensures.events queue d.stands in
    let caller = ap (λ x. x.caller) c.in_ok-ctx.ensures ∙ c.caller-caller.ensures port s k in
    let called = c.in_ok-call_signal.ensures.called port s seq task e k d.kind_is caller start in
    judged-unanswered port s _ _ _ (rw c.if-not-branch.true at called)

pub returns-then-not-same_effects : goal.returns-then-not-same_effects
returns-then-not-same_effects c = λ port s seq task e k d.
    let t = taken_of c.args.handled.from seq task c.args.handled.outside.now c.args.handled.effects.now in
    let queue = ap (λ (q : Queued). concat q.segments) c.replace-queue.ensures.value in
    let start = fresh-stands port s.calls _ _ _ _ _ _ _ c.in_ok-ctx.ctx c.in_ok-ctx.ensures c.as_slice.ensures.events queue d.stands in
    let caller = ap (λ x. x.caller) c.in_ok-ctx.ensures ∙ c.caller-caller.ensures port s k in
    let called = c.in_ok-call_signal.ensures.called port s seq task e k d.kind_is caller start in
    let after = called.called c.if-not-branch.false in
    let kind = c.call_signal.ensures.kind ∙ d.kind_is in
    let flushed = c.in_ok-flush_queued.ensures.flushed port _ kind after.stands in
    let reason = c.closing_reason-reason.ensures port s seq task c.args.handled.outside.now (e ∙ sym c.signal.ensures) k in
    let row = after-row port s t _ _ _ _ called.caller after (rw reason at flushed) in
    let effects = c.as_slice-3.ensures.items ∙ c.finish-queue.ensures.effects in
    judged-other port s t _ _ row (c.if-not-same_effects.ensures ∙ ap (λ es. same_effects c.args.handled.effects.now es) effects)

pub returns : goal.returns
returns c = λ port s seq task e k d.
    let t = taken_of c.args.handled.from seq task c.args.handled.outside.now c.args.handled.effects.now in
    let queue = ap (λ (q : Queued). concat q.segments) c.replace-queue.ensures.value in
    let start = fresh-stands port s.calls _ _ _ _ _ _ _ c.in_ok-ctx.ctx c.in_ok-ctx.ensures c.as_slice.ensures.events queue d.stands in
    let caller = ap (λ x. x.caller) c.in_ok-ctx.ensures ∙ c.caller-caller.ensures port s k in
    let called = c.in_ok-call_signal.ensures.called port s seq task e k d.kind_is caller start in
    let after = called.called c.if-not-branch.false in
    let kind = c.call_signal.ensures.kind ∙ d.kind_is in
    let flushed = c.in_ok-flush_queued.ensures.flushed port _ kind after.stands in
    let reason = c.closing_reason-reason.ensures port s seq task c.args.handled.outside.now (e ∙ sym c.signal.ensures) k in
    let row = after-row port s t _ _ _ _ called.caller after (rw reason at flushed) in
    let effects = c.as_slice-3.ensures.items ∙ c.finish-queue.ensures.effects in
    let same = c.if-not-same_effects.ensures ∙ ap (λ es. same_effects c.args.handled.effects.now es) effects in
    judged-same port s t _ _ _ c.args.self.now.held _ _ row (rw c.if-not-branch.false at called) same reason (c.stops-stops.ensures port s k) (c.flush_queued.ensures.kind ∙ kind)
    d.stands.events c.next_job-self.ensures c.finish-queue.ensures.queue
    (c.in_ok-note.ensures ∙ ap (λ es. held_by es c.args.self.now.held) (c.as_slice-2.ensures.items ∙ c.finish-queue.ensures.effects))
