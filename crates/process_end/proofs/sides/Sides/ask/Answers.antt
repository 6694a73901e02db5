use Rattle.std.proofs.Common.{◌+◌, [], ◌∷◌, ◌++◌, length, refl, sym, ap, ◌∙◌, subst}
use Rattle.process_receipts.specs.Asks.{asked}
use Rattle.process_end.specs.Ports.{AllFree}
use Rattle.process_end.proofs.Causes.{is-short}
use Rattle.process_end.proofs.Called.{missed-call, none-more, on-err, refused-call, send-allowed, sent-call}
use Rattle.process_end.proofs.sides.Sides.ask.Goals as goal

pub returns-in_err-reserve-clause-still_free : goal.returns-in_err-reserve-clause-still_free
returns-in_err-reserve-clause-still_free g c = on-err c.from_residual.result (subst AllFree (sym c.self.view_is) c.requires.free)

pub invariant_of-self-in-Some : goal.invariant_of-self-in-Some
invariant_of-self-in-Some g c = (refused-call c.args.self.now c.self.inside.number c.self.inside.mailbox c.self.inside.lanes.items c.self.inside.seats.items c.self.inside.soft.items c.self.inside.receipts.items c.push_reserved.new.self.items c.self.inside.undone c.self.inside.told (length c.as_slice.result.now) c.index-soft.result.now (asked c.args.line c.args.port c.args.signal c.args.how) c.in-Some.outcome c.refused_receipt-receipt.result
    c.self.view_is c.self.invariant c.requires.free c.requires.port (ap length (c.as_slice.ensures.value ∙ c.reserve.ensures.items)) c.index-soft.ensures (c.in-Some.ensures.some c.args.line c.args.port)
    c.refused_receipt-receipt.ensures (c.push_reserved.ensures.items ∙ ap (λ rs. rs ++ c.refused_receipt-receipt.result ∷ []) c.reserve.ensures.items)).ports

pub returns-in-Some-clause-made : goal.returns-in-Some-clause-made
returns-in-Some-clause-made g c = (refused-call c.args.self.now c.self.inside.number c.self.inside.mailbox c.self.inside.lanes.items c.self.inside.seats.items c.self.inside.soft.items c.self.inside.receipts.items c.push_reserved.new.self.items c.self.inside.undone c.self.inside.told (length c.as_slice.result.now) c.index-soft.result.now (asked c.args.line c.args.port c.args.signal c.args.how) c.in-Some.outcome c.refused_receipt-receipt.result
    c.self.view_is c.self.invariant c.requires.free c.requires.port (ap length (c.as_slice.ensures.value ∙ c.reserve.ensures.items)) c.index-soft.ensures (c.in-Some.ensures.some c.args.line c.args.port)
    c.refused_receipt-receipt.ensures (c.push_reserved.ensures.items ∙ ap (λ rs. rs ++ c.refused_receipt-receipt.result ∷ []) c.reserve.ensures.items)).made

pub returns-in-Some-clause-free : goal.returns-in-Some-clause-free
returns-in-Some-clause-free g c = (refused-call c.args.self.now c.self.inside.number c.self.inside.mailbox c.self.inside.lanes.items c.self.inside.seats.items c.self.inside.soft.items c.self.inside.receipts.items c.push_reserved.new.self.items c.self.inside.undone c.self.inside.told (length c.as_slice.result.now) c.index-soft.result.now (asked c.args.line c.args.port c.args.signal c.args.how) c.in-Some.outcome c.refused_receipt-receipt.result
    c.self.view_is c.self.invariant c.requires.free c.requires.port (ap length (c.as_slice.ensures.value ∙ c.reserve.ensures.items)) c.index-soft.ensures (c.in-Some.ensures.some c.args.line c.args.port)
    c.refused_receipt-receipt.ensures (c.push_reserved.ensures.items ∙ ap (λ rs. rs ++ c.refused_receipt-receipt.result ∷ []) c.reserve.ensures.items)).free

pub returns-in-Some-clause-stopped : goal.returns-in-Some-clause-stopped
returns-in-Some-clause-stopped g c = (refused-call c.args.self.now c.self.inside.number c.self.inside.mailbox c.self.inside.lanes.items c.self.inside.seats.items c.self.inside.soft.items c.self.inside.receipts.items c.push_reserved.new.self.items c.self.inside.undone c.self.inside.told (length c.as_slice.result.now) c.index-soft.result.now (asked c.args.line c.args.port c.args.signal c.args.how) c.in-Some.outcome c.refused_receipt-receipt.result
    c.self.view_is c.self.invariant c.requires.free c.requires.port (ap length (c.as_slice.ensures.value ∙ c.reserve.ensures.items)) c.index-soft.ensures (c.in-Some.ensures.some c.args.line c.args.port)
    c.refused_receipt-receipt.ensures (c.push_reserved.ensures.items ∙ ap (λ rs. rs ++ c.refused_receipt-receipt.result ∷ []) c.reserve.ensures.items)).stopped

pub send_at-requires-clause-may : goal.send_at-requires-clause-may
send_at-requires-clause-may g c = λ d e. send-allowed c.args.self.now c.self.inside.number c.self.inside.mailbox c.self.inside.lanes.items c.self.inside.seats.items c.self.inside.soft.items c.self.inside.receipts.items c.self.inside.receipts.items c.self.inside.undone c.self.inside.told (length c.as_slice.result.now) c.index-soft.result.now (asked c.args.line c.args.port c.args.signal c.args.how) d e
    c.self.view_is c.self.invariant c.requires.port (ap length (c.as_slice.ensures.value ∙ c.reserve.ensures.items)) c.index-soft.ensures (c.in_default.ensures.none c.args.line c.args.port) c.requires.sends c.requires.named

pub send_at-requires-clause-short : goal.send_at-requires-clause-short
send_at-requires-clause-short g c = is-short c.args.signal (c.in_default.ensures.none c.args.line c.args.port).short

pub invariant_of-self-in-Ok : goal.invariant_of-self-in-Ok
invariant_of-self-in-Ok g c = (sent-call c.args.self.now c.self.inside.number c.self.inside.mailbox c.self.inside.lanes.items c.self.inside.seats.items c.self.inside.soft.items c.self.inside.receipts.items c.push_reserved-in-Ok.new.self.items c.self.inside.undone c.self.inside.told (length c.as_slice.result.now) c.index-soft.result.now (asked c.args.line c.args.port c.args.signal c.args.how) c.in-Ok.receipt c.send_at.new.lanes.items c.send_at.new.seats.items
    c.self.view_is c.self.invariant c.requires.free c.requires.port (ap length (c.as_slice.ensures.value ∙ c.reserve.ensures.items)) c.index-soft.ensures (c.in_default.ensures.none c.args.line c.args.port)
    c.in-Ok.ensures.touched c.in-Ok.ensures.receipt c.in-Ok.ensures.sent c.in-Ok.ensures.steps (c.push_reserved-in-Ok.ensures.items ∙ ap (λ rs. rs ++ c.in-Ok.receipt ∷ []) c.reserve.ensures.items)).ports

pub returns-in-Ok-clause-made : goal.returns-in-Ok-clause-made
returns-in-Ok-clause-made g c = (sent-call c.args.self.now c.self.inside.number c.self.inside.mailbox c.self.inside.lanes.items c.self.inside.seats.items c.self.inside.soft.items c.self.inside.receipts.items c.push_reserved-in-Ok.new.self.items c.self.inside.undone c.self.inside.told (length c.as_slice.result.now) c.index-soft.result.now (asked c.args.line c.args.port c.args.signal c.args.how) c.in-Ok.receipt c.send_at.new.lanes.items c.send_at.new.seats.items
    c.self.view_is c.self.invariant c.requires.free c.requires.port (ap length (c.as_slice.ensures.value ∙ c.reserve.ensures.items)) c.index-soft.ensures (c.in_default.ensures.none c.args.line c.args.port)
    c.in-Ok.ensures.touched c.in-Ok.ensures.receipt c.in-Ok.ensures.sent c.in-Ok.ensures.steps (c.push_reserved-in-Ok.ensures.items ∙ ap (λ rs. rs ++ c.in-Ok.receipt ∷ []) c.reserve.ensures.items)).made

pub returns-in-Ok-clause-free : goal.returns-in-Ok-clause-free
returns-in-Ok-clause-free g c = (sent-call c.args.self.now c.self.inside.number c.self.inside.mailbox c.self.inside.lanes.items c.self.inside.seats.items c.self.inside.soft.items c.self.inside.receipts.items c.push_reserved-in-Ok.new.self.items c.self.inside.undone c.self.inside.told (length c.as_slice.result.now) c.index-soft.result.now (asked c.args.line c.args.port c.args.signal c.args.how) c.in-Ok.receipt c.send_at.new.lanes.items c.send_at.new.seats.items
    c.self.view_is c.self.invariant c.requires.free c.requires.port (ap length (c.as_slice.ensures.value ∙ c.reserve.ensures.items)) c.index-soft.ensures (c.in_default.ensures.none c.args.line c.args.port)
    c.in-Ok.ensures.touched c.in-Ok.ensures.receipt c.in-Ok.ensures.sent c.in-Ok.ensures.steps (c.push_reserved-in-Ok.ensures.items ∙ ap (λ rs. rs ++ c.in-Ok.receipt ∷ []) c.reserve.ensures.items)).free

pub returns-in-Ok-clause-stopped : goal.returns-in-Ok-clause-stopped
returns-in-Ok-clause-stopped g c = (sent-call c.args.self.now c.self.inside.number c.self.inside.mailbox c.self.inside.lanes.items c.self.inside.seats.items c.self.inside.soft.items c.self.inside.receipts.items c.push_reserved-in-Ok.new.self.items c.self.inside.undone c.self.inside.told (length c.as_slice.result.now) c.index-soft.result.now (asked c.args.line c.args.port c.args.signal c.args.how) c.in-Ok.receipt c.send_at.new.lanes.items c.send_at.new.seats.items
    c.self.view_is c.self.invariant c.requires.free c.requires.port (ap length (c.as_slice.ensures.value ∙ c.reserve.ensures.items)) c.index-soft.ensures (c.in_default.ensures.none c.args.line c.args.port)
    c.in-Ok.ensures.touched c.in-Ok.ensures.receipt c.in-Ok.ensures.sent c.in-Ok.ensures.steps (c.push_reserved-in-Ok.ensures.items ∙ ap (λ rs. rs ++ c.in-Ok.receipt ∷ []) c.reserve.ensures.items)).stopped

pub invariant_of-self-then-adds : goal.invariant_of-self-then-adds
invariant_of-self-then-adds g c = (missed-call c.args.self.now c.self.inside.number c.self.inside.mailbox c.self.inside.lanes.items c.self.inside.seats.items c.self.inside.soft.items c.self.inside.receipts.items c.reserve.new.self.items c.self.inside.undone c.self.inside.told (length c.as_slice.result.now) c.index-soft.result.now (asked c.args.line c.args.port c.args.signal c.args.how) c.send_at.new.lanes.items c.send_at.new.seats.items (c.self.inside.undone + 1) c.is_command-adds.result
    c.self.view_is c.self.invariant c.requires.free c.requires.port (ap length (c.as_slice.ensures.value ∙ c.reserve.ensures.items)) (c.in_default.ensures.none c.args.line c.args.port)
    c.in-Err.ensures.touched c.in-Err.ensures.missed c.in-Err.ensures.unsent c.is_command-adds.ensures (rw c.if-adds.true refl) c.reserve.ensures.items).ports

pub returns-then-adds-clause-missed : goal.returns-then-adds-clause-missed
returns-then-adds-clause-missed g c = (missed-call c.args.self.now c.self.inside.number c.self.inside.mailbox c.self.inside.lanes.items c.self.inside.seats.items c.self.inside.soft.items c.self.inside.receipts.items c.reserve.new.self.items c.self.inside.undone c.self.inside.told (length c.as_slice.result.now) c.index-soft.result.now (asked c.args.line c.args.port c.args.signal c.args.how) c.send_at.new.lanes.items c.send_at.new.seats.items (c.self.inside.undone + 1) c.is_command-adds.result
    c.self.view_is c.self.invariant c.requires.free c.requires.port (ap length (c.as_slice.ensures.value ∙ c.reserve.ensures.items)) (c.in_default.ensures.none c.args.line c.args.port)
    c.in-Err.ensures.touched c.in-Err.ensures.missed c.in-Err.ensures.unsent c.is_command-adds.ensures (rw c.if-adds.true refl) c.reserve.ensures.items).missed

pub returns-then-adds-clause-still_free : goal.returns-then-adds-clause-still_free
returns-then-adds-clause-still_free g c = (missed-call c.args.self.now c.self.inside.number c.self.inside.mailbox c.self.inside.lanes.items c.self.inside.seats.items c.self.inside.soft.items c.self.inside.receipts.items c.reserve.new.self.items c.self.inside.undone c.self.inside.told (length c.as_slice.result.now) c.index-soft.result.now (asked c.args.line c.args.port c.args.signal c.args.how) c.send_at.new.lanes.items c.send_at.new.seats.items (c.self.inside.undone + 1) c.is_command-adds.result
    c.self.view_is c.self.invariant c.requires.free c.requires.port (ap length (c.as_slice.ensures.value ∙ c.reserve.ensures.items)) (c.in_default.ensures.none c.args.line c.args.port)
    c.in-Err.ensures.touched c.in-Err.ensures.missed c.in-Err.ensures.unsent c.is_command-adds.ensures (rw c.if-adds.true refl) c.reserve.ensures.items).free

pub invariant_of-self-else-adds : goal.invariant_of-self-else-adds
invariant_of-self-else-adds g c = (missed-call c.args.self.now c.self.inside.number c.self.inside.mailbox c.self.inside.lanes.items c.self.inside.seats.items c.self.inside.soft.items c.self.inside.receipts.items c.reserve.new.self.items c.self.inside.undone c.self.inside.told (length c.as_slice.result.now) c.index-soft.result.now (asked c.args.line c.args.port c.args.signal c.args.how) c.send_at.new.lanes.items c.send_at.new.seats.items c.self.inside.undone c.is_command-adds.result
    c.self.view_is c.self.invariant c.requires.free c.requires.port (ap length (c.as_slice.ensures.value ∙ c.reserve.ensures.items)) (c.in_default.ensures.none c.args.line c.args.port)
    c.in-Err.ensures.touched c.in-Err.ensures.missed c.in-Err.ensures.unsent c.is_command-adds.ensures (rw c.if-adds.false (sym (none-more c.self.inside.undone))) c.reserve.ensures.items).ports

pub returns-else-adds-clause-missed : goal.returns-else-adds-clause-missed
returns-else-adds-clause-missed g c = (missed-call c.args.self.now c.self.inside.number c.self.inside.mailbox c.self.inside.lanes.items c.self.inside.seats.items c.self.inside.soft.items c.self.inside.receipts.items c.reserve.new.self.items c.self.inside.undone c.self.inside.told (length c.as_slice.result.now) c.index-soft.result.now (asked c.args.line c.args.port c.args.signal c.args.how) c.send_at.new.lanes.items c.send_at.new.seats.items c.self.inside.undone c.is_command-adds.result
    c.self.view_is c.self.invariant c.requires.free c.requires.port (ap length (c.as_slice.ensures.value ∙ c.reserve.ensures.items)) (c.in_default.ensures.none c.args.line c.args.port)
    c.in-Err.ensures.touched c.in-Err.ensures.missed c.in-Err.ensures.unsent c.is_command-adds.ensures (rw c.if-adds.false (sym (none-more c.self.inside.undone))) c.reserve.ensures.items).missed

pub returns-else-adds-clause-still_free : goal.returns-else-adds-clause-still_free
returns-else-adds-clause-still_free g c = (missed-call c.args.self.now c.self.inside.number c.self.inside.mailbox c.self.inside.lanes.items c.self.inside.seats.items c.self.inside.soft.items c.self.inside.receipts.items c.reserve.new.self.items c.self.inside.undone c.self.inside.told (length c.as_slice.result.now) c.index-soft.result.now (asked c.args.line c.args.port c.args.signal c.args.how) c.send_at.new.lanes.items c.send_at.new.seats.items c.self.inside.undone c.is_command-adds.result
    c.self.view_is c.self.invariant c.requires.free c.requires.port (ap length (c.as_slice.ensures.value ∙ c.reserve.ensures.items)) (c.in_default.ensures.none c.args.line c.args.port)
    c.in-Err.ensures.touched c.in-Err.ensures.missed c.in-Err.ensures.unsent c.is_command-adds.ensures (rw c.if-adds.false (sym (none-more c.self.inside.undone))) c.reserve.ensures.items).free
