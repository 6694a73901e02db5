use Rattle.std.proofs.Common.{sym, ap, ◌∙◌, subst, length}
use Rattle.std.proofs.lemmas.List.{get_or-set_same, get_or_read}
use Rattle.std.proofs.lemmas.Result.{IfOk-weaker, on_err_weaker}
use Rattle.process_receipts.specs.Asks.{asked}
use Rattle.process_receipts.specs.Receipts.{IsReceiptOf}
use Rattle.process_end.specs.Steps.{tasks_of, MayPut}
use Rattle.process_end.proofs.sides.send_at.Goals as goal

pub send-requires-clause-may : goal.send-requires-clause-may
send-requires-clause-may g c = subst (λ v. MayPut v c.args.signal) (sym c.index_mut-lane.ensures.value) (c.requires.may c.index_mut-lane.result.now c.index_mut-seat.result.now).may

pub send-requires-clause-table : goal.send-requires-clause-table
send-requires-clause-table g c =
    ap (λ v. v.key.table) c.index_mut-lane.ensures.value ∙ ((c.requires.may c.index_mut-lane.result.now c.index_mut-seat.result.now).table ∙ sym (ap (λ v. v.table) c.index_mut-seat.ensures.value))

pub returns-clause-receipt : goal.returns-clause-receipt
returns-clause-receipt g c = IfOk-weaker c.send.result _ _
    (λ receipt h d calls soft may.
    subst (λ v. IsReceiptOf calls soft (length (tasks_of v)) (asked c.args.place.line c.args.place.port c.args.signal c.args.how) receipt)
    (get_or_read c.args.lanes.now.items c.args.place.port c.index_mut-lane.result.now c.requires.lane c.index_mut-lane.ensures.value d) (h calls soft may))
    c.send.ensures.receipt

pub returns-clause-missed : goal.returns-clause-missed
returns-clause-missed g c = on_err_weaker c.send.result
    (λ m. (
      m.0,
      (λ d. rw (
        get_or-set_same c.args.seats.now.items c.args.place.port c.send.new.seat d c.requires.seat,
        ← get_or_read c.args.seats.now.items c.args.place.port c.index_mut-seat.result.now c.requires.seat c.index_mut-seat.ensures.value d,
      ) m.1),
    ))
    c.send.ensures.missed
