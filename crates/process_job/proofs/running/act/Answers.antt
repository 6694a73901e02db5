use Rattle.std.proofs.Common.{refl}
use Rattle.process_job.proofs.Seating.{after_halt, halted_looked, seats_with}
use Rattle.process_job.proofs.running.act.Goals as goal

pub returns-in_err-wait_for_data-in-Wait-clause-seats : goal.returns-in_err-wait_for_data-in-Wait-clause-seats
returns-in_err-wait_for_data-in-Wait-clause-seats g c =
    let r = c.from_residual-in_err-wait_for_data-in-Wait in
    let e = c.in_err-wait_for_data-in-Wait in
    after_halt r.result e.field-0.0 c.args.seats.now (seats_with c.args.seats.now.ports c.wait_for_data.new.over) r.ensures.1
    (halted_looked e.field-0.0 c.args.seats.now (seats_with c.args.seats.now.ports c.wait_for_data.new.over) c.requires.ports.homes refl e.ensures.over.0 e.ensures.over.1)
