use Rattle.std.proofs.Common.{refl, subst}
use Rattle.port_sched.specs.Serving.{KeptBy}
use Rattle.process_job.specs.declared.halt.Halt.TheVariants as halt
use Rattle.process_job.proofs.Seating.{after_halt, no_memory, waken, seats_with}
use Rattle.process_job.proofs.seats.ProcessSeats.wake.Goals as goal

pub returns-in_err-wake : goal.returns-in_err-wake
returns-in_err-wake g c =
    let w = c.wake.ensures in
    let old = c.args.self.now in
    after_halt c.from_residual.result halt.NoMemory old (seats_with c.wake.new.self old.over) c.from_residual.ensures.1
    (no_memory w.tickets.0 old (seats_with c.wake.new.self old.over) (subst (λ r. KeptBy r w.tickets.0) c.in_err-wake.was w.tickets.1)
    (waken c.wake.result old (seats_with c.wake.new.self old.over) w.tickets.0 w.refused w.homes w.tickets.1 w.tickets.2 refl))
