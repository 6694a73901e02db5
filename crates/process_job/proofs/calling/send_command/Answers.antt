use Rattle.std.proofs.Common.{[], refl, sym, ap, true, arith}
use Rattle.std.specs.Prelude.{not}
use Rattle.process_end.specs.declared.answers.Commanded.TheVariants as commanded
use Rattle.process_end.specs.declared.answers.SendRefusal.TheVariants as refused
use Rattle.process_job.specs.declared.halt.Halt.TheVariants as halt
use Rattle.process_job.specs.Asks.{ends_file}
use Rattle.process_job.specs.Going.{state}
use Rattle.process_job.proofs.Goings.{waits_none}
use Rattle.process_job.proofs.Seating.{after_halt, no_memory, seats_none}
use Rattle.process_job.proofs.Made.{command_goes, same_command_refusal}
use Rattle.process_job.proofs.calling.send_command.Goals as goal

pub returns-in_ok-wake-in-Accepted-clause-call : goal.returns-in_ok-wake-in-Accepted-clause-call
returns-in_ok-wake-in-Accepted-clause-call g c = command_goes c.args.form.line c.args.form.port c.args.form.how c.args.payload
    (commanded.Accepted c.in-Accepted.proc c.in-Accepted.field-1) c.args.proc c.in-Accepted.proc c.args.log.now c.args.log.now true c.in-Accepted.ensures
    (λ e. cc) (waits_none (state c.in-Accepted.proc c.args.log.now)) (λ receipt len i. sym (ap (λ o. not (ends_file o)) i.0))

pub returns-in_ok-proc-in-Suspended-clause-call : goal.returns-in_ok-proc-in-Suspended-clause-call
returns-in_ok-proc-in-Suspended-clause-call g c = command_goes c.args.form.line c.args.form.port c.args.form.how c.args.payload
    (commanded.Suspended c.in-Suspended.stopped) c.args.proc c.in_ok-proc-in-Suspended.proc c.args.log.now c.go_on.new.log true c.in-Suspended.ensures
    (λ e. cc) c.in_ok-proc-in-Suspended.ensures.waits (λ receipt len i. sym (ap (λ o. not (ends_file o)) i.0))

pub returns-in-Dropped-clause-seats : goal.returns-in-Dropped-clause-seats
returns-in-Dropped-clause-seats g c = seats_none c.args.seats.now c.requires.ports.homes

pub returns-in-Dropped-clause-call : goal.returns-in-Dropped-clause-call
returns-in-Dropped-clause-call g c = command_goes c.args.form.line c.args.form.port c.args.form.how c.args.payload
    (commanded.Dropped c.in-Dropped.proc c.in-Dropped.field-1) c.args.proc c.in-Dropped.proc c.args.log.now c.args.log.now true c.in-Dropped.ensures
    (λ e. cc) (waits_none (state c.in-Dropped.proc c.args.log.now)) (λ receipt len i. sym (ap (λ o. not (ends_file o)) i.0))

pub returns-in_err-more-in-Refused-clause-seats : goal.returns-in_err-more-in-Refused-clause-seats
returns-in_err-more-in-Refused-clause-seats g c =
    let r = c.from_residual-in_err-more-in-Refused in
    after_halt r.result halt.NoMemory c.args.seats.now c.args.seats.now r.ensures.1
    (no_memory [] c.args.seats.now c.args.seats.now (omega arith) (seats_none c.args.seats.now c.requires.ports.homes))

pub returns-in_ok-more-in-Refused-clause-call : goal.returns-in_ok-more-in-Refused-clause-call
returns-in_ok-more-in-Refused-clause-call g c =
    let m = c.in_ok-more-in-Refused.ensures in
    command_goes c.args.form.line c.args.form.port c.args.form.how c.args.payload
    (commanded.Refused c.in-Refused.proc c.in-Refused.refusal) c.args.proc c.in-Refused.proc c.args.log.now c.args.log.now c.in_ok-more-in-Refused.more c.in-Refused.ensures
    (λ e. m.memory (same_command_refusal c.in-Refused.proc c.in-Refused.proc c.in-Refused.refusal refused.NoMemory _ _ refl refl e))
    (waits_none (state c.in-Refused.proc c.args.log.now)) (λ receipt len i. m.more receipt len i)
