use Rattle.std.proofs.Common.{[], ◌∙◌, sym, arith}
use Rattle.std.specs.Prelude.{option_to_list}
use Rattle.process_job.specs.declared.halt.Halt.TheVariants as halt
use Rattle.process_job.specs.Actions.{ask_of}
use Rattle.process_job.proofs.Seating.{after_halt, no_memory, seats_none}
use Rattle.process_job.proofs.Made.{signal_put, signal_refused, signal_replied}
use Rattle.process_job.proofs.calling.send_signal.Goals as goal

pub returns-then-not-replied-clause-call : goal.returns-then-not-replied-clause-call
returns-then-not-replied-clause-call g c = signal_put (ask_of c.args.call) c.args.proc.now c.signal.new.self c.args.log.now c.in-Ok.seq c.in-Ok.ensures
    (sym c.is_replied-replied.ensures ∙ c.if-not-replied.true)

pub returns-in_err-added-in-Err-clause-seats : goal.returns-in_err-added-in-Err-clause-seats
returns-in_err-added-in-Err-clause-seats g c =
    after_halt c.from_residual-in_err-added-in-Err.result halt.NoMemory c.args.seats.now c.args.seats.now c.from_residual-in_err-added-in-Err.ensures.1
    (no_memory [] c.args.seats.now c.args.seats.now (omega arith) (seats_none c.args.seats.now c.requires.ports.homes))

pub returns-in_ok-wait_for_reply-in-Ok-clause-call : goal.returns-in_ok-wait_for_reply-in-Ok-clause-call
returns-in_ok-wait_for_reply-in-Ok-clause-call g c =
    signal_replied (ask_of c.args.call) c.args.proc.now c.signal.new.self c.wait_for_reply.new.proc c.args.log.now c.wait_for_reply.new.log c.in-Ok.seq c.in-Ok.ensures
    c.in_ok-wait_for_reply-in-Ok.ensures.waits c.in_ok-wait_for_reply-in-Ok.ensures.reply

pub returns-in_err-add_own-in-Err-clause-seats : goal.returns-in_err-add_own-in-Err-clause-seats
returns-in_err-add_own-in-Err-clause-seats g c =
    after_halt c.from_residual-in_err-add_own-in-Err.result halt.NoMemory c.args.seats.now c.args.seats.now c.from_residual-in_err-add_own-in-Err.ensures.1
    (no_memory [] c.args.seats.now c.args.seats.now (omega arith) (seats_none c.args.seats.now c.requires.ports.homes))

pub returns-in_ok-add_own-in-Err-clause-seats : goal.returns-in_ok-add_own-in-Err-clause-seats
returns-in_ok-add_own-in-Err-clause-seats g c = seats_none c.args.seats.now c.requires.ports.homes

pub returns-in_ok-add_own-in-Err-clause-call : goal.returns-in_ok-add_own-in-Err-clause-call
returns-in_ok-add_own-in-Err-clause-call g c =
    let a = c.in_ok-added-in-Err.ensures in
    signal_refused (ask_of c.args.call) c.args.proc.now c.signal.new.self c.args.log.now c.add_own.new.log (option_to_list c.noproc_mail-own.result)
    (option_to_list c.in_ok-added-in-Err.added) c.in-Err.refusal c.in-Err.ensures a.memory a.unput c.noproc_mail-own.ensures a.mail c.in_ok-add_own-in-Err.ensures
