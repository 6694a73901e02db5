use Rattle.std.proofs.Common.{refl}
use Rattle.process_job.proofs.Goings.{waits_took, waits_quiet}
use Rattle.process_job.proofs.taking.take_next.Goals as goal

pub returns-in_default-clause-waits : goal.returns-in_default-clause-waits
returns-in_default-clause-waits g c = waits_quiet c.args.proc.now c.mail.new.self c.args.log.now c.args.log.now c.mail.ensures.rest c.mail.ensures.asked c.in_default.ensures.taken.same refl

pub returns-clause-waits : goal.returns-clause-waits
returns-clause-waits g c = waits_took c.args.proc.now c.mail.new.self c.args.log.now c.keep.new.log c.in-Some.mail c.in-Some.ensures.rest c.in-Some.ensures.asked c.in-Some.ensures.taken c.in_ok-keep.ensures.kept
