use Rattle.process_job.proofs.Resuming.{waits_resumed, waits_waited}
use Rattle.process_job.proofs.waiting.try_go_on.Goals as goal

pub returns-in-Ok : goal.returns-in-Ok
returns-in-Ok g c = waits_resumed c.args.stopped c.in-Ok.proc c.args.log.now c.in-Ok.ensures.tried c.in-Ok.ensures.asked

pub returns : goal.returns
returns g c = waits_waited c.args.stopped c.in-Err.stopped c.in-Err.why c.args.log.now c.keep_other.new.log c.in-Err.ensures.tried c.in-Err.ensures.asked c.in_ok-took_mail.ensures
