use Rattle.port_sched.proofs.Looks.{looked_none, looked_then}
use Rattle.process_job.specs.Going.{state}
use Rattle.process_job.proofs.Goings.{waits_none, waits_then}
use Rattle.process_job.proofs.waiting.wait_for_reply.Goals as goal

pub mail-init : goal.mail-init
mail-init g c = (looked_none c.args.over.now, waits_none (state c.args.proc.now c.args.log.now))

pub mail-preserved-in-Nothing-1 : goal.mail-preserved-in-Nothing-1
mail-preserved-in-Nothing-1 g c = (looked_then _ _ _ c.mail.invariant.0 c.in_ok-pause-in-Nothing.ensures, waits_then _ _ _ c.mail.invariant.1 c.in_ok-take_next.ensures.waits)

pub returns-in-Reply-clause-waits : goal.returns-in-Reply-clause-waits
returns-in-Reply-clause-waits g c = waits_then _ _ _ c.mail.invariant.1 c.in_ok-take_next.ensures.waits

pub mail-preserved : goal.mail-preserved
mail-preserved g c = (c.mail.invariant.0, waits_then _ _ _ c.mail.invariant.1 c.in_ok-take_next.ensures.waits)
