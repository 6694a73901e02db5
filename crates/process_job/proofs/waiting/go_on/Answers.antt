use Rattle.std.proofs.Common.{subst}
use Rattle.port_sched.proofs.Looks.{looked_none, looked_then}
use Rattle.process_job.specs.declared.halt.Halt.TheVariants as halt
use Rattle.process_job.specs.Going.{state}
use Rattle.process_job.specs.Waiting.{GoesFrom}
use Rattle.process_job.proofs.Goings.{waits_none, waits_then}
use Rattle.process_job.proofs.Seating.{over_halt}
use Rattle.process_job.proofs.waiting.go_on.Goals as goal

pub tries-init : goal.tries-init
tries-init g c = (looked_none c.args.over.now, waits_none (state c.args.stopped.proc c.args.log.now))

pub returns-in_err-proc-clause-over : goal.returns-in_err-proc-clause-over
returns-in_err-proc-clause-over g c = over_halt c.from_residual.result halt.NoMemory _ _ c.from_residual.ensures.1 c.tries.invariant.0 tt

pub returns-in-GoesOn-clause-waits : goal.returns-in-GoesOn-clause-waits
returns-in-GoesOn-clause-waits g c =
    waits_then _ _ _ c.tries.invariant.1 (subst (λ r. GoesFrom c.tries.waiting.proc c.tries.log r c.try_go_on.new.log) c.in-GoesOn.is c.in_ok-proc.ensures)

pub tries-preserved-then-took_mail : goal.tries-preserved-then-took_mail
tries-preserved-then-took_mail g c =
    (c.tries.invariant.0, waits_then _ _ _ c.tries.invariant.1 (subst (λ r. GoesFrom c.tries.waiting.proc c.tries.log r c.try_go_on.new.log) c.in-Waits.is c.in_ok-proc.ensures))

pub tries-preserved : goal.tries-preserved
tries-preserved g c = (
  looked_then _ _ _ c.tries.invariant.0 c.in_ok-pause_suspended-in-Waits.ensures,
  waits_then _ _ _ c.tries.invariant.1 (subst (λ r. GoesFrom c.tries.waiting.proc c.tries.log r c.try_go_on.new.log) c.in-Waits.is c.in_ok-proc.ensures),
)
