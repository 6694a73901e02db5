use Rattle.script_load.specs.Load.{process_of}
use Rattle.script_load.proofs.Lists.{next_process, pushed}
use Rattle.script_load.proofs.names.processes.Goals as goal

pub loop-number-preserved : goal.loop-number-preserved
loop-number-preserved c =
    rw c.in_ok-push.ensures.items
    (pushed process_of c.loop-number.all.items c.loop-number.number c.process_of.result _ _ c.loop-number.invariant c.process_of.ensures (next_process c.loop-number.number c.loop-number-test.true))
