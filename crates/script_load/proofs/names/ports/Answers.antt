use Rattle.script_load.specs.Load.{port_with}
use Rattle.script_load.proofs.Lists.{next_port, pushed}
use Rattle.script_load.proofs.names.ports.Goals as goal

pub loop-number-preserved : goal.loop-number-preserved
loop-number-preserved c =
    rw c.in_ok-push.ensures.items
    (pushed port_with c.loop-number.all.items c.loop-number.number c.in_ok-port_with.field-0 _ _ c.loop-number.invariant c.in_ok-port_with.ensures (next_port c.loop-number.number c.loop-number-test.true))
