use Rattle.port_history.specs.Events.{disarm, drop_event}
use Rattle.history_tables.proofs.EventSteps.{then-ok, steps, keeps-disarm, keeps-drop}
use Rattle.history_tables.proofs.events.EventTable.tell.Goals as goal

pub returns-in-Ready : goal.returns-in-Ready
returns-in-Ready c = rw c.in-Ready.is (then-ok _
    (steps c.args.self.now c.put.new.self c.get.result c.disarmed.result c.in-Ready.event (disarm c.in-Ready.dir) (keeps-disarm c.in-Ready.dir) c.get.ensures c.disarmed.ensures)
    c.put.ensures)

pub returns-in-Dropped : goal.returns-in-Dropped
returns-in-Dropped c = rw (c.in-Dropped.is, c.if-not-late.true) (then-ok _
    (steps c.args.self.now c.put-in-Dropped.new.self c.get-in-Dropped.result c.dropped.result c.in-Dropped.event drop_event keeps-drop c.get-in-Dropped.ensures c.dropped.ensures)
    c.put-in-Dropped.ensures)
