use Rattle.port_history.specs.Events.{select, give_up}
use Rattle.history_tables.proofs.EventSteps.{then-ok, steps, keeps-select, keeps-give_up}
use Rattle.history_tables.proofs.events.EventTable.follow_effect.Goals as goal

pub returns-in-Select : goal.returns-in-Select
returns-in-Select c = rw c.in-Select.is (then-ok _
    (steps c.args.self.now c.put.new.self c.get.result c.selected.result c.in-Select.event (select c.in-Select.dir c.in-Select.on) (keeps-select c.in-Select.dir c.in-Select.on) c.get.ensures c.selected.ensures)
    c.put.ensures)

pub returns-in-Unuse : goal.returns-in-Unuse
returns-in-Unuse c = rw c.in-Unuse.is (then-ok _
    (steps c.args.self.now c.put-in-Unuse.new.self c.get-in-Unuse.result c.given_up.result c.in-Unuse.event give_up keeps-give_up c.get-in-Unuse.ensures c.given_up.ensures)
    c.put-in-Unuse.ensures)
