use Rattle.closed_ports.proofs.Rest.{all-closed, all-stand, come-back}
use Rattle.closed_ports.proofs.closing.close_ports.Goals as goal

pub returns-in_err-ports-clause-returned : goal.returns-in_err-ports-clause-returned
returns-in_err-ports-clause-returned g c = come-back g.D.Driver.kind g.D.Driver.stage g.D.Driver.faults g.D.Driver.own g.D.Driver.program c.args.bodies.items c.take_in_columns.new.bodies.items
    c.settle_all-is_settled.new.bodies.items _ c.args.places.now c.args.hosts.now.items c.take_back.new.hosts.items c.take_in_columns.ensures c.settle_all-is_settled.ensures.same c.take_back.ensures.returned

pub returns-then-is_settled-clause-returned : goal.returns-then-is_settled-clause-returned
returns-then-is_settled-clause-returned g c = come-back g.D.Driver.kind g.D.Driver.stage g.D.Driver.faults g.D.Driver.own g.D.Driver.program c.args.bodies.items c.take_in_columns.new.bodies.items
    c.settle_all-is_settled.new.bodies.items _ c.args.places.now c.args.hosts.now.items c.take_back.new.hosts.items c.take_in_columns.ensures c.settle_all-is_settled.ensures.same c.take_back.ensures.returned

pub returns-then-is_settled-clause-closed : goal.returns-then-is_settled-clause-closed
returns-then-is_settled-clause-closed g c = all-closed c.args.bodies.items c.take_in_columns.new.bodies.items c.settle_all-is_settled.new.bodies.items _ c.in_ok-ports.ports.items
    c.requires.lanes.all c.take_in_columns.ensures c.settle_all-is_settled.ensures.same (c.settle_all-is_settled.ensures.settled c.if-is_settled.true) c.in_ok-ports.ensures.left

pub returns-then-is_settled-clause-stand : goal.returns-then-is_settled-clause-stand
returns-then-is_settled-clause-stand g c = all-stand g.D.Driver.kind g.D.Driver.stage g.D.Driver.faults g.D.Driver.own g.D.Driver.program c.args.bodies.items c.take_in_columns.new.bodies.items
    c.settle_all-is_settled.new.bodies.items _ c.args.places.now c.args.hosts.now.items c.take_back.new.hosts.items c.in_ok-ports.ports.items c.take_in_columns.ensures c.settle_all-is_settled.ensures.same
    (c.settle_all-is_settled.ensures.settled c.if-is_settled.true) c.in_ok-ports.ensures.left c.take_back.ensures.returned

pub returns-else-is_settled-clause-returned : goal.returns-else-is_settled-clause-returned
returns-else-is_settled-clause-returned g c = come-back g.D.Driver.kind g.D.Driver.stage g.D.Driver.faults g.D.Driver.own g.D.Driver.program c.args.bodies.items c.take_in_columns.new.bodies.items
    c.settle_all-is_settled.new.bodies.items _ c.args.places.now c.args.hosts.now.items c.take_back.new.hosts.items c.take_in_columns.ensures c.settle_all-is_settled.ensures.same c.take_back.ensures.returned
