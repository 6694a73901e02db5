use Rattle.process_end.specs.Views.{proc_view}
use Rattle.process_end.proofs.Heard.{look-made}
use Rattle.process_end.proofs.sides.Sides.look.Goals as goal

pub invariant_of-self : goal.invariant_of-self
invariant_of-self c = (look-made c.args.self.now (proc_view c.self.inside.number c.self.inside.mailbox c.self.inside.lanes.items c.self.inside.seats.items c.self.inside.soft.items c.self.inside.receipts.items c.self.inside.undone c.self.inside.told)
    c.look_at.new.seats.items c.args.port c.look_at.result c.self.view_is c.self.invariant c.requires c.look_at.ensures.same c.look_at.ensures.many c.look_at.ensures.seat c.look_at.ensures.looks).ports

pub returns : goal.returns
returns c = (look-made c.args.self.now (proc_view c.self.inside.number c.self.inside.mailbox c.self.inside.lanes.items c.self.inside.seats.items c.self.inside.soft.items c.self.inside.receipts.items c.self.inside.undone c.self.inside.told)
    c.look_at.new.seats.items c.args.port c.look_at.result c.self.view_is c.self.invariant c.requires c.look_at.ensures.same c.look_at.ensures.many c.look_at.ensures.seat c.look_at.ensures.looks).looked
