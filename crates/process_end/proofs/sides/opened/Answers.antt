use Rattle.process_end.proofs.Opening.{ports-opened}
use Rattle.process_end.proofs.sides.opened.Goals as goal

pub invariant_of-result : goal.invariant_of-result
invariant_of-result c = ports-opened c.args.parts.number c.args.parts.mailbox c.args.parts.lanes.items c.args.parts.seats.items c.args.parts.soft.items
    c.no_receipts-receipts.result.items c.requires c.no_receipts-receipts.ensures
