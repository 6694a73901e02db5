use Rattle.std.proofs.Common.{sym}
use Rattle.crowd_tests.proofs.Parts.{one-parts}
use Rattle.crowd_tests.proofs.rig.process.Goals as goal

pub new-requires : goal.new-requires
new-requires c = one-parts _ c.args.mailbox _ _ _ c.args.side.lane c.args.side.seat c.args.side.soft
    c.in_ok-lanes.ensures c.in_ok-seats.ensures c.in_ok-soft.ensures (sym c.number-number.ensures) c.args.side.fresh c.requires
