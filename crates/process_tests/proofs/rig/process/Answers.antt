use Rattle.process_tests.proofs.Parts.{one-parts}
use Rattle.process_tests.proofs.rig.process.Goals as goal

pub new-requires : goal.new-requires
new-requires c = one-parts 0 c.args.mailbox _ _ _ c.args.side.lane c.args.side.seat c.args.side.soft
    c.in_ok-lanes.ensures c.in_ok-seats.ensures c.in_ok-soft.ensures c.requires.number c.args.side.fresh c.requires.untaken
