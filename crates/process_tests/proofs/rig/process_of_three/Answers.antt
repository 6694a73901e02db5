use Rattle.process_tests.proofs.Parts.{three-parts}
use Rattle.process_tests.proofs.rig.process_of_three.Goals as goal

pub new-requires : goal.new-requires
new-requires c = three-parts 0 c.args.mailbox _ _ _ c.args.one.lane c.args.two.lane c.args.three.lane c.args.one.seat c.args.two.seat c.args.three.seat c.args.one.soft c.args.two.soft c.args.three.soft
    c.in_ok-lanes.ensures c.in_ok-seats.ensures c.in_ok-soft.ensures c.requires.numbers c.args.one.fresh c.args.two.fresh c.args.three.fresh c.requires.untaken
