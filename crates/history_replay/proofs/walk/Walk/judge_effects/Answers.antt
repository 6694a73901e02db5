use Rattle.history_replay.proofs.Steps.{tells-handled}
use Rattle.history_replay.proofs.walk.Walk.judge_effects.Goals as goal

pub returns-in-Handled-clause-tells : goal.returns-in-Handled-clause-tells
returns-in-Handled-clause-tells c =
    let row = c.in-Handled in
    tells-handled c.handle.result c.args.self.now c.args.row.now row.from row.seq row.task row.outside c.as_slice.result.now row.effects c.as_slice-in-Handled.result.now c.handle.new.self
    row.is c.as_slice.ensures.items c.as_slice-in-Handled.ensures.items c.handle.ensures
