use Rattle.history_state.proofs.Steps.{marks-one}
use Rattle.history_state.proofs.state.HistoryState.note_mark.Goals as goal

pub returns : goal.returns
returns c = marks-one c.args.self.now c.put.new.self c.args.kind c.put.ensures
