use Rattle.history_state.proofs.Steps.{lists-one}
use Rattle.history_state.proofs.state.HistoryState.note_listed.Goals as goal

pub returns : goal.returns
returns c = lists-one c.list.result c.args.self.now c.list.new.self c.args.from c.args.seq c.list.ensures
