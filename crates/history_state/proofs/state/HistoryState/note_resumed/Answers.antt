use Rattle.history_state.proofs.Steps.{resumes-one}
use Rattle.history_state.proofs.state.HistoryState.note_resumed.Goals as goal

pub returns : goal.returns
returns c = resumes-one c.args.self.now c.resume.new.self c.args.from c.args.seq c.args.word c.resume.ensures
