use Rattle.std.proofs.Common.{ap, ◌∙◌}
use Rattle.port_history.specs.Laws.{is_next}
use Rattle.history_state.proofs.state.HistoryState.is_next_task.Goals as goal

pub returns : goal.returns
returns c = λ port s is. c.is_next.ensures port s is ∙ ap (is_next s c.args.from c.args.seq) c.signal.ensures
