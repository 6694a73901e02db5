use Rattle.std.proofs.Common.{ap, ◌∙◌}
use Rattle.port_history.specs.Laws.{is_served}
use Rattle.history_state.proofs.state.HistoryState.is_task_served.Goals as goal

pub returns : goal.returns
returns c = λ port s is. c.is_served.ensures port s is ∙ ap (is_served s c.args.handled) c.signal.ensures
