use Rattle.std.proofs.Common.{◌≡◌, subst}
use Rattle.std.specs.Prelude.{IfOk}
use Rattle.port_history.specs.Opening.{Opening}
use Rattle.port_history.specs.State.{State}
use Rattle.port_history.specs.Laws.{is_told_right}
use Rattle.history_state.specs.Kept.{IsStateOf}
use Rattle.history_state.proofs.state.HistoryState.is_task_told_right.Goals as goal

pub returns : goal.returns
returns c =
    subst (λ x. IfOk c.is_told_right.result (λ keeps. (port : Opening) (s : State) → IsStateOf c.args.self.now port s → keeps ≡ is_told_right s c.args.handled x)) c.signal.ensures c.is_told_right.ensures
