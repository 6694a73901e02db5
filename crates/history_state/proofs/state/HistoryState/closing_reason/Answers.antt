use Rattle.std.proofs.Common.{is_some, ap, sym, ◌∙◌}
use Rattle.port_history.specs.Service.{first_reason}
use Rattle.port_history.specs.Ties.{failure, signal_reason}
use Rattle.history_state.proofs.Tests.{closed-before, still-open}
use Rattle.history_state.proofs.state.HistoryState.closing_reason.Goals as goal

pub returns-then-is_some : goal.returns-then-is_some
returns-then-is_some c = λ port s seq task outside same is.
    closed-before s.reason (first_reason (failure c.args.effects.now) (signal_reason s.ties c.args.from task.signal)) (ap is_some (sym is.reason_is) ∙ (sym c.is_some.ensures ∙ c.if-is_some.true))

pub returns : goal.returns
returns c = λ port s seq task outside same is.
    c.first_reason.ensures ∙ (ap (λ f. first_reason f c.reason_to_close.result) c.failure.ensures
    ∙ (ap (first_reason (failure c.args.effects.now)) (c.reason_to_close.ensures s.ties is.tied ∙ ap (signal_reason s.ties c.args.from) (sym same))
    ∙ still-open s.reason (first_reason (failure c.args.effects.now) (signal_reason s.ties c.args.from task.signal)) (ap is_some (sym is.reason_is) ∙ (sym c.is_some.ensures ∙ c.if-is_some.false))))
