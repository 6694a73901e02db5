use Rattle.std.proofs.Common.{sym}
use Rattle.std.proofs.lemmas.Result.{on_ok_weaker}
use Rattle.run_report.proofs.walk.PortWalk.take.Goals as goal

pub returns-in-Handled-clause-walked : goal.returns-in-Handled-clause-walked
returns-in-Handled-clause-walked c =
    rw c.in-Handled.is (on_ok_weaker c.take_handled.result
    (λ took port older w. rw (← c.as_slice.ensures.items) (took port older c.in-Handled.seq c.in-Handled.task c.in-Handled.outside (sym c.signal.ensures) w))
    c.take_handled.ensures.walked)

pub returns-in-Late-clause-walked : goal.returns-in-Late-clause-walked
returns-in-Late-clause-walked c =
    rw c.in-Late.is (on_ok_weaker c.take_late.result
    (λ took port older w. took port older c.in-Late.seq c.in-Late.task (sym c.signal-in-Late.ensures) w)
    c.take_late.ensures.walked)
