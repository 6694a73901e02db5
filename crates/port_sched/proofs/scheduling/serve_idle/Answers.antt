use Rattle.std.proofs.Common.{[]}
use Rattle.port_sched.proofs.Begun.{keeps_none, keeps_then}
use Rattle.port_sched.proofs.Served.{served_none, served_homes, served_then, served_all, kept_err}
use Rattle.port_sched.proofs.scheduling.serve_idle.Goals as goal

pub ports-init : goal.ports-init
ports-init g c = (c.requires.homes, served_none _ _, λ start are. are)

pub returns-in_err-follow-clause-tickets : goal.returns-in_err-follow-clause-tickets
returns-in_err-follow-clause-tickets g c =
    let f = c.in_err-follow.ensures.tickets in (
      f.0,
      kept_err c.from_residual.result c.from_residual.ensures.0 f.0 f.1,
      served_then [] f.0 _ _ _ _ _ _ c.ports.invariant.1 (served_then [] f.0 _ _ _ _ _ _ (served_homes [] [] _ _ _ c.idle_at-turn.ensures.homes.1) f.2),
    )

pub returns-in_err-follow-clause-counts : goal.returns-in_err-follow-clause-counts
returns-in_err-follow-clause-counts g c =
    keeps_then _ _ _ _ _ _ c.ports.invariant.2 (keeps_then _ _ _ _ _ _ c.idle_at-turn.ensures.counts (keeps_none _ _ _ c.in_err-follow.ensures.begun))

pub ports-preserved : goal.ports-preserved
ports-preserved g c =
    let f = c.in_ok-follow.ensures.tickets in (
      c.follow.ensures.homes,
      served_then [] [] _ _ _ _ _ _ c.ports.invariant.1 (served_then [] [] _ _ _ _ _ _ (served_homes [] [] _ _ _ c.idle_at-turn.ensures.homes.1) (served_all [] f.0 _ _ _ _ f.1 f.2)),
      keeps_then _ _ _ _ _ _ c.ports.invariant.2 (keeps_then _ _ _ _ _ _ c.idle_at-turn.ensures.counts (keeps_none _ _ _ c.in_ok-follow.ensures.begun)),
    )
