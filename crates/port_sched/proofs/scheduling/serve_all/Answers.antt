use Rattle.std.proofs.Common.{[]}
use Rattle.port_sched.proofs.Begun.{keeps_then}
use Rattle.port_sched.proofs.Looks.{looked_none, looked_then}
use Rattle.port_sched.proofs.Served.{served_none, served_then, served_all}
use Rattle.port_sched.proofs.scheduling.serve_all.Goals as goal

pub rounds-init : goal.rounds-init
rounds-init g c = (c.requires.homes, served_none _ _, looked_none c.args.over.now, λ start are. are)

pub rounds-preserved-in-Ok-true : goal.rounds-preserved-in-Ok-true
rounds-preserved-in-Ok-true g c =
    let f = c.in-Ok-true.ensures.tickets in (
      c.serve.ensures.homes,
      served_then [] [] _ _ _ _ _ _ c.rounds.invariant.1 (served_all [] f.0 _ _ _ _ f.1 f.2),
      looked_then _ _ _ c.rounds.invariant.2 c.is_over.ensures.looked,
      keeps_then _ _ _ _ _ _ c.rounds.invariant.3 c.serve.ensures.counts,
    )

pub rounds-preserved : goal.rounds-preserved
rounds-preserved g c =
    let f = c.in-Ok-false.ensures.tickets in (
      c.serve.ensures.homes,
      served_then [] [] _ _ _ _ _ _ c.rounds.invariant.1 (served_all [] f.0 _ _ _ _ f.1 f.2),
      looked_then _ _ _ c.rounds.invariant.2 c.is_over.ensures.looked,
      keeps_then _ _ _ _ _ _ c.rounds.invariant.3 c.serve.ensures.counts,
    )

pub returns-in-Err-clause-tickets : goal.returns-in-Err-clause-tickets
returns-in-Err-clause-tickets g c =
    let f = c.in-Err.ensures.tickets in
    (f.0, f.1, served_then [] f.0 _ _ _ _ _ _ c.rounds.invariant.1 f.2)

pub returns-in-Err-clause-counts : goal.returns-in-Err-clause-counts
returns-in-Err-clause-counts g c = keeps_then _ _ _ _ _ _ c.rounds.invariant.3 c.in-Err.ensures.counts
