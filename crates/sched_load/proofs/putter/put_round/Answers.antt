use Rattle.std.proofs.Common.{[], refl, ◌∙◌}
use Rattle.port_sched.proofs.Served.{kept_err}
use Rattle.sched_load.proofs.Puts.{nothing_woken, put_ok, woken_then}
use Rattle.sched_load.proofs.putter.put_round.Goals as goal

pub ports-init : goal.ports-init
ports-init g c = (refl, nothing_woken c.args.seats.now c.requires.homes)

pub returns-in_err-put_one-clause-woke : goal.returns-in_err-put_one-clause-woke
returns-in_err-put_one-clause-woke g c =
    let f = c.in_err-put_one.ensures.woke in
    (f.0, kept_err c.from_residual.result c.from_residual.ensures.0 f.0 f.1, woken_then f.0 _ _ _ c.ports.invariant.1 f.2)

pub ports-preserved : goal.ports-preserved
ports-preserved g c =
    let f = c.in_ok-put_one.ensures.woke in
    (c.in_ok-put_one.ensures.many ∙ c.ports.invariant.0, woken_then [] _ _ _ c.ports.invariant.1 (put_ok f.0 _ _ f.1 f.2))

pub returns-clause-woke : goal.returns-clause-woke
returns-clause-woke g c = ([], refl, c.ports.invariant.1)
