use Rattle.std.proofs.Common.{[], refl, ◌∙◌}
use Rattle.port_sched.proofs.Served.{kept_err}
use Rattle.sched_load.proofs.Puts.{nothing_woken, put_ok, woken_then}
use Rattle.sched_load.proofs.putter.put_all.Goals as goal

pub numbers-init : goal.numbers-init
numbers-init g c = (refl, nothing_woken c.args.seats.now c.requires.homes)

pub returns-in_err-put_round : goal.returns-in_err-put_round
returns-in_err-put_round g c =
    let f = c.in_err-put_round.ensures.woke in
    (f.0, kept_err c.from_residual.result c.from_residual.ensures.0 f.0 f.1, woken_then f.0 _ _ _ c.numbers.invariant.1 f.2)

pub numbers-preserved : goal.numbers-preserved
numbers-preserved g c =
    let f = c.in_ok-put_round.ensures.woke in
    (c.in_ok-put_round.ensures.many ∙ c.numbers.invariant.0, woken_then [] _ _ _ c.numbers.invariant.1 (put_ok f.0 _ _ f.1 f.2))

pub returns : goal.returns
returns g c = ([], refl, c.numbers.invariant.1)
