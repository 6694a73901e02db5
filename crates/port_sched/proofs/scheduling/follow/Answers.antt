use Rattle.std.proofs.Common.{[], ◌∷◌, refl, arith}
use Rattle.port_sched.proofs.Served.{served_none, served_next, served_kept, kept_err}
use Rattle.port_sched.proofs.scheduling.follow.Goals as goal

pub returns-in_err-queue_next-in-Some-More-clause-tickets : goal.returns-in_err-queue_next-in-Some-More-clause-tickets
returns-in_err-queue_next-in-Some-More-clause-tickets g c =
    let next = c.in_err-queue_next-in-Some-More.ensures.refused in
    (next.0 ∷ [], kept_err c.from_residual.result c.from_residual.ensures.0 (next.0 ∷ []) (omega arith), served_kept c.args.port _ _ _ _ next)

pub returns-in-Some-NoMemory-clause-tickets : goal.returns-in-Some-NoMemory-clause-tickets
returns-in-Some-NoMemory-clause-tickets g c = ([], omega arith, served_none _ _)

pub returns-in_ok-queue_next-in-Some-More-clause-tickets : goal.returns-in_ok-queue_next-in-Some-More-clause-tickets
returns-in_ok-queue_next-in-Some-More-clause-tickets g c = ([], refl, served_next c.args.port _ _ _ _ c.in_ok-queue_next-in-Some-More.ensures.ok)
