use Rattle.std.proofs.Common.{[], ◌∷◌, refl, arith}
use Rattle.port_sched.proofs.Wakings.{woke_kept, woke_put}
use Rattle.port_sched.proofs.waking.JobSeats.wake.Goals as goal

pub returns-in-Ok-clause-tickets : goal.returns-in-Ok-clause-tickets
returns-in-Ok-clause-tickets g c = ([], refl, woke_put c.in-Some.ticket _ _ _ _ c.in-Some.ensures.homes.1 c.in-Ok.ensures.ok)

pub returns-in-Err-clause-tickets : goal.returns-in-Err-clause-tickets
returns-in-Err-clause-tickets g c = (c.in-Some.ticket ∷ [], omega arith, woke_kept (c.in-Some.ticket ∷ []) _ _ _ _ c.in-Some.ensures.homes.1 c.in-Err.ensures.refused.1)

pub returns-in_default-clause-tickets : goal.returns-in_default-clause-tickets
returns-in_default-clause-tickets g c = ([], refl, woke_kept [] _ _ _ _ c.in_default.ensures.homes.1 refl)
