use Rattle.std.proofs.Common.{[], ◌∷◌, refl, arith}
use Rattle.port_sched.proofs.Begun.{keeps_none, keeps_then}
use Rattle.port_sched.proofs.Served.{served_homes, served_then, served_strange, served_all, kept_err}
use Rattle.port_sched.proofs.scheduling.serve_ticket.Goals as goal

pub returns-then-port-len-clause-tickets : goal.returns-then-port-len-clause-tickets
returns-then-port-len-clause-tickets g c =
    let len = c.len.ensures in
    let size = c.args.homes.now.ok.0 in
    let far = c.if-port-len.true in
    ([], refl, served_strange c.args.ticket _ _ (omega arith))

pub returns-in_err-follow-clause-tickets : goal.returns-in_err-follow-clause-tickets
returns-in_err-follow-clause-tickets g c =
    let f = c.in_err-follow.ensures.tickets in
    let held = c.args.ticket ∷ [] in
    (f.0, kept_err c.from_residual.result c.from_residual.ensures.0 f.0 f.1, served_then held f.0 _ _ _ _ _ _ (served_homes held [] _ _ _ c.claim_at-turn.ensures.homes.1) f.2)

pub returns-clause-tickets : goal.returns-clause-tickets
returns-clause-tickets g c =
    let f = c.in_ok-follow.ensures.tickets in
    let held = c.args.ticket ∷ [] in
    ([], refl, served_then held [] _ _ _ _ _ _ (served_homes held [] _ _ _ c.claim_at-turn.ensures.homes.1) (served_all [] f.0 _ _ _ _ f.1 f.2))

pub returns-in_err-follow-clause-counts : goal.returns-in_err-follow-clause-counts
returns-in_err-follow-clause-counts g c = keeps_then _ _ _ _ _ _ c.claim_at-turn.ensures.counts (keeps_none _ _ _ c.in_err-follow.ensures.begun)

pub returns-clause-counts : goal.returns-clause-counts
returns-clause-counts g c = keeps_then _ _ _ _ _ _ c.claim_at-turn.ensures.counts (keeps_none _ _ _ c.in_ok-follow.ensures.begun)
