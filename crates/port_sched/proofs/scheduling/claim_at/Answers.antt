use Rattle.std.proofs.Common.{[], ◌∷◌, sym, ◌∙◌}
use Rattle.port_sched.proofs.Begun.{begin_at, keeps_none, keeps_queued}
use Rattle.port_sched.proofs.HomeSteps.{use_at, home_at, no_tickets, one_ticket}
use Rattle.port_sched.proofs.scheduling.claim_at.Goals as goal

pub claim_turn-requires-clause-port : goal.claim_turn-requires-clause-port
claim_turn-requires-clause-port g c = c.requires.port.1 ∙ sym (home_at c.args.homes.now.items c.args.port _ c.requires.port.0 c.index_mut.ensures.value c.requires.homes).0

pub claim_turn-requires-clause-rests : goal.claim_turn-requires-clause-rests
claim_turn-requires-clause-rests g c = (home_at c.args.homes.now.items c.args.port _ c.requires.port.0 c.index_mut.ensures.value c.requires.homes).1

pub returns-in_err-turn-clause-homes : goal.returns-in_err-turn-clause-homes
returns-in_err-turn-clause-homes g c = use_at c.args.homes.now.items c.args.port _ _ (c.args.ticket.turn ∷ []) [] (c.args.ticket ∷ []) []
    (one_ticket c.args.ticket c.args.port c.requires.port.1) (no_tickets c.args.port) c.requires.port.0 c.index_mut.ensures.value c.requires.homes c.in_err-turn.ensures.step

pub returns-in_err-turn-clause-counts : goal.returns-in_err-turn-clause-counts
returns-in_err-turn-clause-counts g c = keeps_none _ _ _ (begin_at 0 0 c.args.homes.now.items c.args.port _ _ c.requires.port.0 c.index_mut.ensures.value c.in_err-turn.ensures.stale)

pub returns-clause-homes : goal.returns-clause-homes
returns-clause-homes g c = use_at c.args.homes.now.items c.args.port _ _ (c.args.ticket.turn ∷ []) [] (c.args.ticket ∷ []) []
    (one_ticket c.args.ticket c.args.port c.requires.port.1) (no_tickets c.args.port) c.requires.port.0 c.index_mut.ensures.value c.requires.homes c.in_ok-turn.ensures.step

pub returns-clause-counts : goal.returns-clause-counts
returns-clause-counts g c = keeps_queued _ _ _ _ (begin_at 1 0 c.args.homes.now.items c.args.port _ _ c.requires.port.0 c.index_mut.ensures.value c.in_ok-turn.ensures.begun) c.add_queued.ensures
