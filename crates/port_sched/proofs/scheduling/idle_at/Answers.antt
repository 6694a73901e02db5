use Rattle.std.proofs.Common.{[]}
use Rattle.port_sched.proofs.Begun.{begin_at, keeps_none, keeps_idle}
use Rattle.port_sched.proofs.HomeSteps.{use_at, home_at, no_tickets}
use Rattle.port_sched.proofs.scheduling.idle_at.Goals as goal

pub idle_turn-requires : goal.idle_turn-requires
idle_turn-requires g c = (home_at c.args.homes.now.items c.args.port _ c.requires.port.0 c.index_mut.ensures.value c.requires.homes).1

pub returns-in_err-turn-clause-homes : goal.returns-in_err-turn-clause-homes
returns-in_err-turn-clause-homes g c = use_at c.args.homes.now.items c.args.port _ _ [] [] [] []
    (no_tickets c.args.port) (no_tickets c.args.port) c.requires.port.0 c.index_mut.ensures.value c.requires.homes c.in_err-turn.ensures.step

pub returns-in_err-turn-clause-counts : goal.returns-in_err-turn-clause-counts
returns-in_err-turn-clause-counts g c = keeps_none _ _ _ (begin_at 0 0 c.args.homes.now.items c.args.port _ _ c.requires.port.0 c.index_mut.ensures.value c.in_err-turn.ensures.busy)

pub returns-clause-homes : goal.returns-clause-homes
returns-clause-homes g c = use_at c.args.homes.now.items c.args.port _ _ [] [] [] []
    (no_tickets c.args.port) (no_tickets c.args.port) c.requires.port.0 c.index_mut.ensures.value c.requires.homes c.in_ok-turn.ensures.step

pub returns-clause-counts : goal.returns-clause-counts
returns-clause-counts g c = keeps_idle _ _ _ _ (begin_at 0 1 c.args.homes.now.items c.args.port _ _ c.requires.port.0 c.index_mut.ensures.value c.in_ok-turn.ensures.begun) c.add_idle.ensures
