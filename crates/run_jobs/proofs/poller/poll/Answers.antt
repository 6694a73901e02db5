use Rattle.std.proofs.Common.{[], refl}
use Rattle.port_sched.proofs.Looks.{looked_none, looked_then}
use Rattle.run_jobs.specs.declared.poller.RoundEnd.TheVariants as round
use Rattle.run_jobs.proofs.Wakes.{nothing_woken, woken_ok, woken_then}
use Rattle.run_jobs.proofs.Polls.{polls_none, polls_more, polls_stopped, polls_finished, polls_faulted, polls_failed}
use Rattle.run_jobs.proofs.poller.poll.Goals as goal

pub rounds-init : goal.rounds-init
rounds-init g c = (polls_none _ c.args.lanes.now.items, looked_none c.args.over.now, nothing_woken c.args.seats.now c.requires.homes)

pub rounds-preserved-in-Told : goal.rounds-preserved-in-Told
rounds-preserved-in-Told g c =
    let inv = c.rounds.invariant in
    let r = c.in-Told.ensures.round in
    let w = c.in-Told.ensures.woke in (
      polls_more round.Told _ _ _ _ _ _ inv.0 r r.ends.0 r.ends.1,
      inv.1,
      woken_then [] c.args.seats.now c.rounds.seats c.round.new.seats inv.2 (woken_ok w.0 c.rounds.seats c.round.new.seats w.1 w.2),
    )

pub returns-then-is_stopped-clause-polls : goal.returns-then-is_stopped-clause-polls
returns-then-is_stopped-clause-polls g c =
    let r = c.in-Quiet.ensures.round in
    polls_stopped _ _ _ _ (polls_more round.Quiet _ _ _ _ _ _ c.rounds.invariant.0 r r.ends.0 r.ends.1)

pub returns-then-is_stopped-clause-woke : goal.returns-then-is_stopped-clause-woke
returns-then-is_stopped-clause-woke g c =
    let w = c.in-Quiet.ensures.woke in
    ([], refl, woken_then [] c.args.seats.now c.rounds.seats c.round.new.seats c.rounds.invariant.2 (woken_ok w.0 c.rounds.seats c.round.new.seats w.1 w.2))

pub rounds-preserved : goal.rounds-preserved
rounds-preserved g c =
    let inv = c.rounds.invariant in
    let r = c.in-Quiet.ensures.round in
    let w = c.in-Quiet.ensures.woke in (
      polls_more round.Quiet _ _ _ _ _ _ inv.0 r r.ends.0 r.ends.1,
      looked_then c.args.over.now c.rounds.over c.is_stopped.new.over inv.1 c.is_stopped.ensures.looked,
      woken_then [] c.args.seats.now c.rounds.seats c.round.new.seats inv.2 (woken_ok w.0 c.rounds.seats c.round.new.seats w.1 w.2),
    )

pub returns-in-Finished-clause-polls : goal.returns-in-Finished-clause-polls
returns-in-Finished-clause-polls g c = polls_finished _ _ _ _ _ _ c.rounds.invariant.0 c.in-Finished.ensures.round

pub returns-in-Finished-clause-woke : goal.returns-in-Finished-clause-woke
returns-in-Finished-clause-woke g c =
    let w = c.in-Finished.ensures.woke in
    (w.0, w.1, woken_then w.0 c.args.seats.now c.rounds.seats c.round.new.seats c.rounds.invariant.2 w.2)

pub returns-in-Failed-clause-polls : goal.returns-in-Failed-clause-polls
returns-in-Failed-clause-polls g c = polls_faulted _ _ _ _ _ _ c.rounds.invariant.0 c.in-Failed.ensures.round

pub returns-in-Failed-clause-woke : goal.returns-in-Failed-clause-woke
returns-in-Failed-clause-woke g c =
    let w = c.in-Failed.ensures.woke in
    (w.0, w.1, woken_then w.0 c.args.seats.now c.rounds.seats c.round.new.seats c.rounds.invariant.2 w.2)

pub returns-in-NoMemory-clause-polls : goal.returns-in-NoMemory-clause-polls
returns-in-NoMemory-clause-polls g c = polls_failed _ _ _ _ _ _ c.rounds.invariant.0 c.in-NoMemory.ensures.round

pub returns-in-NoMemory-clause-woke : goal.returns-in-NoMemory-clause-woke
returns-in-NoMemory-clause-woke g c =
    let w = c.in-NoMemory.ensures.woke in
    (w.0, w.1, woken_then w.0 c.args.seats.now c.rounds.seats c.round.new.seats c.rounds.invariant.2 w.2)
