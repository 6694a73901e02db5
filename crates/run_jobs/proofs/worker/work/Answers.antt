use Rattle.std.proofs.Common.{[], refl, sym, subst}
use Rattle.port_sched.proofs.Looks.{looked_none, looked_then}
use Rattle.run_jobs.proofs.Wakes.{nothing_woken, woken_ok, woken_then}
use Rattle.run_jobs.proofs.Works.{WorksSo, works_none, works_more, works_failed}
use Rattle.run_jobs.proofs.worker.work.Goals as goal

pub turns-init : goal.turns-init
turns-init g c = (works_none c.args.jobs.now c.args.lanes.now.items, looked_none c.args.over.now, nothing_woken c.args.seats.now c.requires.homes)

pub turns-preserved-in-Answered : goal.turns-preserved-in-Answered
turns-preserved-in-Answered g c =
    let inv = c.turns.invariant in
    let did = c.in-Answered.ensures.step in
    let woke = c.in-Answered.ensures.woke in (
      works_more c.args.jobs.now c.turns.jobs c.turn.new.jobs c.args.lanes.now.items c.turns.lanes.items c.turn.new.lanes.items did.0 inv.0 did.1 did.2,
      inv.1,
      woken_then [] c.args.seats.now c.turns.seats c.turn.new.seats inv.2 (woken_ok woke.0 c.turns.seats c.turn.new.seats woke.1 woke.2),
    )

pub returns-then-is_stopped-clause-woke : goal.returns-then-is_stopped-clause-woke
returns-then-is_stopped-clause-woke g c =
    let woke = c.in-Empty.ensures.woke in
    ([], refl, woken_then [] c.args.seats.now c.turns.seats c.turn.new.seats c.turns.invariant.2 (woken_ok woke.0 c.turns.seats c.turn.new.seats woke.1 woke.2))

pub turns-preserved : goal.turns-preserved
turns-preserved g c =
    let inv = c.turns.invariant in
    let same = c.in-Empty.ensures.step in
    let woke = c.in-Empty.ensures.woke in (
      subst (λ j. WorksSo c.args.jobs.now j c.args.lanes.now.items c.turn.new.lanes.items) (sym same.0) (subst (WorksSo c.args.jobs.now c.turns.jobs c.args.lanes.now.items) (sym same.1) inv.0),
      looked_then c.args.over.now c.turns.over c.is_stopped.new.over inv.1 c.is_stopped.ensures.looked,
      woken_then [] c.args.seats.now c.turns.seats c.turn.new.seats inv.2 (woken_ok woke.0 c.turns.seats c.turn.new.seats woke.1 woke.2),
    )

pub returns-in-Finished-clause-woke : goal.returns-in-Finished-clause-woke
returns-in-Finished-clause-woke g c =
    let woke = c.in-Finished.ensures.woke in
    (woke.0, woke.1, woken_then woke.0 c.args.seats.now c.turns.seats c.turn.new.seats c.turns.invariant.2 woke.2)

pub returns-in-NoMemory-clause-worked : goal.returns-in-NoMemory-clause-worked
returns-in-NoMemory-clause-worked g c =
    let did = c.in-NoMemory.ensures.step in
    works_failed c.args.jobs.now c.turns.jobs c.turn.new.jobs c.args.lanes.now.items c.turns.lanes.items c.turn.new.lanes.items did.0 did.2.0 did.2.1 c.turns.invariant.0 did.1 did.2.2 did.2.3

pub returns-in-NoMemory-clause-woke : goal.returns-in-NoMemory-clause-woke
returns-in-NoMemory-clause-woke g c =
    let woke = c.in-NoMemory.ensures.woke in
    (woke.0, woke.1, woken_then woke.0 c.args.seats.now c.turns.seats c.turn.new.seats c.turns.invariant.2 woke.2)
