use Rattle.std.proofs.Common.{reverse, take, subst, arith}
use Rattle.std.proofs.lemmas.List.{take_all}
use Rattle.port_history.specs.State.{state}
use Rattle.history_replay.specs.Walked.{Takes}
use Rattle.history_replay.proofs.Rows.{AllTaken, taken-next, breaks-here}
use Rattle.history_replay.proofs.walk.Walk.take_all.Goals as goal

pub returns-in-Some : goal.returns-in-Some
returns-in-Some c = λ port start.
    let rows = c.args.rows.now in
    let so_far = c.loop-at.invariant port start in
    let s = state port (reverse (take c.loop-at.at rows)) in
    breaks-here port rows c.loop-at.at c.index-rows-at.result c.in-Some.law c.take.new.self c.loop-at-test.true c.index-rows-at.is so_far.0
    (subst (λ law. Takes port s c.index-rows-at.result law c.take.new.self) c.in-Some.is (c.in_ok-law.ensures port s so_far.1))

pub loop-at-preserved : goal.loop-at-preserved
loop-at-preserved c = λ port start.
    let rows = c.args.rows.now in
    let so_far = c.loop-at.invariant port start in
    let s = state port (reverse (take c.loop-at.at rows)) in
    taken-next port rows c.loop-at.at c.index-rows-at.result c.take.new.self c.loop-at-test.true c.index-rows-at.is so_far.0
    (subst (λ law. Takes port s c.index-rows-at.result law c.take.new.self) c.in_default.is (c.in_ok-law.ensures port s so_far.1))

pub returns : goal.returns
returns c = λ port start.
    subst (λ rows. AllTaken port rows c.loop-at.self) (take_all c.loop-at.at c.args.rows.now (omega arith)) (c.loop-at.invariant port start)
