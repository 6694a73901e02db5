use Rattle.sample_drivers.proofs.Tallies.{tally_watches}
use Rattle.sample_drivers.proofs.tally.TallyDriver.control.Goals as goal

pub returns-then-op-eq2-clause-did : goal.returns-then-op-eq2-clause-did
returns-then-op-eq2-clause-did c = tally_watches _ _ _ _ _ _ _ c.if-op-eq2.true c.in_ok-answer.ensures.watched c.in_ok-answer.ensures.answer
