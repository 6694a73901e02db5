use Rattle.crowd_tests.proofs.Parts.{opened-fresh}
use Rattle.crowd_tests.proofs.rig.table.Goals as goal

pub returns-clause-seats : goal.returns-clause-seats
returns-clause-seats c = opened-fresh _ _ _ c.in_ok-seat.ensures
