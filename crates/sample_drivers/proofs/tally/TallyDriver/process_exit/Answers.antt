use Rattle.std.proofs.lemmas.Result.{on_ok_weaker}
use Rattle.sample_drivers.proofs.Tallies.{tally_told}
use Rattle.sample_drivers.proofs.tally.TallyDriver.process_exit.Goals as goal

pub returns-clause-did : goal.returns-clause-did
returns-clause-did c = on_ok_weaker c.send.result (λ sent. tally_told _ _ _ c.in_ok-told.told _ _ sent c.in_ok-told.ensures) c.send.ensures.ok
