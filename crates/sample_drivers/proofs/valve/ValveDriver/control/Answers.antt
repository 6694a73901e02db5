use Rattle.std.proofs.lemmas.Result.{IfOk-weaker}
use Rattle.sample_drivers.proofs.Nothing.{valve_set}
use Rattle.sample_drivers.proofs.valve.ValveDriver.control.Goals as goal

pub returns-clause-did : goal.returns-clause-did
returns-clause-did c = IfOk-weaker c.answer.result _ _ (λ answer sets. valve_set _ _ _ _ _ answer sets) c.answer.ensures.sets
