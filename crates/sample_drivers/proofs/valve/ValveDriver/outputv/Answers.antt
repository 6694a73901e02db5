use Rattle.std.proofs.lemmas.Result.{on_ok_weaker}
use Rattle.sample_drivers.proofs.Nothing.{valve_sent}
use Rattle.sample_drivers.proofs.valve.ValveDriver.outputv.Goals as goal

pub returns-clause-did : goal.returns-clause-did
returns-clause-did c = on_ok_weaker c.send.result (λ sent. valve_sent _ _ c.in_ok-data.data _ _ sent c.in_ok-data.ensures) c.send.ensures.ok
