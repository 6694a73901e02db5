use Rattle.std.proofs.lemmas.Result.{on_ok_weaker}
use Rattle.sample_drivers.proofs.Nothing.{echo_sent}
use Rattle.sample_drivers.proofs.echo.EchoDriver.outputv.Goals as goal

pub returns-clause-did : goal.returns-clause-did
returns-clause-did c = on_ok_weaker c.send.result (λ sent. echo_sent _ c.in_ok-data.data _ _ sent c.in_ok-data.ensures) c.send.ensures.ok
