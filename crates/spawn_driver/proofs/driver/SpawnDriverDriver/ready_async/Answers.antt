use Rattle.std.proofs.Common.{refl}
use Rattle.spawn_driver.proofs.Quiet.{Did-quiet-of}
use Rattle.spawn_driver.proofs.driver.SpawnDriverDriver.ready_async.Goals as goal

pub returns-clause-did : goal.returns-clause-did
returns-clause-did g c =
    Did-quiet-of _ _ _
    (record { framed = λ config. refl; busy = λ config busy size. refl; read = λ event. refl; write = λ event. refl; effects = λ config earlier caller. refl; answered = λ config earlier. refl })
