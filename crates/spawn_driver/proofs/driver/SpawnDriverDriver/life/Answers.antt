use Rattle.spawn_driver.proofs.Starts.{tells-of-program}
use Rattle.spawn_driver.proofs.driver.SpawnDriverDriver.life.Goals as goal

pub returns-clause-told : goal.returns-clause-told
returns-clause-told g c = tells-of-program c.args.self.now.program
