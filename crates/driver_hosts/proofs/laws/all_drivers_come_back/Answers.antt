use Rattle.driver_hosts.proofs.ComingBack.{refused-come-back, served-come-back}
use Rattle.driver_hosts.proofs.laws.all_drivers_come_back.Goals as goal

pub returns-clause-served : goal.returns-clause-served
returns-clause-served g c = served-come-back _ _ _ _ _

pub returns-clause-refused : goal.returns-clause-refused
returns-clause-refused g c = refused-come-back _ _ _
