use Rattle.port_driver.specs.declared.life.Life.{Life}
use Rattle.sample_drivers.specs.declared.refuse.Refused.{Refused}
use Rattle.sample_drivers.specs.declared.refuse.Refused.TheVariants.{General, Errno, Badarg}
use Rattle.driver_model.specs.Calls.{Kind, Refuse1, Refuse2, Refuse3}

-- a driver that never starts: how it refuses, and where it stands in its life
pub record Refuser : Type 0 where
  pub refused : Refused
  pub life : Life

-- the kind that refuses so
abbrev pub kind_of : Refused → Kind
kind_of General = Refuse1
kind_of Errno = Refuse2
kind_of Badarg = Refuse3
