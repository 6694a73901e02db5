-- The drivers that refuse to start have no effect and keep nothing.
use Rattle.std.proofs.Common.{arith, refl}
use Rattle.std.specs.Prelude.{None}
use Rattle.driver_model.specs.Calls.{Nothing}
use Rattle.port_driver.specs.Driven.{Ended}
use Rattle.sample_drivers.specs.declared.refuse.Refused.{Refused}
use Rattle.sample_drivers.specs.declared.refuse.Refused.TheVariants.{General, Errno, Badarg}
use Rattle.sample_drivers.specs.Refusals.{kind_of}

pub refuse_ended : (refused : Refused) → Ended (kind_of refused) Nothing Nothing None None
refuse_ended General = record {
  follows = λ config earlier context before.
      record { stands = record { holds = before.holds; jobs = let j = before.jobs in omega (arith, j); events = before.events; told = before.told }; effects = refl; answered = refl };
}
refuse_ended Errno = record {
  follows = λ config earlier context before.
      record { stands = record { holds = before.holds; jobs = let j = before.jobs in omega (arith, j); events = before.events; told = before.told }; effects = refl; answered = refl };
}
refuse_ended Badarg = record {
  follows = λ config earlier context before.
      record { stands = record { holds = before.holds; jobs = let j = before.jobs in omega (arith, j); events = before.events; told = before.told }; effects = refl; answered = refl };
}
