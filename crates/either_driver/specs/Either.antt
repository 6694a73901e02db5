-- What holds of either of two.
use Rattle.either_driver.specs.declared.either.EitherDriver.{EitherDriver}
use Rattle.either_driver.specs.declared.either.EitherDriver.TheVariants.{First, Second}

-- what is said of the one that is there
abbrev pub of_either : {A B X : Type 0} → (A → X) → (B → X) → EitherDriver A B → X
of_either first second (First driver) = first driver
of_either first second (Second driver) = second driver
