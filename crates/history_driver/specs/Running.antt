-- A driver that was started for a history, as contracts see it.
use Rattle.driver_model.specs.Calls.{Kind, Spawn, Own, Running}
use Rattle.history_driver.specs.declared.running.RunningDriver.{RunningDriver}
use Rattle.history_driver.specs.declared.running.RunningDriver.TheVariants.{Sample, Program}

abbrev pub kind_in : RunningDriver → Kind
kind_in (Sample driver) = driver.kind
kind_in (Program program) = Spawn

-- what it keeps beside its queue
abbrev pub own_in : RunningDriver → Own
own_in (Sample driver) = driver.own
own_in (Program program) = Running program
