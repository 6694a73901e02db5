-- The sample drivers that start, as contracts see them.
use Rattle.std.specs.Prelude.{Bool, true, false}
use Rattle.driver_model.specs.Calls as driver
use Rattle.driver_model.specs.Calls.{Kind, Own, Nothing, Counted, Submitted}
use Rattle.port_driver.specs.declared.life.Life.{Life}
use Rattle.history_driver.specs.declared.sample.Sample.{Sample}
use Rattle.history_driver.specs.declared.sample.Sample.TheVariants.{Echo, Tally, Valve, Store, Digest}

-- which driver one that was started is, and what it keeps beside its queue
pub record SampleView : Type 0 where
  pub kind : Kind
  pub own : Own

abbrev pub sample_kind : Sample → Kind
sample_kind (Echo echo) = driver.Echo
sample_kind (Tally tally) = driver.Tally
sample_kind (Valve valve) = driver.Valve valve.is_soft
sample_kind (Store store) = driver.Store
sample_kind (Digest digest) = driver.Digest

abbrev pub sample_own : Sample → Own
sample_own (Tally tally) = Counted tally.commands tally.bytes
sample_own (Digest digest) = Submitted digest.jobs
sample_own sample = Nothing

-- where it stands in its life
abbrev pub sample_stage : Sample → Life
sample_stage (Echo life) = life
sample_stage (Tally tally) = tally.life
sample_stage (Valve valve) = valve.life
sample_stage (Store life) = life
sample_stage (Digest digest) = digest.life

-- a driver of this kind asks the outside
abbrev pub asks : Kind → Bool
asks driver.Spawn = true
asks kind = false
