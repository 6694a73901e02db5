-- The driver that serves a port, as contracts see it.
use Rattle.std.specs.Prelude.{ℕ, List, Bool, Option}
use Rattle.port_driver.specs.driver_model.Calls.{Kind, Own}
use Rattle.port_driver.specs.driver_model.Programs.{ToldProgram}
use Rattle.port_driver.specs.declared.life.Life.{Life}

-- its kind, what it keeps, where it stands in its life, its program, how often its outside failed, the bytes of its queue, the number of
-- its next job, and for each process by its number whether its end is told
pub record ServiceView : Type 0 where
  pub kind : Kind
  pub own : Own
  pub stage : Life
  pub program : Option ToldProgram
  pub faults : ℕ
  pub queue : List ℕ
  pub next_job : ℕ
  pub watched : List Bool
