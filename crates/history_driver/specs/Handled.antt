-- What a driver that was started again holds, and what it tells of a handled task.
use Rattle.std.specs.Prelude.{◌≡◌, ℕ, ◌+◌, List, [], ◌∷◌, ◌++◌, length, true, false, Option, None, Some}
use Rattle.std.specs.List.{concat}
use Rattle.driver_model.specs.Calls.{DriverCall, Kind}
use Rattle.driver_model.specs.Drivers.{effects_of, job_count}
use Rattle.port_driver.specs.Context.{Context}
use Rattle.port_driver.specs.Driven.{Stands}
use Rattle.port_config.specs.declared.config.Config.{Config}
use Rattle.port_model.specs.declared.effect.Effect.{Effect}
use Rattle.port_history.specs.Jobs.{submitted_by}
use Rattle.port_history.specs.Laws.{has_effects}
use Rattle.port_history.specs.Opening.{Opening, Taken}
use Rattle.port_history.specs.State.{State, start_call, closing_reason, row_calls, stops}
use Rattle.history_tables.specs.JobsKept.{are_next}
use Rattle.history_state.specs.declared.rows.RowEnd.{RowEnd}
use Rattle.history_driver.specs.declared.driver.HistoryDriver.{HistoryDriver}
use Rattle.history_driver.specs.Running.{kind_in, own_in}

-- a context of a driver that has this next job, these events and this queue
abbrev pub standing : ℕ → List ℕ → List ℕ → Context
standing next_job held queue = record { caller = 0; next_job = next_job; held = held; queue = queue; outside = []; effects = [] }

-- what is kept of the driver of a port is what it holds after these calls
pub record IsDriverOf (d : HistoryDriver) (port : Opening) (calls : List DriverCall) : Type 0 where
  pub kind_is : kind_in d.driver ≡ port.kind
  pub stands : Stands port.kind port.config calls (own_in d.driver) None (standing d.next_job d.held (concat d.queue.segments))

-- the jobs of these effects are the next ones, after calls that led to so many, and the longer list led to those more
pub record NumbersJobs (port : Opening) (before after : List DriverCall) (effects : List Effect) : Type 0 where
  pub next_jobs : are_next (job_count port.kind port.config before) effects ≡ true
  pub jobs : job_count port.kind port.config after ≡ job_count port.kind port.config before + length (submitted_by effects)

-- a driver of this kind with these options, this owner and these two events began as its port's history does
pub record Starts (driver : HistoryDriver) (effects : List Effect) (port : Opening) : Type 0 where
  pub driver_is : IsDriverOf driver port (start_call port ∷ [])
  pub effects_are : effects ≡ effects_of port.kind port.config (start_call port ∷ [])
  pub numbers : NumbersJobs port [] (start_call port ∷ []) effects

abbrev pub StartsAs : Kind → Config → ℕ → ℕ → ℕ → HistoryDriver → List Effect → Opening → Type 0
StartsAs kind config owner read write driver effects port =
    port.kind ≡ kind → port.config ≡ config → port.owner ≡ owner → port.read ≡ read → port.write ≡ write → Starts driver effects port

-- a handled task that keeps the law of effects: for which reason its row closes the port, if it does, whether the driver is stopped in it,
-- and that the driver went on
pub record GoesOn (port : Opening) (s : State) (t : Taken) (closing : RowEnd) (driver : HistoryDriver) : Type 0 where
  pub closes : closing.reason ≡ closing_reason s t
  pub stops_it : closing.stops ≡ stops port s t
  pub driver_is : IsDriverOf driver port (row_calls port s t ++ s.calls)
  pub numbers : NumbersJobs port s.calls (row_calls port s t ++ s.calls) t.effects

-- whether the row of a handled task keeps the law of effects
abbrev pub Judged : Opening → State → Taken → Option RowEnd → HistoryDriver → Type 0
Judged port s t None driver = has_effects port s t ≡ false
Judged port s t (Some closing) driver = (has_effects port s t ≡ true) × GoesOn port s t closing driver
