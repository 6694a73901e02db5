-- A driver that just began to serve a port.
use Rattle.std.specs.Prelude.{◌≡◌, ◌≤◌, ℕ, List, [], ◌∷◌, length}
use Rattle.port_driver.specs.port_config.declared.config.Config.{Config}
use Rattle.port_model.specs.declared.effect.Effect.{Effect}
use Rattle.port_driver.specs.driver_model.Calls.{Kind, Own}
use Rattle.port_driver.specs.driver_model.Drivers.{read_event_of, write_event_of, effects_of}
use Rattle.port_driver.specs.declared.life.Life.{Life}
use Rattle.port_driver.specs.declared.life.Life.TheVariants.{Started, Stopped}
use Rattle.port_driver.specs.Driven.{Stands}
use Rattle.port_history.specs.Opening.{Opening}
use Rattle.port_history.specs.State.{start_call, state_at_start}
use Rattle.port_service.specs.Service.{ServiceView}
use Rattle.port_service.specs.Serves.{Watches, standing}

-- the opening of a port that this driver serves
pub record IsOpening (kind : Kind) (config : Config) (owner : ℕ) (own : Own) (port : Opening) : Type 0 where
  pub kind_is : port.kind ≡ kind
  pub config_is : port.config ≡ config
  pub owner_is : port.owner ≡ owner
  pub read_is : port.read ≡ read_event_of own
  pub write_is : port.write ≡ write_event_of own

-- it had the effects of its start, and stands as a history begins
pub record Starts (port : Opening) (service : ServiceView) (effects : List Effect) : Type 0 where
  pub effects_are : effects ≡ effects_of port.kind port.config (start_call port ∷ [])
  pub held : List ℕ
  pub few : length held ≤ 64
  pub stands : Stands port.kind port.config (state_at_start port).calls service.own service.program (standing service.next_job held service.queue)
  pub watches : Watches service.watched (state_at_start port).watched

pub record Opened (kind : Kind) (config : Config) (owner processes faults : ℕ) (service : ServiceView) (effects : List Effect) : Type 0 where
  pub kind_is : service.kind ≡ kind
  pub started : service.stage ≡ Started
  pub faults_rise : faults ≤ service.faults
  pub flags : length service.watched ≡ processes
  pub starts : (port : Opening) → IsOpening kind config owner service.own port → Starts port service effects

-- where a driver stands once its port has ended: one that was started is stopped
abbrev pub ended : Life → Life
ended Started = Stopped
ended stage = stage
