-- A port that was just opened.
use Rattle.std.specs.Prelude.{◌≡◌, [], All}
use Rattle.port_driver.specs.port_config.declared.config.Config.{Config}
use Rattle.port_driver.specs.driver_model.Calls.{Kind}
use Rattle.port_mail.specs.Ends.{MailEnd}
use Rattle.served_port.specs.declared.ends.PortPlace.{PortPlace}
use Rattle.recorded_port.specs.declared.parts.PortOutlets.{PortOutlets}
use Rattle.recorded_port.specs.Asks.{AreFresh}
use Rattle.port_driver.specs.driver_model.Drivers.{read_event_of, write_event_of}
use Rattle.served_port.specs.View.{end_names}
use Rattle.recorded_port.specs.View.{RecordedView}

-- nothing was sent by the ends or marked by the seat
pub record AreUnused (outlets : PortOutlets) : Type 0 where
  pub mail : All (λ (e : MailEnd). e.sent ≡ []) outlets.mailboxes
  pub asks : outlets.ends.asks.sent ≡ []
  pub jobs : AreFresh outlets.ends.pool
  pub marks : outlets.seat.known.marks ≡ []
  pub removed : outlets.seat.known.removed ≡ []

-- the port of this place has this kind, these options and these ends, and no row
pub record IsOpened (place : PortPlace) (kind : Kind) (config : Config) (outlets : PortOutlets) (v : RecordedView) : Type 0 where
  pub number : v.opening.number ≡ place.number
  pub processes : v.opening.processes ≡ place.processes
  pub kind_is : v.opening.kind ≡ kind
  pub config_is : v.opening.config ≡ config
  pub owner : v.opening.owner ≡ place.owner
  pub read : v.opening.read ≡ read_event_of v.port.state.service.own
  pub write : v.opening.write ≡ write_event_of v.port.state.service.own
  pub rows : v.rows ≡ []
  pub ends : v.ends ≡ outlets.mailboxes
  pub seat : v.seat ≡ outlets.seat
  pub asks : v.port.events.asks ≡ record outlets.ends.asks { sent = v.port.events.asks.sent }
  pub pool : end_names v.port.jobs.lanes ≡ end_names outlets.ends.pool
