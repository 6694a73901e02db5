-- Ports that were opened, and whose run isn't seated yet.
use Rattle.std.specs.Prelude.{◌≡◌, ◌<◌, ◌≢◌, ℕ, List, length, All, AllPairs}
use Rattle.driver_model.specs.Calls.{Kind}
use Rattle.port_driver.specs.declared.life.Life.{Life}
use Rattle.script_plan.specs.declared.decl.PortDecl.{PortDecl}
use Rattle.run_opening.specs.driver_hosts.port_body.Body.{BodyView}
use Rattle.run_opening.specs.driver_hosts.declared.hosted.Hosted.{Hosted}
use Rattle.run_opening.specs.driver_hosts.declared.room.PortRoom.{PortRoom}
use Rattle.run_opening.specs.driver_hosts.Hosts.{IsUnused}
use Rattle.run_opening.specs.driver_hosts.Opening.{AreOpened}

-- the bodies are those of some ports, each opened with the driver at its place, of drivers none of which had served a port
pub record WereOpened {D : Type 0} (kind : D → Kind) (stage : D → Life) (faults : D → ℕ) (places : List ℕ) (first hosts : List (Hosted D)) (bodies : List BodyView) : Type 0 where
  pub ports : List PortDecl
  pub rooms : List PortRoom
  pub ports_many : length ports ≡ length bodies
  pub rooms_many : length rooms ≡ length bodies
  pub places_many : length places ≡ length bodies
  pub within : All (λ at. at < length first) places
  pub different : AllPairs (λ at later. at ≢ later) places
  pub unused : All (IsUnused stage) first
  pub opened : AreOpened kind faults ports rooms places first hosts bodies
