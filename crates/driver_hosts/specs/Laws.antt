-- What follows for all drivers that were handed in.
use Rattle.std.specs.Prelude.{◌≡◌, ℕ, ◌<◌, List, length, All, Option, slice_index_or}
use Rattle.port_driver.specs.driver_model.Calls.{Kind, Own}
use Rattle.port_driver.specs.driver_model.Programs.{ToldProgram}
use Rattle.port_driver.specs.declared.life.Life.{Life}
use Rattle.port_driver.specs.declared.life.StartRefusal.{StartRefusal}
use Rattle.script_plan.specs.declared.decl.PortDecl.{PortDecl}
use Rattle.port_body.specs.Body.{BodyView, name_of}
use Rattle.driver_hosts.specs.declared.hosted.Hosted.{Hosted}
use Rattle.driver_hosts.specs.declared.room.PortRoom.{PortRoom}
use Rattle.driver_hosts.specs.Back.{AllCameBack, HaveServed, ServedBefore}
use Rattle.driver_hosts.specs.Hosts.{IsUnused}
use Rattle.driver_hosts.specs.Opening.{AreOpened}
use Rattle.driver_hosts.specs.Returning.{AreReturned}

-- the bodies have the names that they were opened with, as each turn keeps them
pub record KeepNames (opened ended : List BodyView) : Type 0 where
  pub count : length ended ≡ length opened
  pub each : (port : ℕ) (v w : BodyView) → port < length opened → name_of (slice_index_or ended port w) ≡ name_of (slice_index_or opened port v)

module _ {D : Type 0} (kind : D → Kind) (stage : D → Life) (faults : D → ℕ) where
  -- the drivers of ports that were opened and ended, whatever turns they made, are back with their ports, and so all drivers came back
  abbrev pub ServedComeBack : (D → Own) → (D → Option ToldProgram) → Type 0
  ServedComeBack own program = (ports : List PortDecl) (rooms : List PortRoom) (places : List ℕ) (old mid new : List (Hosted D)) (opened ended : List BodyView)
      → All (IsUnused stage) old → All (λ at. at < length old) places → length places ≡ length opened → length ports ≡ length opened → length rooms ≡ length opened → KeepNames opened ended
      → AreOpened kind faults ports rooms places old mid opened → AreReturned kind stage faults own program ended places mid new
      → HaveServed kind stage faults places old new × AllCameBack kind stage faults old new

  -- all drivers came back where one didn't start
  abbrev pub RefusedComeBack : Type 0
  RefusedComeBack = (ports : List PortDecl) (p : PortDecl) (places : List ℕ) (at : ℕ) (refusal : StartRefusal) (old new : List (Hosted D))
      → All (IsUnused stage) old → ServedBefore kind stage faults ports places at refusal old new → AllCameBack kind stage faults old new
