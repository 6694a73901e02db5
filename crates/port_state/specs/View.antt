-- The state of a port, as contracts see it, and what it says of a history.
use Rattle.std.specs.Prelude.{◌≡◌, ℕ, List, [], ◌∷◌, ◌++◌, length, Bool, true, false, Option, Some, None, IfSome, is_some, ◌&&◌, ◌||◌, not, if◌then◌else◌}
use Rattle.port_model.specs.port_signal.Reasons.{is_kill}
use Rattle.port_model.specs.port_signal.declared.mark.MarkKind.{MarkKind}
use Rattle.port_model.specs.port_signal.declared.mark.MarkKind.TheVariants.{Busy, Free, Closed}
use Rattle.port_mail.specs.port_links.Table.{LinkTable}
use Rattle.port_service.specs.port_driver.driver_model.Drivers.{held_events}
use Rattle.port_service.specs.port_driver.Driven.{Stands}
use Rattle.port_service.specs.port_driver.declared.life.Life.TheVariants.{Started, Stopped}
use Rattle.port_service.specs.port_driver.port_config.declared.config.Config.{Config}
use Rattle.port_service.specs.port_driver.driver_model.Calls.{Kind}
use Rattle.port_service.specs.Opened.{IsOpening}
use Rattle.port_service.specs.Service.{ServiceView}
use Rattle.port_service.specs.Serves.{Watches, standing}
use Rattle.port_mail.specs.port_links.port_history.Opening.{Opening}
use Rattle.port_mail.specs.port_links.port_history.Marks.{is_busy}
use Rattle.port_mail.specs.port_links.port_history.Service.{first_reason}
use Rattle.port_mail.specs.port_links.port_history.State.{State, closer_of}
use Rattle.port_mail.specs.port_links.port_history.Ties.{Ties, failure}
use Rattle.port_model.specs.declared.signal.Sender.{Sender}
use Rattle.port_model.specs.declared.signal.Signal.{Signal}
use Rattle.port_service.specs.declared.handling.Handled.{Handled}

-- its number, its ties, its driver, why it closed, once it has, the owner that asked for that, whether the driver was stopped, whether the
-- port is busy by its marks, and which marks are due: a change of that, and the closed mark
pub record StateView : Type 0 where
  pub number : ℕ
  pub links : LinkTable
  pub service : ServiceView
  pub reason : Option (List ℕ)
  pub closer : Option ℕ
  pub stopped : Bool
  pub busy : Bool
  pub change : Option Bool
  pub closes : Bool

-- the mark of a change of the busy state
abbrev pub change_marks : Option Bool → List MarkKind
change_marks (Some true) = Busy ∷ []
change_marks (Some false) = Free ∷ []
change_marks None = []

-- the marks that are due, in their order
abbrev pub due_marks : Option Bool → Bool → List MarkKind
due_marks change closes = change_marks change ++ (if closes then Closed ∷ [] else [])

-- a killed port isn't served any more
abbrev pub IsNotKilled : Option (List ℕ) → Type 0
IsNotKilled reason = IfSome reason (λ r. is_kill r ≡ false)

-- what the state says is what a history says of its port
pub record IsStateOf (c : StateView) (port : Opening) (s : State) : Type 0 where
  pub number : c.number ≡ port.number
  pub processes : c.links.processes ≡ port.processes
  pub kind : c.service.kind ≡ port.kind
  pub ties : c.links.ties ≡ s.ties
  pub flags : length c.service.watched ≡ port.processes
  pub watches : Watches c.service.watched s.watched
  pub reason : c.reason ≡ s.reason
  pub closer : c.closer ≡ s.closer
  pub stopped : c.stopped ≡ s.stopped
  pub stage : c.service.stage ≡ (if s.stopped then Stopped else Started)
  pub busy : c.busy ≡ is_busy s.marks
  pub due : due_marks c.change c.closes ≡ s.due
  pub served : s.stopped ≡ false → IsNotKilled s.reason
  pub stands : Stands port.kind port.config s.calls c.service.own c.service.program (standing c.service.next_job (held_events port.kind port.config s.calls) c.service.queue)

-- the state after the row of a task that its driver handled so, but for the change of the busy state: `ties` are any
abbrev pub state_after : Ties → Sender → Signal → Handled → StateView → StateView
state_after ties from signal made c = record c {
  reason = first_reason made.reason c.reason;
  closer = if is_some made.reason && not (is_some (failure made.effects)) then closer_of ties from signal else c.closer;
  stopped = c.stopped || made.stops;
  closes = is_some made.reason;
}

-- the same port, with a driver that may have counted more faults
pub record IsSamePort (old new : StateView) : Type 0 where
  pub number : new.number ≡ old.number
  pub processes : new.links.processes ≡ old.links.processes
  pub kind : new.service.kind ≡ old.service.kind

-- the opening of a port of this number, with this driver, config and owner, among so many processes
pub record IsOpeningOf (number : ℕ) (kind : Kind) (config : Config) (owner processes : ℕ) (c : StateView) (port : Opening) : Type 0 where
  pub number_is : port.number ≡ number
  pub processes_is : port.processes ≡ processes
  pub opening : IsOpening kind config owner c.service.own port
