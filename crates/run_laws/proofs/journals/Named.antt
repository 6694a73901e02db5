-- What of a journal's ranges the types don't see to: that the processes which a row names are some of so many, that data is one segment, or none where it has no bytes, and what a port was declared with.
use Rattle.std.specs.Prelude.{◌≡◌, ℕ, ◌<◌, ◌≤◌, List, [], ◌∷◌, length, All, true, false}
use Rattle.journal_text.specs.Books.{BookView}
use Rattle.journal_text.specs.Ports.{are_limits, is_driver, is_spawn, without_program}
use Rattle.journal_text.specs.declared.book.PortReport.{PortReport}
use Rattle.port_config.specs.Config.{is_config}
use Rattle.port_model.specs.declared.effect.Effect.{Effect}
use Rattle.port_model.specs.declared.effect.Effect.TheVariants as effect
use Rattle.port_model.specs.declared.row.Row.{Row}
use Rattle.port_model.specs.declared.row.Row.TheVariants.{Handled, Late, Listed, Resumed, Mark}
use Rattle.port_model.specs.declared.signal.Sender.{Sender}
use Rattle.port_model.specs.declared.signal.Sender.TheVariants.{Process}
use Rattle.port_model.specs.declared.signal.Signal.{Signal}
use Rattle.port_model.specs.declared.signal.Signal.TheVariants.{Command, OwnerCommand, Connect, OwnerConnect}
use Rattle.run_laws.specs.Ranges.{PartsFit}

abbrev pub IsOneSegment : List (List ℕ) → Type 0
IsOneSegment [] = Unit {0}
IsOneSegment ((byte ∷ bytes) ∷ []) = Unit {0}
IsOneSegment payload = ⊥

abbrev pub SenderNames : ℕ → Sender → Type 0
SenderNames names (Process process) = process < names
SenderNames names from = Unit {0}

abbrev pub SignalNames : ℕ → Signal → Type 0
SignalNames names (Command payload) = IsOneSegment payload
SignalNames names (OwnerCommand payload) = IsOneSegment payload
SignalNames names (Connect process) = process < names
SignalNames names (OwnerConnect process) = process < names
SignalNames names signal = Unit {0}

abbrev pub EffectNames : ℕ → Effect → Type 0
EffectNames names (effect.Watch process) = process < names
EffectNames names effect = Unit {0}

abbrev pub RowNames : ℕ → Row → Type 0
RowNames names (Handled from seq task outside effects) = SenderNames names from × SignalNames names task.signal × All (EffectNames names) effects
RowNames names (Late from seq task) = SenderNames names from × SignalNames names task.signal
RowNames names (Listed from seq) = SenderNames names from
RowNames names (Resumed from seq word) = SenderNames names from
RowNames names (Mark kind) = Unit {0}

-- its owner is one of the processes, its driver doesn't refuse its start, its options lie in their ranges and are those of its driver, and its rows name what is there
pub record PortNames (names : ℕ) (port : PortReport) : Type 0 where
  pub owner : port.owner < names
  pub driver : is_driver port.driver ≡ true
  pub config : is_config port.config ≡ true
  pub limits : are_limits port.config.msgq_on port.config.msgq_low port.config.msgq_high ≡ true
  pub program : is_spawn port.driver ≡ false → without_program port.config port.events ≡ true
  pub rows : All (RowNames names) port.journal.rows

-- the book of few names and few ports, whose parts fit their types and name what is there
pub record IsWithin (book : BookView) : Type 0 where
  pub few_names : length book.names ≤ 32
  pub few_ports : length book.ports ≤ 32
  pub fit : PartsFit book.names book.ports
  pub ports : All (PortNames (length book.names)) book.ports
