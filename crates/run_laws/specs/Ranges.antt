-- What the types of the parts of a journal see to, whatever the run: a number has its bits, bytes are bytes, a name or a reason is a name, a list isn't too long, and the flags of a task are those of a task.
use Rattle.std.specs.Prelude.{◌≡◌, ℕ, ◌<◌, ◌≤◌, ◌^◌, List, length, All, Bool, true, ◌&&◌, ◌||◌, None}
use Rattle.std.specs.List.{concat}
use Rattle.port_model.specs.port_signal.declared.outside.Outside.{Outside}
use Rattle.port_model.specs.port_signal.declared.outside.Outside.TheVariants.{Took, Got, Again, End, Failed, Status}
use Rattle.port_model.specs.port_signal.Name.{name_fault}
use Rattle.port_model.specs.declared.effect.Effect.{Effect}
use Rattle.port_model.specs.declared.effect.Effect.TheVariants as effect
use Rattle.port_model.specs.declared.row.Row.{Row}
use Rattle.port_model.specs.declared.row.Row.TheVariants.{Handled, Late, Listed, Resumed, Mark}
use Rattle.port_model.specs.declared.signal.Sender.{Sender}
use Rattle.port_model.specs.declared.signal.Sender.TheVariants.{Process, Poller, Worker, Timer}
use Rattle.port_model.specs.declared.signal.Signal.{Signal}
use Rattle.port_model.specs.declared.signal.Signal.TheVariants.{Command, OwnerCommand, Control, Call, Close, OwnerClose, Connect, OwnerConnect, Link, Unlink, Monitor, Demonitor, Exit, Gone, Ready, Dropped, AsyncDone}
use Rattle.port_model.specs.Tasks.{TaskView, IsTask}
use Rattle.journal_text.specs.declared.book.PortReport.{PortReport}
use Rattle.journal_text.specs.Words.{is_status}
use Rattle.journal_text.specs.Ports.{are_limits, is_spawn, without_program}
use Rattle.script_plan.specs.declared.decl.PortDecl.{PortDecl}

abbrev pub AreBytes : List ℕ → Type 0
AreBytes bytes = All (λ byte. byte < 256) bytes

abbrev pub IsName : List ℕ → Type 0
IsName name = name_fault name ≡ None

abbrev pub SenderFits : Sender → Type 0
SenderFits (Process process) = Unit {0}
SenderFits Poller = Unit {0}
SenderFits (Worker worker) = worker < 2 ^ 32
SenderFits Timer = Unit {0}

abbrev pub SignalFits : Signal → Type 0
SignalFits (Command payload) = AreBytes (concat payload)
SignalFits (OwnerCommand payload) = AreBytes (concat payload)
SignalFits (Control op bytes) = (op < 2 ^ 32) × AreBytes bytes
SignalFits (Call op bytes) = (op < 2 ^ 32) × AreBytes bytes
SignalFits Close = Unit {0}
SignalFits OwnerClose = Unit {0}
SignalFits (Connect process) = Unit {0}
SignalFits (OwnerConnect process) = Unit {0}
SignalFits Link = Unit {0}
SignalFits Unlink = Unit {0}
SignalFits (Monitor number) = number < 2 ^ 64
SignalFits (Demonitor number) = number < 2 ^ 64
SignalFits (Exit reason) = IsName reason
SignalFits (Gone reason) = IsName reason
SignalFits (Ready event dir) = event < 2 ^ 32
SignalFits (Dropped event) = event < 2 ^ 32
SignalFits (AsyncDone number output) = (number < 2 ^ 64) × AreBytes output

abbrev pub TaskFits : TaskView → Type 0
TaskFits task = IsTask task × SignalFits task.signal

abbrev pub AnswerFits : Outside → Type 0
AnswerFits (Took count) = count < 2 ^ 32
AnswerFits (Got bytes) = AreBytes bytes
AnswerFits Again = Unit {0}
AnswerFits End = Unit {0}
AnswerFits Failed = Unit {0}
AnswerFits (Status status) = is_status status ≡ true

abbrev pub EffectFits : Effect → Type 0
EffectFits (effect.Message flag bytes) = AreBytes bytes
EffectFits effect.Eof = Unit {0}
EffectFits (effect.Status status) = is_status status ≡ true
EffectFits (effect.Busy busy) = Unit {0}
EffectFits (effect.Select event dir on) = event < 2 ^ 32
EffectFits (effect.Unuse event) = event < 2 ^ 32
EffectFits (effect.Async number key code input) = (number < 2 ^ 64) × (key < 2 ^ 32) × (code < 256) × AreBytes input
EffectFits (effect.Watch process) = Unit {0}
EffectFits (effect.Reply bytes) = AreBytes bytes
EffectFits effect.ReplyBadarg = Unit {0}
EffectFits (effect.Fail reason) = IsName reason

-- a sender, and a place in its order
abbrev pub PlaceFits : Sender → ℕ → Type 0
PlaceFits from seq = SenderFits from × (seq < 2 ^ 64)

abbrev pub ListFits : {A : Type 0} → (A → Type 0) → List A → Type 0
ListFits Fits items = (length items ≤ 1048576) × All Fits items

abbrev pub RowFits : Row → Type 0
RowFits (Handled from seq task outside effects) = PlaceFits from seq × TaskFits task × ListFits AnswerFits outside × ListFits EffectFits effects
RowFits (Late from seq task) = PlaceFits from seq × TaskFits task
RowFits (Listed from seq) = PlaceFits from seq
RowFits (Resumed from seq word) = PlaceFits from seq × (word < 2 ^ 64)
RowFits (Mark kind) = Unit {0}

-- its names are names; of a program also what was started with it and its events are told
pub record PortFits (port : PortReport) : Type 0 where
  pub name : IsName port.name
  pub program : is_spawn port.driver ≡ true → AreBytes port.config.run × (port.events.0 < 2 ^ 32) × (port.events.1 < 2 ^ 32)
  pub rows : All RowFits port.journal.rows

abbrev pub PartsFit : List (List ℕ) → List PortReport → Type 0
PartsFit names ports = All IsName names × All PortFits ports

-- a port is declared with the options of its driver alone: the default limits where its message queue has none, and those of no program unless its driver is `spawn`
abbrev pub has_own_options : PortDecl → Bool
has_own_options port =
    are_limits port.config.msgq_on port.config.msgq_low port.config.msgq_high && (is_spawn port.driver || without_program port.config (0, 0))
