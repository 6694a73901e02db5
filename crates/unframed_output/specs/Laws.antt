-- How the messages that a program's port sent follow from the bytes that it took.
use Rattle.std.specs.Prelude.{◌≡◌, ◌<◌, ◌≤◌, ℕ, List, [], ◌∷◌, ◌++◌, length, All, Bool, true, false, Option, Some, None}
use Rattle.packet_framing.specs.declared.mode.Mode.{Mode}
use Rattle.packet_framing.specs.declared.mode.Mode.TheVariants.{Stream}
use Rattle.packet_framing.specs.declared.message.Message.{Message}
use Rattle.packet_framing.specs.Messages.{IsMessages, StreamMessages}
use Rattle.driver_model.specs.port_config.Config.{is_served}
use Rattle.driver_model.specs.port_signal.declared.outside.Outside.TheVariants.{Got}
use Rattle.driver_model.specs.port_model.Tasks.{TaskView}
use Rattle.driver_model.specs.port_model.declared.effect.Effect.{Effect}
use Rattle.driver_model.specs.port_model.declared.signal.Sender.{Sender}
use Rattle.driver_model.specs.port_model.declared.signal.Signal.{Signal}
use Rattle.driver_model.specs.port_model.declared.signal.Signal.TheVariants.{Connect, OwnerConnect}
use Rattle.driver_model.specs.port_model.declared.row.Row.{Row}
use Rattle.driver_model.specs.port_model.declared.row.Row.TheVariants.{Handled}
use Rattle.driver_model.specs.port_signal.Reasons.{is_kill}
use Rattle.driver_model.specs.Calls.{Spawn}
use Rattle.driver_model.specs.Programs.{output_ended}
use Rattle.driver_model.specs.Spawn.{asked, given, taken_bytes}
use Rattle.port_history.specs.Counts.{saved_of}
use Rattle.port_history.specs.Mail.{mails}
use Rattle.port_history.specs.Opening.{Opening}
use Rattle.port_history.specs.Ties.{failure}
use Rattle.port_history.specs.Lawful.{Lawful, IsFinished}
use Rattle.port_history.specs.State.{state}
use Rattle.unframed_output.specs.Output.{bytes_taken, bytes_kept, bytes_took, has_fault, fault_of, has_ended, messages_sent, saved_output, unframed}

-- these are messages of the bytes: how a stream is cut into messages isn't fixed, and those of packets and lines are one function of the bytes
abbrev pub AreMessages : Mode → List ℕ → Bool → List Message → Type 0
AreMessages Stream bytes ended messages = StreamMessages bytes messages
AreMessages mode bytes ended messages = messages ≡ unframed mode bytes ended

-- a lawful history of a program's port, whose mode can be served
pub record IsOfProgram (port : Opening) (history : List Row) : Type 0 where
  pub kind : port.kind ≡ Spawn
  pub served : is_served port.config.mode ≡ true
  pub lawful : Lawful port history

-- the signal makes a process the owner
abbrev pub is_connect : Signal → Bool
is_connect (Connect process) = true
is_connect (OwnerConnect process) = true
is_connect signal = false

-- no handled task makes a process the owner: the opener stays it
abbrev pub KeepsOwner : List Row → Type 0
KeepsOwner [] = Unit {0}
KeepsOwner (Handled from seq task outside effects ∷ older) = (is_connect task.signal ≡ false) × KeepsOwner older
KeepsOwner (row ∷ older) = KeepsOwner older

-- the calls of the driver took what the rows tell
abbrev pub OutputIsTaken : Type 0
OutputIsTaken = (port : Opening) (history : List Row) → IsOfProgram port history → taken_bytes (state port history).calls ≡ bytes_taken history

-- the driver was told the end of the output where the rows tell it
abbrev pub EndIsTold : Type 0
EndIsTold = (port : Opening) (history : List Row) → IsOfProgram port history → output_ended (state port history).calls ≡ has_ended history

abbrev pub OutputIsUnframed : Type 0
OutputIsUnframed = (port : Opening) (history : List Row) → IsOfProgram port history
    → AreMessages port.config.mode (bytes_kept port.config.mode history) (has_ended history) (messages_sent history)

-- why a chunk fails the port, by all bytes that the port took
abbrev pub ChunkFails : Type 0
ChunkFails = (port : Opening) (from : Sender) (seq : ℕ) (task : TaskView) (bytes : List ℕ) (effects : List Effect) (older : List Row)
    → IsOfProgram port (Handled from seq task (Got bytes ∷ []) effects ∷ older) → failure effects ≡ fault_of port.config.mode (bytes_taken older ++ bytes)

-- what a process saves of the mail that a port sends its opener, which stays the owner
abbrev pub OutputIsSaved : Type 0
OutputIsSaved = (port : Opening) (history : List Row) → IsOfProgram port history → KeepsOwner history
    → saved_of port.number (mails port port.owner history) ≡ saved_output port.config.mode (bytes_kept port.config.mode history) (has_ended history)

-- the messages are those of the declared unframing: whole frames and a rest that none begins, lines in pieces, or what joins to the bytes
abbrev pub MessagesAreDeclared : Type 0
MessagesAreDeclared = (mode : Mode) (bytes : List ℕ) (ended : Bool) (messages : List Message) → All (λ byte. byte < 256) bytes → AreMessages mode bytes ended messages
    → IsMessages mode bytes ended messages

-- the frames that a program's port had for it: those of the commands that called the driver, in their order, where the mode holds their length
abbrev pub frames_asked : Opening → List Row → List ℕ
frames_asked port history = asked port.config (state port history).calls

-- the program took no more than it was asked to, and the driver counts what it answered
abbrev pub InputIsTaken : Type 0
InputIsTaken = (port : Opening) (history : List Row) → IsOfProgram port history
    → (bytes_took history ≤ length (frames_asked port history)) × (given port.config (state port history).calls ≡ bytes_took history)

-- the port was killed
abbrev pub is_killed : Option (List ℕ) → Bool
is_killed None = false
is_killed (Some reason) = is_kill reason

-- at the end of a port that wasn't killed, and no call of whose program failed, the program took all
abbrev pub InputIsWhole : Type 0
InputIsWhole = (port : Opening) (history : List Row) → IsOfProgram port history → IsFinished port history → is_killed (state port history).reason ≡ false → has_fault history ≡ false
    → bytes_took history ≡ length (frames_asked port history)
