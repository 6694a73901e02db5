-- What the rows of a program's port tell of the program's output: the bytes that the port took, whether they ended, and the messages that it sent. Rows stand newest first, and bytes and messages oldest first.
use Rattle.std.specs.Prelude.{ℕ, ◌+◌, List, [], ◌∷◌, ◌++◌, length, Bool, false, ◌||◌, nat_lt, if◌then◌else◌, Option, Some, None, is_some, codes}
use Rattle.std.specs.List.{flat_map}
use Rattle.packet_framing.specs.declared.mode.Mode.{Mode}
use Rattle.packet_framing.specs.declared.mode.Mode.TheVariants.{Stream}
use Rattle.packet_framing.specs.declared.message.Message.{Message}
use Rattle.packet_framing.specs.Lines.{message}
use Rattle.packet_framing.specs.Messages.{messages_of, rest_of, last_message}
use Rattle.driver_model.specs.port_signal.declared.outside.Outside.{Outside}
use Rattle.driver_model.specs.port_model.declared.effect.Effect.{Effect}
use Rattle.driver_model.specs.port_model.declared.effect.Effect.TheVariants.{Message as Data}
use Rattle.driver_model.specs.port_model.declared.row.Row.{Row}
use Rattle.driver_model.specs.port_model.declared.row.Row.TheVariants.{Handled}
use Rattle.driver_model.specs.Spawn.{got_by, has_end, has_failed, took_by, is_oversize, most_taken}
use Rattle.port_history.specs.Counts.{line_end}

-- what the program answered in a row
abbrev pub answers_of : Row → List Outside
answers_of (Handled from seq task outside effects) = outside
answers_of row = []

-- what the driver did in a row
abbrev pub effects_of : Row → List Effect
effects_of (Handled from seq task outside effects) = effects
effects_of row = []

-- the bytes that the port took from its program
abbrev pub bytes_taken : List Row → List ℕ
bytes_taken [] = []
bytes_taken (row ∷ older) = bytes_taken older ++ got_by (answers_of row)

-- how many bytes the program took
abbrev pub bytes_took : List Row → ℕ
bytes_took [] = 0
bytes_took (row ∷ older) = bytes_took older + took_by (answers_of row)

-- a call of the program failed
abbrev pub has_fault : List Row → Bool
has_fault [] = false
has_fault (row ∷ older) = has_failed (answers_of row) || has_fault older

-- the program told the end of its output
abbrev pub has_ended : List Row → Bool
has_ended [] = false
has_ended (row ∷ older) = has_end (answers_of row) || has_ended older

-- why a port fails that took these bytes in all: they are more than 33,554,432, or after their whole packets stands a header that tells more than 262,143 bytes
abbrev pub fault_of : Mode → List ℕ → Option (List ℕ)
fault_of mode bytes =
    if nat_lt most_taken (length bytes) then Some (codes "enospc") else (if is_oversize mode (rest_of mode bytes) then Some (codes "emsgsize") else None)

-- the bytes that the port took, without those of a chunk that failed it
abbrev pub bytes_kept : Mode → List Row → List ℕ
bytes_kept mode [] = []
bytes_kept mode (row ∷ older) = bytes_kept mode older ++ (if is_some (fault_of mode (bytes_taken (row ∷ older))) then [] else got_by (answers_of row))

-- the data messages among these effects
abbrev pub messages_in : List Effect → List Message
messages_in [] = []
messages_in (Data flag bytes ∷ effects) = message flag bytes ∷ messages_in effects
messages_in (effect ∷ effects) = messages_in effects

-- the data messages that the port sent
abbrev pub messages_sent : List Row → List Message
messages_sent [] = []
messages_sent (row ∷ older) = messages_sent older ++ messages_in (effects_of row)

-- the messages of the bytes in packet and line mode, as a function; with `ended`, no more bytes come
abbrev pub unframed : Mode → List ℕ → Bool → List Message
unframed mode bytes ended = messages_of mode bytes ++ (if ended then last_message mode (rest_of mode bytes) else [])

-- what is saved of messages: their bytes, and byte 10 after those that end a line
abbrev pub saved_messages : List Message → List ℕ
saved_messages messages = flat_map (λ (m : Message). m.bytes ++ line_end m.flag) messages

-- what is saved of a program's output
abbrev pub saved_output : Mode → List ℕ → Bool → List ℕ
saved_output Stream bytes ended = bytes
saved_output mode bytes ended = saved_messages (unframed mode bytes ended)
