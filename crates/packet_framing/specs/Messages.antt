-- The messages of bytes in each mode, over all bytes at once.
use Rattle.std.specs.Prelude.{◌≡◌, ◌<◌, ◌≤◌, ℕ, Bool, if◌then◌else◌, List, [], ◌∷◌, ◌++◌, length, All}
use Rattle.std.specs.List.{flat_map}
use Rattle.io_vector.specs.declared.flag.Flag.TheVariants.{Plain, Noeol}
use Rattle.packet_framing.specs.declared.mode.Mode.{Mode}
use Rattle.packet_framing.specs.declared.mode.Mode.TheVariants.{Packet1, Packet2, Packet4, Line, Stream}
use Rattle.packet_framing.specs.declared.message.Message.{Message}
use Rattle.packet_framing.specs.Lines.{message, line_messages, line_rest}
use Rattle.packet_framing.specs.Packets.{PacketMessages, packet_messages, packet_rest}

-- the limit of a line's pieces is from 1 to 262,143 bytes
abbrev pub IsServed : Mode → Type 0
IsServed Packet1 = Unit {0}
IsServed Packet2 = Unit {0}
IsServed Packet4 = Unit {0}
IsServed (Line limit) = (0 < limit) × (limit ≤ 262143)
IsServed Stream = Unit {0}

abbrev pub IsStreamed : Message → Type 0
IsStreamed m = (m.flag ≡ Plain) × (0 < length m.bytes)

-- the messages of a stream: nothing but what they join to is fixed, and none is empty
pub record StreamMessages (bytes : List ℕ) (ms : List Message) : Type 0 where
  pub whole : bytes ≡ flat_map (λ (m : Message). m.bytes) ms
  pub each : All IsStreamed ms

-- the last message of bytes that have ended, where this rest was left: what a line lacks its end is told, and a cut frame never is
abbrev pub last_message : Mode → List ℕ → List Message
last_message (Line limit) [] = []
last_message (Line limit) (byte ∷ bytes) = message Noeol (byte ∷ bytes) ∷ []
last_message Packet1 rest = []
last_message Packet2 rest = []
last_message Packet4 rest = []
last_message Stream rest = []

-- these are the messages of the bytes; with `ended`, no more bytes come
abbrev pub IsMessages : Mode → List ℕ → Bool → List Message → Type 0
IsMessages Packet1 bytes ended ms = PacketMessages Packet1 bytes ms
IsMessages Packet2 bytes ended ms = PacketMessages Packet2 bytes ms
IsMessages Packet4 bytes ended ms = PacketMessages Packet4 bytes ms
IsMessages (Line limit) bytes ended ms =
    ms ≡ line_messages limit bytes ++ (if ended then last_message (Line limit) (line_rest limit bytes) else [])
IsMessages Stream bytes ended ms = StreamMessages bytes ms

-- the cutting into messages is fixed by the bytes: it is in every mode but the stream
abbrev pub IsFixed : Mode → Type 0
IsFixed Packet1 = Unit {0}
IsFixed Packet2 = Unit {0}
IsFixed Packet4 = Unit {0}
IsFixed (Line limit) = Unit {0}
IsFixed Stream = ⊥

-- the messages of the bytes, while more may come, as a function: in stream mode they aren't fixed, and this is none
abbrev pub messages_of : Mode → List ℕ → List Message
messages_of Packet1 bytes = packet_messages Packet1 bytes
messages_of Packet2 bytes = packet_messages Packet2 bytes
messages_of Packet4 bytes = packet_messages Packet4 bytes
messages_of (Line limit) bytes = line_messages limit bytes
messages_of Stream bytes = []

-- the bytes that no message has yet
abbrev pub rest_of : Mode → List ℕ → List ℕ
rest_of Packet1 bytes = packet_rest Packet1 bytes
rest_of Packet2 bytes = packet_rest Packet2 bytes
rest_of Packet4 bytes = packet_rest Packet4 bytes
rest_of (Line limit) bytes = line_rest limit bytes
rest_of Stream bytes = []
