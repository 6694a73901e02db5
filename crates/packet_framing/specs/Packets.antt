-- Packets, after the option {packet, N} of open_port, over all bytes at once: whole frames, and a rest.
use Rattle.std.specs.Prelude.{◌≡◌, ◌<◌, ◌+◌, nat_le, if◌then◌else◌, ℕ, zero, suc, List, [], ◌∷◌, ◌++◌, length, take, drop, slice_range, slice_index, All}
use Rattle.std.specs.Int.{w16, w32, from_be_bytes}
use Rattle.std.specs.List.{flat_map}
use Rattle.io_vector.specs.declared.flag.Flag.TheVariants.{Plain}
use Rattle.packet_framing.specs.declared.mode.Mode.{Mode}
use Rattle.packet_framing.specs.declared.mode.Mode.TheVariants.{Packet1, Packet2, Packet4, Line, Stream}
use Rattle.packet_framing.specs.declared.message.Message.{Message}
use Rattle.packet_framing.specs.Frames.{header_len, header_limit, frame_of}
use Rattle.packet_framing.specs.Lines.{message}

-- the frames of these messages, one after another
abbrev pub frames_of : Mode → List Message → List ℕ
frames_of mode ms = flat_map (λ (m : Message). frame_of mode m.bytes) ms

-- a plain message that a frame can have
abbrev pub IsPacket : Mode → Message → Type 0
IsPacket mode m = (m.flag ≡ Plain) × (length m.bytes < header_limit mode)

-- no whole frame begins the bytes
abbrev pub HasNoFrame : Mode → List ℕ → Type 0
HasNoFrame mode bytes = (content more : List ℕ) → length content < header_limit mode → bytes ≡ frame_of mode content ++ more → ⊥

-- the messages of the bytes: these are the frames of the messages, followed by a rest which no whole frame begins
pub record PacketMessages (mode : Mode) (bytes : List ℕ) (ms : List Message) : Type 0 where
  pub rest : List ℕ
  pub whole : bytes ≡ frames_of mode ms ++ rest
  pub each : All (IsPacket mode) ms
  pub unframed : HasNoFrame mode rest

-- The messages and the rest as functions of the bytes.

-- the length that the header in front of the bytes tells
abbrev pub told_len : Mode → List ℕ → ℕ
told_len Packet1 bytes = slice_index bytes 0
told_len Packet2 bytes = from_be_bytes w16 (take 2 bytes)
told_len Packet4 bytes = from_be_bytes w32 (take 4 bytes)
told_len (Line limit) bytes = 0
told_len Stream bytes = 0

-- where the first frame ends
abbrev pub frame_end : Mode → List ℕ → ℕ
frame_end mode bytes = header_len mode + told_len mode bytes

abbrev pub packets_within : ℕ → Mode → List ℕ → List Message
packets_within zero mode bytes = []
packets_within (suc most) mode bytes =
    (if nat_le (frame_end mode bytes) (length bytes)
    then message Plain (slice_range bytes (header_len mode) (frame_end mode bytes)) ∷ packets_within most mode (drop (frame_end mode bytes) bytes)
    else [])

abbrev pub rest_within : ℕ → Mode → List ℕ → List ℕ
rest_within zero mode bytes = bytes
rest_within (suc most) mode bytes =
    (if nat_le (frame_end mode bytes) (length bytes) then rest_within most mode (drop (frame_end mode bytes) bytes) else bytes)

-- the contents of the whole frames that the bytes begin with
abbrev pub packet_messages : Mode → List ℕ → List Message
packet_messages mode bytes = packets_within (length bytes) mode bytes

-- the bytes after them
abbrev pub packet_rest : Mode → List ℕ → List ℕ
packet_rest mode bytes = rest_within (length bytes) mode bytes
