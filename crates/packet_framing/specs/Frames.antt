-- The frames of a mode, after the option {packet, N} of open_port: the length of the bytes in N bytes, most significant first,
-- and then the bytes. In line and stream mode the bytes stand alone.
use Rattle.std.specs.Prelude.{◌≡◌, ◌<◌, ◌≤◌, ◌^◌, ℕ, List, [], ◌∷◌, ◌++◌, length}
use Rattle.std.specs.Int.{w16, w32, to_be_bytes}
use Rattle.packet_framing.specs.declared.mode.Mode.{Mode}
use Rattle.packet_framing.specs.declared.mode.Mode.TheVariants.{Packet1, Packet2, Packet4, Line, Stream}
use Rattle.packet_framing.specs.declared.fault.FrameFault.{FrameFault}
use Rattle.packet_framing.specs.declared.fault.FrameFault.TheVariants.{TooLong, NoMemory}

-- how many bytes tell the length of a frame: none, in line and stream mode
abbrev pub header_len : Mode → ℕ
header_len Packet1 = 1
header_len Packet2 = 2
header_len Packet4 = 4
header_len (Line limit) = 0
header_len Stream = 0

-- the lengths that a header can tell are below this
abbrev pub header_limit : Mode → ℕ
header_limit mode = 256 ^ header_len mode

-- the header of a frame of n bytes
abbrev pub header : Mode → ℕ → List ℕ
header Packet1 n = n ∷ []
header Packet2 n = to_be_bytes w16 n
header Packet4 n = to_be_bytes w32 n
header (Line limit) n = []
header Stream n = []

abbrev pub frame_of : Mode → List ℕ → List ℕ
frame_of mode bytes = header mode (length bytes) ++ bytes

-- the frame of a vector with these segments: its header is a segment of its own
abbrev pub framed : Mode → List (List ℕ) → ℕ → List (List ℕ)
framed Packet1 segments size = header Packet1 size ∷ segments
framed Packet2 segments size = header Packet2 size ∷ segments
framed Packet4 segments size = header Packet4 size ∷ segments
framed (Line limit) segments size = segments
framed Stream segments size = segments

-- a frame can have so many bytes after its header: in line and stream mode there is no limit
abbrev pub Holds : Mode → ℕ → Type 0
Holds Packet1 size = size ≤ 255
Holds Packet2 size = size ≤ 65535
Holds Packet4 size = size ≤ 4294967295
Holds (Line limit) size = Unit {0}
Holds Stream size = Unit {0}

-- no frame has so many bytes after its header
abbrev pub IsTooLong : Mode → ℕ → Type 0
IsTooLong Packet1 size = 255 < size
IsTooLong Packet2 size = 65535 < size
IsTooLong Packet4 size = 4294967295 < size
IsTooLong (Line limit) size = ⊥
IsTooLong Stream size = ⊥

-- why there is no frame of so many bytes
abbrev pub FrameFails : Mode → ℕ → FrameFault → Type 0
FrameFails mode size (TooLong len) = IsTooLong mode size × (len ≡ size)
FrameFails mode size NoMemory = Holds mode size
