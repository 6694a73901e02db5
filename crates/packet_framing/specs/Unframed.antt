-- What an unframer holds, and what its calls do.
use Rattle.std.specs.Prelude.{◌≡◌, ◌≢◌, ◌<◌, ◌≤◌, ◌⊎◌, ◌+◌, ℕ, List, [], ◌++◌, length, take, All, Option, Some, None}
use Rattle.packet_framing.specs.declared.mode.Mode.{Mode}
use Rattle.packet_framing.specs.declared.mode.Mode.TheVariants.{Packet1, Packet2, Packet4, Line, Stream}
use Rattle.packet_framing.specs.declared.message.Message.{Message}
use Rattle.packet_framing.specs.declared.fault.UnframeFault.{UnframeFault}
use Rattle.packet_framing.specs.declared.fault.UnframeFault.TheVariants.{Oversize, NoMemory}
use Rattle.packet_framing.specs.Frames.{header_len, header_limit, header}
use Rattle.packet_framing.specs.Lines.{line_messages, line_rest}
use Rattle.packet_framing.specs.Packets.{IsPacket, frames_of}
use Rattle.packet_framing.specs.Messages.{StreamMessages}

-- an unframer: its mode, the bytes that it holds back, and the length that an oversized frame told, if one came
pub record Unframed : Type 0 where
  pub mode : Mode
  pub held : List ℕ
  pub oversize : Option ℕ

-- a message of a frame that is served
abbrev pub IsServedPacket : Mode → Message → Type 0
IsServedPacket mode m = IsPacket mode m × (length m.bytes ≤ 262143)

-- the header of a frame that is served is there, and the frame isn't whole
pub record IsCutFrame (mode : Mode) (rest : List ℕ) : Type 0 where
  pub len : ℕ
  pub told : take (header_len mode) rest ≡ header mode len
  pub below : len < header_limit mode
  pub served : len ≤ 262143
  pub short : length rest < header_len mode + len

-- what follows the whole frames: part of a header, or a cut frame
abbrev pub IsPart : Mode → List ℕ → Type 0
IsPart mode rest = (length rest < header_len mode) ⊎ IsCutFrame mode rest

pub record PacketsSplit (mode : Mode) (bytes : List ℕ) (ms : List Message) (rest : List ℕ) : Type 0 where
  pub whole : bytes ≡ frames_of mode ms ++ rest
  pub each : All (IsServedPacket mode) ms
  pub part : IsPart mode rest

-- the bytes are told as these messages, and this rest is held back
abbrev pub Unframes : Mode → List ℕ → List Message → List ℕ → Type 0
Unframes Packet1 bytes ms rest = PacketsSplit Packet1 bytes ms rest
Unframes Packet2 bytes ms rest = PacketsSplit Packet2 bytes ms rest
Unframes Packet4 bytes ms rest = PacketsSplit Packet4 bytes ms rest
Unframes (Line limit) bytes ms rest = (ms ≡ line_messages limit bytes) × (rest ≡ line_rest limit bytes)
Unframes Stream bytes ms rest = StreamMessages bytes ms × (rest ≡ [])

-- after whole frames that are served stands a header that tells `len` bytes, which are more than 262,143
pub record IsOversize (mode : Mode) (bytes : List ℕ) (len : ℕ) : Type 0 where
  pub ms : List Message
  pub rest : List ℕ
  pub whole : bytes ≡ frames_of mode ms ++ header mode len ++ rest
  pub each : All (IsServedPacket mode) ms
  pub large : 262143 < len
  pub below : len < header_limit mode

abbrev pub HasOversize : Mode → List ℕ → ℕ → Type 0
HasOversize Packet1 bytes len = IsOversize Packet1 bytes len
HasOversize Packet2 bytes len = IsOversize Packet2 bytes len
HasOversize Packet4 bytes len = IsOversize Packet4 bytes len
HasOversize (Line limit) bytes len = ⊥
HasOversize Stream bytes len = ⊥

-- what a line's unframer may hold: at most `limit` bytes, and no line end
pub record IsOpenLine (limit : ℕ) (held : List ℕ) : Type 0 where
  pub short : length held ≤ limit
  pub unbroken : All (λ byte. byte ≢ 10) held

abbrev pub IsHeld : Mode → List ℕ → Type 0
IsHeld Packet1 held = Unit {0}
IsHeld Packet2 held = Unit {0}
IsHeld Packet4 held = Unit {0}
IsHeld (Line limit) held = IsOpenLine limit held
IsHeld Stream held = held ≡ []

-- an unframer that was told of these bytes after those that it holds refuses: an oversized frame came before, or comes now
abbrev pub RefusesFor : Option ℕ → Mode → List ℕ → ℕ → Type 0
RefusesFor None mode bytes len = HasOversize mode bytes len
RefusesFor (Some told) mode bytes len = len ≡ told

-- why `feed` told no messages of this chunk, and what it left
abbrev pub FeedFails : Unframed → List ℕ → Unframed → UnframeFault → Type 0
FeedFails old chunk new (Oversize len) =
    RefusesFor old.oversize old.mode (old.held ++ chunk) len × (new ≡ record old { oversize = Some len })
FeedFails old chunk new NoMemory = (old.oversize ≡ None) × (new ≡ old)

-- why `end` told no message: it leaves the unframer as it was
abbrev pub EndFails : Unframed → UnframeFault → Type 0
EndFails old (Oversize len) = old.oversize ≡ Some len
EndFails old NoMemory = old.oversize ≡ None

-- why a whole run over these bytes told nothing
abbrev pub RunFails : Mode → List ℕ → UnframeFault → Type 0
RunFails mode bytes (Oversize len) = HasOversize mode bytes len
RunFails mode bytes NoMemory = Unit {0}

-- an unframer of this mode that got no bytes
abbrev pub fresh : Mode → Unframed
fresh mode = record { mode = mode; held = []; oversize = None }
