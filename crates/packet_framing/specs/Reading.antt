-- What the steps of an unframer find.
use Rattle.std.specs.Prelude.{◌≡◌, ◌≢◌, ◌<◌, ◌≤◌, ◌++◌, ℕ, List, take, slice_index, slice_range}
use Rattle.packet_framing.specs.declared.mode.Mode.{Mode}
use Rattle.packet_framing.specs.declared.message.Message.{Message}
use Rattle.packet_framing.specs.declared.fault.UnframeFault.{UnframeFault}
use Rattle.packet_framing.specs.declared.fault.UnframeFault.TheVariants.{Oversize, NoMemory}
use Rattle.packet_framing.specs.Frames.{header_limit, header, frame_of}
use Rattle.packet_framing.specs.Lines.{line_messages, line_rest}
use Rattle.packet_framing.specs.Unframed.{IsServedPacket, IsOversize, HasOversize}

-- the bytes before place `at` are told as these lines' pieces, and the rest begins at place `from`
pub record ReadsTo (limit : ℕ) (bytes : List ℕ) (at from : ℕ) (ms : List Message) : Type 0 where
  pub told : ms ≡ line_messages limit (take at bytes)
  pub left : slice_range bytes from at ≡ line_rest limit (take at bytes)
  pub within : from ≤ at

-- the bytes are read so far up to some place, and none from there to place `end` ends a line
pub record ReadsInLine (limit : ℕ) (bytes : List ℕ) (end from : ℕ) (ms : List Message) : Type 0 where
  pub at : ℕ
  pub reads : ReadsTo limit bytes at from ms
  pub before : at ≤ end
  pub unbroken : (i : ℕ) → at ≤ i → i < end → slice_index bytes i ≢ 10

-- the bytes begin with the frame of this message, which is served
pub record FoundPacket (mode : Mode) (bytes : List ℕ) (m : Message) : Type 0 where
  pub more : List ℕ
  pub whole : bytes ≡ frame_of mode m.bytes ++ more
  pub served : IsServedPacket mode m

-- the bytes begin with a header that tells too many
pub record IsLargeHeader (mode : Mode) (bytes : List ℕ) (len : ℕ) : Type 0 where
  pub more : List ℕ
  pub whole : bytes ≡ header mode len ++ more
  pub large : 262143 < len
  pub below : len < header_limit mode

abbrev pub PacketFails : Mode → List ℕ → UnframeFault → Type 0
PacketFails mode bytes (Oversize len) = IsLargeHeader mode bytes len
PacketFails mode bytes NoMemory = Unit {0}

abbrev pub ReadsOversize : Mode → List ℕ → UnframeFault → Type 0
ReadsOversize mode bytes (Oversize len) = IsOversize mode bytes len
ReadsOversize mode bytes NoMemory = Unit {0}

abbrev pub ReadFails : Mode → List ℕ → UnframeFault → Type 0
ReadFails mode bytes (Oversize len) = HasOversize mode bytes len
ReadFails mode bytes NoMemory = Unit {0}
