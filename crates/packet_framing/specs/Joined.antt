-- The bytes that an unframer reads.
use Rattle.std.specs.Prelude.{ℕ, List, ◌++◌}
use Rattle.packet_framing.specs.declared.joined.Joined.{Joined}

-- those that are held, and then those of the chunk
abbrev pub bytes_of : Joined → List ℕ
bytes_of joined = joined.held.now ++ joined.chunk.now
