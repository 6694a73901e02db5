use Rattle.std.proofs.Common.{take}
use Rattle.packet_framing.proofs.Running.{IsRunning}
use Rattle.packet_framing.proofs.unframer.unframe_so_far.Given as goal

abbrev pub invariant-loop-chunk : goal.invariant-loop-chunk
invariant-loop-chunk l = IsRunning l.fn.mode (take l.chunk-index l.chunks) l.unframer l.messages.items
