use Rattle.std.proofs.Common.{take}
use Rattle.std.specs.Io.KnownBytes.{Appends, append_known}
use Rattle.std.specs.List.{flat_map}
use Rattle.outside.proofs.part_writer.write_parts.Given as goal

abbrev pub invariant-loop-part : goal.invariant-loop-part
invariant-loop-part g l =
    Appends (g.W.Write.contents l.fn.output) (append_known (g.W.Write.contents l.output) l.buffer.items) (flat_map (λ part. part.now) (take l.part-index l.parts))
