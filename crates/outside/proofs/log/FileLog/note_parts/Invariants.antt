use Rattle.std.proofs.Common.{◌≡◌, take}
use Rattle.std.specs.List.{flat_map}
use Rattle.outside.proofs.log.FileLog.note_parts.Given as goal

abbrev pub invariant-loop-part : goal.invariant-loop-part
invariant-loop-part l = (l.bytes ≡ flat_map (λ part. part.now) (take l.part-index l.parts)) × (l.self ≡ l.fn.self)
