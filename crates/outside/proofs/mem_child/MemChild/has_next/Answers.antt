use Rattle.std.proofs.Common.{◌<◌, length, arith}
use Rattle.std.proofs.lemmas.Grind.{common_steps}
use Rattle.outside.proofs.Programs.{has-next}
use Rattle.outside.proofs.mem_child.MemChild.has_next.Goals as goal

pub returns-in-Some : goal.returns-in-Some
returns-in-Some c =
    let some : 0 < length c.self.inside.chunks.items = grind (arith, common_steps) in
    rw (← c.self.view_is, ← c.self.invariant.0) (has-next c.self.inside.given_len c.self.inside.chunks.items c.in-Some.chunk.now some c.in-Some.ensures.lookup)
