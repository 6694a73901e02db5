use Rattle.std.proofs.Common.{◌≡◌, ◌+◌, ◌≤◌, ◌<◌, List, ℕ, [], ◌++◌, take, drop, length, refl, sym, ap, ◌∙◌, rules, arith}
use Rattle.std.proofs.lemmas.Grind.{common_steps}
use Rattle.outside.specs.Programs.{ready, count_of}
use Rattle.outside.proofs.Programs.{front, dropped-more, goes-on-same}
use Rattle.outside.proofs.mem_child.MemChild.give.Goals as goal

-- the bytes are the first ones of what was begun, and the rest of it comes next
pub returns-in-Ok-clause-fetch : goal.returns-in-Ok-clause-fetch
returns-in-Ok-clause-fetch c =
    let rest : List ℕ = drop c.self.inside.used c.self.inside.current.items in
    let given : c.in-Ok.bytes.items ≡ take c.min-count.result (drop c.self.inside.used c.self.inside.current.items) = grind (arith, common_steps) in
    let within : c.min-count.result ≤ length (drop c.self.inside.used c.self.inside.current.items) = grind (arith, common_steps) in
    let some : 0 < c.min-count.result = grind (arith, common_steps) in
    let most : c.min-count.result ≤ c.args.max = grind (arith, common_steps) in
    let parts = front rest (ready (count_of c.self.inside.given) c.self.inside.chunks.items) c.min-count.result within in
    let len : length c.in-Ok.bytes.items ≡ c.min-count.result = ap length given ∙ parts.0 in
    let fetched : c.note.new.self ≡ c.self.inside.fetched ++ c.in-Ok.bytes.items = rw c.as_slice.ensures.value at c.note.ensures in (
      c.requires.open,
      rw (← c.self.view_is) (record {
        faults = refl;
        some = rw len some;
        within = rw len most;
        next = rw len (given ∙ sym parts.1);
        shows = record { shown = rw fetched refl; stand = rw (len, parts.2, dropped-more c.self.inside.current.items c.self.inside.used c.min-count.result) (goes-on-same _) };
      }),
    )
