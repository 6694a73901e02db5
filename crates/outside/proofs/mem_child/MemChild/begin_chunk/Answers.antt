use Rattle.std.proofs.Common.{◌≡◌, ◌<◌, ◌≤◌, [], ◌∷◌, true, nat_lt, drop, length, refl, rules, arith}
use Rattle.std.proofs.lemmas.Grind.{common_steps}
use Rattle.outside.specs.Programs.{upcoming, count_of}
use Rattle.outside.proofs.Programs.{stands-begin, dropped-some, dropped-all}
use Rattle.outside.proofs.mem_child.MemChild.begin_chunk.Goals as goal

pub returns-then-self-len-clause-empty : goal.returns-then-self-len-clause-empty
returns-then-self-len-clause-empty c =
    let short : c.self.inside.used < length c.self.inside.current.items = grind (arith, common_steps) in
    rw (← c.self.view_is) (λ none. absurd (dropped-some c.self.inside.current.items c.self.inside.used short none))

pub returns-in-Some-clause-stands : goal.returns-in-Some-clause-stands
returns-in-Some-clause-stands c =
    let split : c.self.inside.chunks.items ≡ c.in-Some.chunk ∷ c.pop_front.new.self.items = c.in-Some.ensures.items in
    let past : length c.self.inside.current.items ≤ c.self.inside.used = grind (arith, common_steps) in
    let empty : drop c.self.inside.used c.self.inside.current.items ≡ [] = dropped-all c.self.inside.current.items c.self.inside.used past in
    let some : nat_lt 0 (length (upcoming (count_of c.self.inside.given) c.self.inside.chunks.items)) ≡ true = search rules in
    rw (← c.self.view_is, split, empty) (stands-begin _ _ c.in-Some.chunk c.pop_front.new.self.items c.self.inside.ending (rw split at some))
