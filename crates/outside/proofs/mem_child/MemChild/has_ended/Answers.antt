use Rattle.std.proofs.Common.{◌≡◌, ◌<◌, [], length, None, Some, inl, inr, refl, rules, arith}
use Rattle.std.proofs.lemmas.Grind.{common_steps}
use Rattle.outside.proofs.Programs.{ended-none, ended-last}
use Rattle.outside.proofs.mem_child.MemChild.has_ended.Goals as goal

pub returns-in_default : goal.returns-in_default
returns-in_default c =
    let none : c.self.inside.ending ≡ None = search rules in
    rw (← c.self.view_is) (ended-none _ c.self.inside.chunks.items c.self.inside.ending (rw (← c.self.view_is) at c.requires) (inr none))

pub returns-then-not-is_empty : goal.returns-then-not-is_empty
returns-then-not-is_empty c =
    let some : 0 < length c.self.inside.chunks.items = grind (arith, common_steps) in
    rw (← c.self.view_is) (ended-none _ c.self.inside.chunks.items c.self.inside.ending (rw (← c.self.view_is) at c.requires) (inl some))

pub returns : goal.returns
returns c =
    let empty : c.self.inside.chunks.items ≡ [] = grind (arith, common_steps) in
    rw (← c.self.view_is, ← c.self.invariant.0, c.in-Some.is) (ended-last c.self.inside.given_len c.self.inside.chunks.items c.in-Some.ending empty)
