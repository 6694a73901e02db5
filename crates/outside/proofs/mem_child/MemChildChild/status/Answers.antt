use Rattle.std.proofs.Common.{◌≡◌, None, Some, true, w32, refl, rules, arith}
use mir.Val.{to_z, of_z}
use Rattle.outside.specs.Programs.{count_of, ended}
use Rattle.outside.proofs.Programs.{ended-status, never-over, goes-on-same}
use Rattle.outside.proofs.mem_child.MemChildChild.status.Goals as goal

pub returns-in_default-clause-status : goal.returns-in_default-clause-status
returns-in_default-clause-status c =
    let none : c.self.inside.ending ≡ None = search rules in
    absurd (never-over _ c.self.inside.chunks.items c.self.inside.ending none (c.self.invariant.2 (rw (← c.self.view_is) at c.requires)).ends)

pub returns-in_default-clause-planned : goal.returns-in_default-clause-planned
returns-in_default-clause-planned c =
    let none : c.self.inside.ending ≡ None = search rules in
    absurd (never-over _ c.self.inside.chunks.items c.self.inside.ending none (c.self.invariant.2 (rw (← c.self.view_is) at c.requires)).ends)

pub returns-clause-status : goal.returns-clause-status
returns-clause-status c =
    let some = (c.self.invariant.2 (rw (← c.self.view_is) at c.requires)).ends in
    let status : ended (count_of c.self.inside.given) c.self.inside.chunks.items c.self.inside.ending ≡ Some c.in-Some.ending.status =
    rw c.in-Some.is (ended-status _ c.self.inside.chunks.items c.in-Some.ending (rw c.in-Some.is at some)) in
    let same : to_z w32 (of_z w32 c.in-Some.ending.status) ≡ c.in-Some.ending.status = search rules in
    rw (← c.self.view_is) (record { faults = search rules; status = rw same status; shows = record { shown = refl; stand = goes-on-same _ } })
