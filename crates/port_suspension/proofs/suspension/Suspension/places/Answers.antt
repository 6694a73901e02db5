use Rattle.std.proofs.Common.{◌≤◌, length, ap, subst, arith}
use Rattle.std.proofs.lemmas.List.{length-map}
use Rattle.std.proofs.lemmas.Map.Steps.{length-le_from_distinct_below}
use Rattle.suspend_list.specs.Entries.{Suspended, processes_of}
use Rattle.port_suspension.proofs.suspension.Suspension.places.Goals as goal

pub returns-clause-places : goal.returns-clause-places
returns-clause-places c =
    let many = c.self.invariant.places in
    let same = ap (λ (v : Suspended). v.places) c.self.view_is in
    omega (arith, c.len.ensures, c.self.inside.is_listed.ok.0, many, same)

pub returns-clause-few : goal.returns-clause-few
returns-clause-few c =
    let list = c.self.inside.list in
    let most = length-le_from_distinct_below (processes_of list.entries) list.places c.self.invariant.once c.self.invariant.below in
    let same = length-map list.entries (λ e. e.process) in
    subst (λ (v : Suspended). length v.entries ≤ v.places) c.self.view_is (omega (arith, most, same))
