use Rattle.std.proofs.Common.{map, sym, ap, ◌∙◌, subst, arith}
use Rattle.suspend_list.specs.Entries.{Suspended}
use Rattle.port_suspension.specs.Listed.{listed_as}
use Rattle.port_suspension.specs.Flags.{IsFlagged}
use Rattle.port_suspension.proofs.Listing.{resumed}
use Rattle.port_suspension.proofs.Flagged.{flagged-fewer, first-within}
use Rattle.port_suspension.proofs.suspension.Suspension.resume_first.Goals as goal

pub index_mut-requires : goal.index_mut-requires
index_mut-requires c =
    let within = first-within c.self.inside.is_listed.items c.self.inside.list.places c.self.inside.list.entries c.in_ok-entry.entry c.self.invariant (sym c.in_ok-entry.ensures.first) in
    omega (arith, within, c.self.inside.is_listed.ok.0)

pub invariant_of-self-2 : goal.invariant_of-self-2
invariant_of-self-2 c =
    subst (IsFlagged _) (sym c.in_ok-entry.ensures.rest)
    (flagged-fewer c.self.inside.is_listed.items c.self.inside.list.places c.self.inside.list.entries c.in_ok-entry.entry c.self.invariant (sym c.in_ok-entry.ensures.first))

pub returns-clause-rest : goal.returns-clause-rest
returns-clause-rest c = λ listed agrees.
    ap (λ (v : Suspended). map listed_as v.entries) c.in_ok-entry.ensures.rest
    ∙ resumed c.self.inside.list.entries c.in_ok-entry.entry (sym c.in_ok-entry.ensures.first) c.self.invariant.once listed (ap (λ (v : Suspended). map listed_as v.entries) c.self.view_is ∙ agrees)
