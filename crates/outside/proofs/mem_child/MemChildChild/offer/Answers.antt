use Rattle.std.proofs.Common.{◌≡◌, ◌≤◌, ◌<◌, [], ◌∷◌, ◌++◌, take, true, false, nat_lt, min, drop, length, refl, sym, ◌∙◌, rules, arith}
use Rattle.std.proofs.lemmas.Grind.{common_steps}
use Rattle.outside.specs.Programs.{count_of}
use Rattle.outside.proofs.Programs.{ended-more, given-more}
use Rattle.outside.proofs.mem_child.MemChildChild.offer.Goals as goal

pub invariant_of-self-2 : goal.invariant_of-self-2
invariant_of-self-2 c =
    let grows : count_of c.self.inside.given ≤ count_of c.note.new.self = grind (arith, common_steps) in
    let exact : c.saturating_add-self-inside.result ≡ count_of c.note.new.self = grind (arith, common_steps) in (
      exact,
      c.self.invariant.1,
      λ e.
          let over = c.self.invariant.2 e in
          let still = ended-more _ _ c.self.inside.chunks.items c.self.inside.ending grows over.ends in
          record { current = over.current; nothing = still.0 ∙ over.nothing; ends = rw still.1 over.ends },
    )

pub returns-clause-offer : goal.returns-clause-offer
returns-clause-offer c =
    let grows : count_of c.self.inside.given ≤ count_of c.note.new.self = grind (arith, common_steps) in
    let taken : c.note.new.self ≡ c.self.inside.given ++ take c.min-count.result c.args.bytes.now = grind (arith, common_steps) in
    rw (← c.self.view_is) (record {
      faults = search rules;
      within = search rules;
      shows = record { shown = rw taken refl; stand = given-more _ _ _ _ c.self.inside.chunks.items c.self.inside.ending grows };
      nothing = search rules;
    })
