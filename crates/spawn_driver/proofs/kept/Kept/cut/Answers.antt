use Rattle.std.proofs.Common.{◌≤◌, ◌∙◌, ap, sym, refl, arith}
use Rattle.driver_model.specs.Calls.{Program, cut_of}
use Rattle.driver_model.specs.Spawn.{most_taken}
use Rattle.spawn_driver.proofs.Cuts.{cut-unframes, cut-few, some-not-none, holds-none, not-many}
use Rattle.spawn_driver.proofs.kept.Kept.cut.Goals as goal

pub returns-clause-found : goal.returns-clause-found
returns-clause-found c =
    let taken = ap (λ (p : Program). p.taken) c.self.view_is in
    let few : c.args.self.now.taken ≤ most_taken = omega (arith, taken, c.if-self-gt-MOST_TAKEN.false) in
    let mode = ap (λ (p : Program). p.config.mode) c.self.view_is ∙ c.requires.stream in (
      not-many c.args.self.now.taken few,
      sym (ap (λ (p : Program). p.refused) c.self.view_is) ∙ some-not-none c.self.inside.unframer c.if-is_none.ensures,
      cut-unframes c.args.self.now.config.mode (cut_of c.args.row.now) c.args.bytes.now c.args.self.now.rest _ c.requires.stream
          (sym (ap (λ (p : Program). p.rest) c.self.view_is) ∙ holds-none _ c.self.inside.unframer mode c.self.invariant.1) c.requires.some c.in_ok-cut_as_told.ensures,
      refl,
    )

pub returns-clause-few : goal.returns-clause-few
returns-clause-few c = cut-few (cut_of c.args.row.now) c.args.bytes.now _ c.requires.some c.requires.within c.in_ok-cut_as_told.ensures
