use Rattle.std.proofs.Common.{◌≡◌, true, sym, ◌∙◌, subst, inl, inr, arith}
use Rattle.std.specs.Ordering.{nat_cmp}
use Rattle.std.specs.BTreeSet.{contains}
use Rattle.std.proofs.lemmas.Bool.{cases_lt}
use Rattle.history_tables.proofs.JobSteps.{all-done, some-undone}
use Rattle.history_tables.proofs.jobs.JobTable.are_done.Goals as goal

pub loop-place-init : goal.loop-place-init
loop-place-init c = record { each = λ m below. absurd (omega arith) }

pub returns-then-not-contains : goal.returns-then-not-contains
returns-then-not-contains c = λ jobs done is.
    some-undone c.args.self.now jobs done c.loop-place.place is (omega (arith, c.args.self.now.jobs.ok.0)) (sym c.contains.ensures ∙ c.if-not-contains.true)

pub loop-place-preserved : goal.loop-place-preserved
loop-place-preserved c = record {
  each = λ m below. elim (cases_lt m c.loop-place.place) [
    | inl less ↦ c.loop-place.invariant.each m less
    | inr more ↦
        let same : c.loop-place.place ≡ m = omega arith in
        subst (λ n. contains nat_cmp c.args.self.now.told n ≡ true) same (sym c.contains.ensures ∙ c.if-not-contains.false)
  ];
}

pub returns : goal.returns
returns c = λ jobs done is. all-done c.args.self.now jobs done is (λ m below. c.loop-place.invariant.each m (omega (arith, c.args.self.now.jobs.ok.0)))
