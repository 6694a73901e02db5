use Rattle.std.proofs.Common.{◌≡◌, [], ◌∷◌, ◌+◌, ◌++◌, drop, length, true, refl, sym, ap, ◌∙◌, subst, append_assoc, append-nil, length-append}
use Rattle.std.proofs.lemmas.List.{drop_all, drop_more}
use Rattle.std.proofs.lemmas.Bool.{and_parts}
use Rattle.port_history.specs.Jobs.{submitted_by}
use Rattle.history_tables.specs.JobsKept.{Keeps, are_next}
use Rattle.history_tables.proofs.JobSteps.{submitted-cons, next-cons}
use Rattle.history_tables.proofs.jobs.JobTable.submit.Goals as goal

pub loop-effect-init : goal.loop-effect-init
loop-effect-init c = record { keeps = λ jobs done is next. (jobs, (is, (next, refl))) }

pub loop-effect-preserved : goal.loop-effect-preserved
loop-effect-preserved c = record {
  keeps = λ jobs done is next.
      let i = c.loop-effect.invariant.keeps jobs done is next in
      let e = c.effect-item.result in
      let rest = drop (c.loop-effect.effect-index + 1) c.args.effects.now in
      let all : drop c.loop-effect.effect-index c.args.effects.now ≡ e ∷ rest =
      drop_more c.args.effects.now c.loop-effect.effect-index c.effect-item.result c.loop-effect-test.true ∙ ap (λ x. x ∷ rest) (sym c.effect-item.is) in
      let parts = and_parts (are_next (length i.0) (e ∷ [])) (are_next (length i.0 + length (submitted_by (e ∷ []))) rest)
      (sym (next-cons (length i.0) e rest) ∙ (ap (are_next (length i.0)) (sym all) ∙ i.1.1.0)) in (
        i.0 ++ submitted_by (e ∷ []),
        (
          c.in_ok-submit_effect.ensures i.0 done i.1.0 parts.0,
          (
            ap (λ n. are_next n rest) (length-append i.0 (submitted_by (e ∷ []))) ∙ parts.1,
            append_assoc i.0 (submitted_by (e ∷ [])) (submitted_by rest)
                ∙ (ap (λ js. i.0 ++ js) (sym (submitted-cons e rest)) ∙ (ap (λ es. i.0 ++ submitted_by es) (sym all) ∙ i.1.1.1)),
          ),
        ),
      );
}

pub returns : goal.returns
returns c = λ jobs done is next.
    let i = c.loop-effect.invariant.keeps jobs done is next in
    let none = drop_all c.loop-effect.effect-index c.args.effects.now c.loop-effect-test.false in
    subst (λ js. Keeps c.loop-effect.self js done) (sym (append-nil i.0) ∙ (ap (λ es. i.0 ++ submitted_by es) (sym none) ∙ i.1.1.1)) i.1.0
