use Rattle.std.proofs.Common.{◌≡◌, ◌+◌, ◌++◌, ◌∷◌, [], true, take, drop, sym, ap, ◌∙◌, subst}
use Rattle.std.specs.Prelude.{Result, Ok, Err, OnErr}
use Rattle.std.proofs.lemmas.Bool.{and_parts}
use Rattle.std.proofs.lemmas.List.{take_more, drop_more, take-append-drop}
use Rattle.port_jobs.specs.Jobs.{Submits, SubmitsFront, are_next}
use Rattle.port_jobs.proofs.Effects.{next-cons}
use Rattle.port_jobs.proofs.Submitting.{submits-more}
use Rattle.port_jobs.proofs.jobs.PortJobs.submit_next.Goals as goal

on_err : {T E : Type 0} (r : Result T E) (P : Type 0) → P → OnErr r P
on_err (Ok x) P p = tt
on_err (Err e) P p = p

front : (g : _) (c : goal.After-from_residual g) → SubmitsFront c.args.self.now c.submit_one.new.self c.args.effects.now
front g c = record {
  front = take c.loop-effect.effect-index c.args.effects.now;
  rest = drop c.loop-effect.effect-index c.args.effects.now;
  split = sym (take-append-drop c.loop-effect.effect-index c.args.effects.now);
  submits = subst (λ v. Submits c.args.self.now v (take c.loop-effect.effect-index c.args.effects.now)) (sym c.in_err-submit_one.ensures.err) c.loop-effect.invariant.submits;
}

pub returns-in_err-submit_one-clause-err : goal.returns-in_err-submit_one-clause-err
returns-in_err-submit_one-clause-err g c = on_err c.from_residual.result (SubmitsFront c.args.self.now c.submit_one.new.self c.args.effects.now) (front g c)

pub loop-effect-preserved : goal.loop-effect-preserved
loop-effect-preserved g c =
    let effects = c.args.effects.now in
    let i = c.loop-effect.effect-index in
    let e = c.effect-item.result in
    let ok = c.in_ok-submit_one.ensures.ok in
    record {
      submits = subst (λ es. Submits c.args.self.now c.submit_one.new.self es) (sym (take_more effects i e c.loop-effect-test.true ∙ ap (λ x. take i effects ++ x ∷ []) (sym c.effect-item.is)))
          (submits-more _ _ _ _ _ c.loop-effect.invariant.submits ok);
      next =
          let rest = drop (i + 1) effects in
          let all = ap (are_next c.loop-effect.self.submitted) (sym (drop_more effects i e c.loop-effect-test.true ∙ ap (λ x. x ∷ rest) (sym c.effect-item.is))) ∙ c.loop-effect.invariant.next in
          subst (λ n. are_next n rest ≡ true) (sym ok.submitted) (and_parts _ _ (sym (next-cons c.loop-effect.self.submitted e rest) ∙ all)).1;
    }
