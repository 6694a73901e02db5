use Rattle.std.proofs.Common.{◌≡◌, ◌∷◌, [], true, false, arith, refl, sym, ap, ◌∙◌, subst}
use Rattle.std.specs.BTreeSet.{keys}
use Rattle.port_history.specs.Jobs.{submitted_by, is_done}
use Rattle.port_jobs.proofs.Counts.{has-is_done, counted-le, counted-waits, counted-before}
use Rattle.port_jobs.proofs.Effects.{next-number}
use Rattle.port_jobs.proofs.Submitting.{submits-one}
use Rattle.port_jobs.proofs.jobs.PortJobs.submit_one.Goals as goal

pub overflow_add-self : goal.overflow_add-self
overflow_add-self g c = omega (arith, counted-le c.self.inside.submitted c.self.inside.waiting (keys c.self.inside.told) c.self.invariant, c.in-Some.ensures.0)

pub invariant_of-self-then-not-contains : goal.invariant_of-self-then-not-contains
invariant_of-self-then-not-contains g c =
    let next = next-number c.args.self.now.submitted c.in-Async.number c.in-Async.key c.in-Async.code c.in-Async.input (rw c.in-Async.is at c.requires) ∙ sym (ap (λ v. v.submitted) c.self.view_is) in
    let fresh = sym (has-is_done c.in-Async.number (keys c.self.inside.told)) ∙ (sym c.contains.ensures ∙ c.if-not-contains.true) in
    rw c.in-Some.ensures.1 (counted-waits c.self.inside.submitted c.self.inside.waiting (keys c.self.inside.told) c.self.invariant (subst (λ n. is_done n (keys c.self.inside.told) ≡ false) next fresh))

pub invariant_of-self-else-not-contains : goal.invariant_of-self-else-not-contains
invariant_of-self-else-not-contains g c =
    let next = next-number c.args.self.now.submitted c.in-Async.number c.in-Async.key c.in-Async.code c.in-Async.input (rw c.in-Async.is at c.requires) ∙ sym (ap (λ v. v.submitted) c.self.view_is) in
    let known = sym (has-is_done c.in-Async.number (keys c.self.inside.told)) ∙ (sym c.contains.ensures ∙ c.if-not-contains.false) in
    rw c.in-Some.ensures.1 (counted-before c.self.inside.submitted c.self.inside.waiting (keys c.self.inside.told) c.self.invariant (subst (λ n. is_done n (keys c.self.inside.told) ≡ true) next known))

pub returns-then-not-contains-clause-ok : goal.returns-then-not-contains-clause-ok
returns-then-not-contains-clause-ok g c =
    let next = next-number c.args.self.now.submitted c.in-Async.number c.in-Async.key c.in-Async.code c.in-Async.input (rw c.in-Async.is at c.requires) ∙ sym (ap (λ v. v.submitted) c.self.view_is) in
    rw (← c.self.view_is)
    (submits-one _ _ _ _
    (ap (λ e. submitted_by (e ∷ [])) c.in-Async.is
    ∙ ap (λ i. record { number = c.in-Async.number; key = c.in-Async.key; code = c.in-Async.code; input = i } ∷ []) (sym c.in_ok-share.ensures))
    refl next refl c.in_ok-put.ensures.ok c.in-Some.ensures.1 refl (invariant_of-self-then-not-contains g c))

pub returns-else-not-contains-clause-ok : goal.returns-else-not-contains-clause-ok
returns-else-not-contains-clause-ok g c =
    let next = next-number c.args.self.now.submitted c.in-Async.number c.in-Async.key c.in-Async.code c.in-Async.input (rw c.in-Async.is at c.requires) ∙ sym (ap (λ v. v.submitted) c.self.view_is) in
    rw (← c.self.view_is)
    (submits-one _ _ _ _
    (ap (λ e. submitted_by (e ∷ [])) c.in-Async.is
    ∙ ap (λ i. record { number = c.in-Async.number; key = c.in-Async.key; code = c.in-Async.code; input = i } ∷ []) (sym c.in_ok-share.ensures))
    refl next refl c.in_ok-put.ensures.ok c.in-Some.ensures.1 refl (invariant_of-self-else-not-contains g c))
