-- What is submitted, one effect after another.
use Rattle.std.proofs.Common.{◌≡◌, ◌+◌, List, [], ◌∷◌, ◌++◌, map, length, refl, sym, ap, ◌∙◌, subst, arith, append_assoc, append-nil, length-append}
use Rattle.std.specs.List.{All, range_with_len}
use Rattle.std.proofs.lemmas.List.{map-append}
use Rattle.std.proofs.lemmas.List.Elements.{All-append, All-nil, All-cons}
use Rattle.async_jobs.specs.declared.job.Job.{Job}
use Rattle.async_jobs.specs.Pool.{Lanes, Submitted as PoolSubmitted}
use Rattle.async_jobs.specs.Order.{AllSubmitted}
use Rattle.port_model.specs.declared.effect.Effect.{Effect}
use Rattle.port_history.specs.Jobs.{Submitted, submitted_by, is_done}
use Rattle.port_jobs.specs.Jobs.{JobsView, Agrees, Submits, submitted_as}
use Rattle.port_jobs.specs.Counted.{IsCounted}
use Rattle.port_jobs.proofs.Counts.{agrees, range-more}
use Rattle.port_jobs.proofs.Effects.{submitted-append}

submitted-all : (old mid new : Lanes) (xs ys : List Job) → AllSubmitted old xs mid → AllSubmitted mid ys new → AllSubmitted old (xs ++ ys) new
submitted-all old mid new [] ys first second = subst (λ lanes. AllSubmitted lanes ys new) first second
submitted-all old mid new (job ∷ xs) ys first second = (first.0, first.1, submitted-all first.0 mid new xs ys first.2 second)

pub submits-none : (view : JobsView) (effects : List Effect) → submitted_by effects ≡ [] → Submits view view effects
submits-none view effects none = record {
  port = refl;
  lanes = ([], record { own = All-nil (λ (job : Job). job.port ≡ view.port); same = sym none }, refl);
  submitted = omega (arith, ap length none);
  told = refl;
  agrees = λ jobs done is. subst (λ all. Agrees view all done) (sym (ap (λ more. jobs ++ more) none ∙ append-nil jobs)) is;
}

pub submits-more : (old mid new : JobsView) (xs ys : List Effect) → Submits old mid xs → Submits mid new ys → Submits old new (xs ++ ys)
submits-more old mid new xs ys first second = record {
  port = second.port ∙ first.port;
  lanes = (
    first.lanes.0 ++ second.lanes.0,
    record {
      own = All-append (λ (job : Job). job.port ≡ old.port) first.lanes.0 second.lanes.0 first.lanes.1.own (subst (λ port. All (λ (job : Job). job.port ≡ port) second.lanes.0) first.port second.lanes.1.own);
      same = map-append submitted_as first.lanes.0 second.lanes.0
          ∙ (ap (λ jobs. jobs ++ map submitted_as second.lanes.0) first.lanes.1.same
          ∙ (ap (λ jobs. submitted_by xs ++ jobs) second.lanes.1.same ∙ sym (submitted-append xs ys)));
    },
    submitted-all old.lanes mid.lanes new.lanes first.lanes.0 second.lanes.0 first.lanes.2 second.lanes.2,
  );
  submitted = omega (arith, first.submitted, second.submitted, ap length (submitted-append xs ys) ∙ length-append (submitted_by xs) (submitted_by ys));
  told = second.told ∙ first.told;
  agrees = λ jobs done is. subst (λ all. Agrees new all done) (append_assoc jobs (submitted_by xs) (submitted_by ys) ∙ ap (λ more. jobs ++ more) (sym (submitted-append xs ys)))
      (second.agrees (jobs ++ submitted_by xs) done (first.agrees jobs done is));
}

pub submits-one : (old new : JobsView) (job : Job) (e : Effect) → submitted_by (e ∷ []) ≡ submitted_as job ∷ [] → job.port ≡ old.port → job.number ≡ old.submitted → new.port ≡ old.port
    → PoolSubmitted old.lanes job new.lanes → new.submitted ≡ old.submitted + 1 → new.told ≡ old.told → IsCounted new.submitted new.told new.waiting → Submits old new (e ∷ [])
submits-one old new job e submits own number port put count told counted =
    let one : length (submitted_by (e ∷ [])) ≡ 1 = ap length submits in
    record {
      port = port;
      lanes = (job ∷ [], record { own = All-cons (λ (other : Job). other.port ≡ old.port) job [] own (All-nil (λ (other : Job). other.port ≡ old.port)); same = sym submits }, (new.lanes, put, refl));
      submitted = omega (arith, one, count);
      told = told;
      agrees = λ jobs done is.
          let long : length (jobs ++ submitted_by (e ∷ [])) ≡ length jobs + 1 = omega (arith, length-append jobs (submitted_by (e ∷ [])), one) in
          agrees new (jobs ++ submitted_by (e ∷ [])) done counted (omega (arith, count, is.count, long))
          (ap (λ more. map (λ (other : Submitted). other.number) (jobs ++ more)) submits
          ∙ (map-append (λ (other : Submitted). other.number) jobs (submitted_as job ∷ [])
          ∙ (ap (λ numbers. numbers ++ job.number ∷ []) is.numbers
          ∙ (ap (λ n. range_with_len 0 (length jobs) ++ n ∷ []) (number ∙ is.count)
          ∙ sym (ap (range_with_len 0) long ∙ range-more (length jobs))))))
          (λ m. ap (λ numbers. is_done m numbers) told ∙ is.told m);
    }
