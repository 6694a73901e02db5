-- Which ends there are stays the same, whatever they send.
use Rattle.std.proofs.Common.{◌≡◌, ℕ, ◌<◌, ◌==◌, suc, true, false, List, [], ◌∷◌, length, refl, sym, ap, ◌∙◌, subst, arith, eqb-true, eq-eqb}
use Rattle.std.specs.Prelude.{slice_index_or, Result, Ok, Err, OnOk, OnErr}
use Rattle.task_queue.specs.Ends.{Sending}
use Rattle.async_jobs.specs.declared.job.Job.{Job}
use Rattle.async_jobs.specs.Order.{AllSubmitted}
use Rattle.async_jobs.specs.Pool.{Lanes, PoolEnd, Submitted, worker_of}
use Rattle.port_model.specs.declared.effect.Effect.{Effect}
use Rattle.port_jobs.specs.Jobs.{JobsView, Submits, SubmitsFront}
use Rattle.served_port.specs.View.{end_name, end_names}

-- ends that are the same at each place
pub names_by_place : {T K : Type 0} (old new : List (Sending T K)) → length new ≡ length old
    → ((n : ℕ) (e : Sending T K) → n < length old → end_name (slice_index_or new n e) ≡ end_name (slice_index_or old n e)) → end_names new ≡ end_names old
names_by_place [] [] len same = refl
names_by_place [] (y ∷ new) len same = absurd (omega (arith, len))
names_by_place (x ∷ old) [] len same = absurd (omega (arith, len))
names_by_place (x ∷ old) (y ∷ new) len same =
    ap (λ name. name ∷ end_names new) (same 0 x (omega arith))
    ∙ ap (λ names. end_name x ∷ names) (names_by_place old new (omega (arith, len)) (λ n e less. same (suc n) e (omega (arith, less))))

one_submitted : (old : Lanes) (job : Job) (new : Lanes) → Submitted old job new → end_names new ≡ end_names old
one_submitted old job new s = names_by_place old new s.workers each where
  each : (n : ℕ) (e : PoolEnd) → n < length old → end_name (slice_index_or new n e) ≡ end_name (slice_index_or old n e)
  each n e less = elim (n == worker_of old job.key) as (λ b. (n == worker_of old job.key) ≡ b → end_name (slice_index_or new n e) ≡ end_name (slice_index_or old n e)) [
    | true ↦ λ own.
        subst (λ k. end_name (slice_index_or new k e) ≡ end_name (slice_index_or old k e)) (sym (eqb-true n (worker_of old job.key) own)) (ap end_name (s.own e))
    | false ↦ λ other. ap end_name (s.others n e (λ equal. absurd (let same : (n == worker_of old job.key) ≡ true = eq-eqb n (worker_of old job.key) equal in cc)))
  ] refl

all_submitted : (old : Lanes) (jobs : List Job) (new : Lanes) → AllSubmitted old jobs new → end_names new ≡ end_names old
all_submitted old [] new all = ap end_names all
all_submitted old (job ∷ jobs) new all = all_submitted all.0 jobs new all.2 ∙ one_submitted old job all.0 all.1

pub names_submitted : (old new : JobsView) (effects : List Effect) → Submits old new effects → end_names new.lanes ≡ end_names old.lanes
names_submitted old new effects s = all_submitted old.lanes s.lanes.0 new.lanes s.lanes.2

names_before : (old new : JobsView) (effects : List Effect) → SubmitsFront old new effects → end_names new.lanes ≡ end_names old.lanes
names_before old new effects s = names_submitted old new s.front s.submits

-- the jobs of some effects were submitted, or of some first ones
pub names_kept : {T E : Type 0} (r : Result T E) (old new : JobsView) (effects : List Effect) → OnOk r (Submits old new effects) → OnErr r (SubmitsFront old new effects)
    → end_names new.lanes ≡ end_names old.lanes
names_kept (Ok value) old new effects all some = names_submitted old new effects all
names_kept (Err error) old new effects all some = names_before old new effects some
