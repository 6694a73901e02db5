-- The workers that were told of the end, one after another.
use Rattle.std.proofs.Common.{◌≡◌, ◌≢◌, ◌<◌, ◌≤◌, ◌+◌, ℕ, List, [], ◌∷◌, ◌++◌, length, get_or, sym, refl, ap, ◌∙◌, subst, arith, inl, inr, ⊎_elim}
use Rattle.std.proofs.lemmas.Bool.{cases_eq, cases_lt}
use Rattle.async_jobs.specs.declared.job.WorkItem.TheVariants.{Finish}
use Rattle.async_jobs.specs.Pool.{PoolEnd}
use Rattle.run_jobs.specs.declared.finish.FinishEnd.TheVariants as end
use Rattle.run_jobs.specs.Finishing.{SendsOne, SendsFinishAt, TellsWorkers}

-- those below this place were told, and the others not
pub record ToldBelow (below : ℕ) (old new : List PoolEnd) : Type 0 where
  pub many : length new ≡ length old
  pub told : (n : ℕ) (d : PoolEnd) → n < below → SendsOne Finish (get_or old n d) (get_or new n d)
  pub untold : (n : ℕ) (d : PoolEnd) → below ≤ n → get_or new n d ≡ get_or old n d

pub told_none : (ends : List PoolEnd) → ToldBelow 0 ends ends
told_none ends = record { many = refl; told = λ n d below. absurd (omega arith); untold = λ n d past. refl }

pub told_next : (k : ℕ) (old mid new : List PoolEnd) → ToldBelow k old mid → SendsFinishAt k mid new → ToldBelow (k + 1) old new
told_next k old mid new so one = record {
  many = one.many ∙ so.many;
  told = λ n d below. ⊎_elim
      (λ (same : n ≡ k).
      subst (λ m. SendsOne Finish (get_or old m d) (get_or new m d)) (sym same) (one.own d ∙ ap (λ (e : PoolEnd). record e { sent = e.sent ++ Finish ∷ [] }) (so.untold k d (omega arith))))
      (λ (ne : n ≢ k). one.others n d ne ∙ so.told n d (omega arith))
      (cases_eq n k);
  untold = λ n d past. one.others n d (λ e. omega arith) ∙ so.untold n d (omega arith);
}

pub told_all : (k : ℕ) (old new : List PoolEnd) → length old ≤ k → ToldBelow k old new → TellsWorkers end.Told old new
told_all k old new past so = record { many = so.many; each = λ n d within. so.told n d (omega arith) }

pub told_some : (k : ℕ) (old new : List PoolEnd) → ToldBelow k old new → TellsWorkers end.NoMemory old new
told_some k old new so = record {
  many = so.many;
  each = λ n d within. ⊎_elim (λ (b : n < k). inl (so.told n d b)) (λ (p : k ≤ n). inr (so.untold n d p)) (cases_lt n k);
}
