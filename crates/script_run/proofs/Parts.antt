-- The processes of a run by place.
use Rattle.std.proofs.Common.{◌≡◌, ◌<◌, ℕ, zero, suc, List, [], ◌∷◌, length, map, get_or, refl, ap, arith}
use Rattle.port_model.specs.declared.mail.Mail.{Mail}
use Rattle.process_end.specs.declared.answers.ProcEnd.{ProcEnd}
use Rattle.seated_script.specs.run_opening.run_end.process_job.declared.job.EndedProcess.{EndedProcess}
use Rattle.seated_script.specs.run_opening.run_end.Ran.{RanProcess}
use Rattle.seated_script.specs.run_opening.run_seats.declared.plans.ProcessPlan.{ProcessPlan}
use Rattle.ended_jobs.specs.Ended.{ran_of}
use Rattle.script_run.specs.Parted.{ran_processes}

-- some element of a list that isn't empty
pub some : {X : Type 0} (xs : List X) (k : ℕ) → k < length xs → X
some [] k within = absurd (omega (arith, within))
some (x ∷ xs) k within = x

pub many-ran : (plans : List ProcessPlan) (ends : List EndedProcess) → length ends ≡ length plans → length (ran_processes plans ends) ≡ length plans
many-ran [] ends same = refl
many-ran (p ∷ plans) [] same = absurd (omega (arith, same))
many-ran (p ∷ plans) (e ∷ ends) same = let less : length ends ≡ length plans = omega (arith, same) in ap suc (many-ran plans ends less)

pub at-ran : (plans : List ProcessPlan) (ends : List EndedProcess) (k : ℕ) (r : RanProcess) (p : ProcessPlan) (e : EndedProcess) → length ends ≡ length plans → k < length plans
    → get_or (ran_processes plans ends) k r ≡ ran_of (get_or plans k p) (get_or ends k e)
at-ran [] ends k r p e same within = absurd (omega (arith, within))
at-ran (q ∷ plans) [] k r p e same within = absurd (omega (arith, same))
at-ran (q ∷ plans) (f ∷ ends) zero r p e same within = refl
at-ran (q ∷ plans) (f ∷ ends) (suc k) r p e same within = at-ran plans ends k r p e (omega (arith, same)) (omega (arith, within))

-- what is left of each process, told of the ends and of the processes that ran
pub left-of-ran : {X : Type 0} (f : ProcEnd → List Mail → X) (plans : List ProcessPlan) (ends : List EndedProcess) → length ends ≡ length plans
    → map (λ (e : EndedProcess). f e.proc e.mails.items) ends ≡ map (λ (r : RanProcess). f r.end r.mails) (ran_processes plans ends)
left-of-ran f [] [] same = refl
left-of-ran f [] (e ∷ ends) same = absurd (omega (arith, same))
left-of-ran f (p ∷ plans) [] same = absurd (omega (arith, same))
left-of-ran f (p ∷ plans) (e ∷ ends) same = let less : length ends ≡ length plans = omega (arith, same) in ap (λ l. f e.proc e.mails.items ∷ l) (left-of-ran f plans ends less)
