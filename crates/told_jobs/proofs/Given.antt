-- What the ends of a port in the workers' lanes sent: the jobs of the port, to each worker its own.
use Rattle.std.proofs.Common.{◌≡◌, ◌≢◌, ℕ, ◌<◌, ◌%◌, eqb, cond, Bool, true, false, List, [], ◌∷◌, ◌++◌, map, length, get_or, refl, sym, ap, ◌∙◌, subst, arith, append_assoc, ⊎_elim}
use Rattle.std.specs.List.{AllByRecursion, filter}
use Rattle.std.proofs.lemmas.Bool.{cases_eq, eq-eqb, ne_eqb}
use Rattle.std.proofs.lemmas.List.{append-nil}
use Rattle.std.proofs.lemmas.List.Elements.{recursion_from_All}
use Rattle.async_jobs.specs.declared.job.Job.{Job}
use Rattle.async_jobs.specs.declared.job.WorkItem.{WorkItem}
use Rattle.async_jobs.specs.declared.job.WorkItem.TheVariants.{Work, Finish}
use Rattle.async_jobs.specs.Items.{jobs_in}
use Rattle.async_jobs.specs.Order.{AllSubmitted}
use Rattle.async_jobs.specs.Pool.{PoolEnd, Lanes, worker_of, Submitted as SubmitsOne}
use Rattle.port_history.specs.Opening.{Opening}
use Rattle.port_history.specs.State.{state}
use Rattle.port_jobs.specs.Jobs.{submitted_as}
use Rattle.port_model.specs.declared.row.Row.{Row}
use Rattle.port_body.specs.recorded_port.Asks.{GaveJobs}
use Rattle.told_jobs.specs.Told.{jobs_of_worker}

-- the jobs that the worker of this number gets, of so many workers
abbrev pub share : ℕ → ℕ → List Job → List Job
share workers worker jobs = filter (λ (j : Job). eqb (j.key % workers) worker) jobs

-- a job is of the port of this number
abbrev pub IsOwn : ℕ → WorkItem → Type 0
IsOwn number (Work job) = job.port ≡ number
IsOwn number Finish = Unit {0}

work-cond : (b : Bool) (job : Job) (jobs : List Job) → map Work (cond b (job ∷ []) []) ++ map Work jobs ≡ map Work (cond b (job ∷ jobs) jobs)
work-cond true job jobs = refl
work-cond false job jobs = refl

lengths : (old new : Lanes) (jobs : List Job) → AllSubmitted old jobs new → length new ≡ length old
lengths old new [] same = ap length same
lengths old new (job ∷ jobs) (next, one, rest) = lengths next new jobs rest ∙ one.workers

one-sent : (old new : Lanes) (job : Job) → SubmitsOne old job new → (n : ℕ) (e : PoolEnd)
    → (get_or new n e).sent ≡ (get_or old n e).sent ++ map Work (cond (eqb (job.key % length old) n) (job ∷ []) [])
one-sent old new job its n e = ⊎_elim
    (λ (own : n ≡ worker_of old job.key).
    let here : get_or new n e ≡ record (get_or old n e) { sent = (get_or old n e).sent ++ Work job ∷ [] } =
    subst (λ m. get_or new m e ≡ record (get_or old m e) { sent = (get_or old m e).sent ++ Work job ∷ [] }) (sym own) (its.own e) in
    ap (λ (s : PoolEnd). s.sent) here
    ∙ ap (λ b. (get_or old n e).sent ++ map Work (cond b (job ∷ []) [])) (sym (eq-eqb (job.key % length old) n (sym own))))
    (λ (away : n ≢ worker_of old job.key).
    ap (λ (s : PoolEnd). s.sent) (its.others n e away)
    ∙ sym (append-nil (get_or old n e).sent)
    ∙ ap (λ b. (get_or old n e).sent ++ map Work (cond b (job ∷ []) [])) (sym (ne_eqb (job.key % length old) n (λ same. away (sym same)))))
    (cases_eq n (worker_of old job.key))

all-sent : (old new : Lanes) (jobs : List Job) → AllSubmitted old jobs new → (n : ℕ) (e : PoolEnd)
    → (get_or new n e).sent ≡ (get_or old n e).sent ++ map Work (share (length old) n jobs)
all-sent old new [] same n e = ap (λ (lanes : Lanes). (get_or lanes n e).sent) same ∙ sym (append-nil (get_or old n e).sent)
all-sent old new (job ∷ jobs) (next, one, rest) n e =
    let b = eqb (job.key % length old) n in
    all-sent next new jobs rest n e
    ∙ ap (λ workers. (get_or next n e).sent ++ map Work (share workers n jobs)) one.workers
    ∙ ap (λ l. l ++ map Work (share (length old) n jobs)) (one-sent old next job one n e)
    ∙ append_assoc (get_or old n e).sent (map Work (cond b (job ∷ []) [])) (map Work (share (length old) n jobs))
    ∙ ap (λ l. (get_or old n e).sent ++ l) (work-cond b job (share (length old) n jobs))

-- its end in the lane of a worker sent the worker's share, and nothing else
pub given-sent : (port : Opening) (history : List Row) (pool : Lanes) (gave : GaveJobs port history pool) (worker : ℕ) (d : PoolEnd) → worker < length pool
    → (get_or pool worker d).sent ≡ map Work (share (length pool) worker gave.jobs)
given-sent port history pool gave worker d below =
    let many = lengths gave.start pool gave.jobs gave.submitted in
    all-sent gave.start pool gave.jobs gave.submitted worker d
    ∙ ap (λ l. l ++ map Work (share (length gave.start) worker gave.jobs)) (gave.fresh worker d (omega (arith, many, below)))
    ∙ ap (λ workers. map Work (share workers worker gave.jobs)) (sym many)

own-share : (number workers worker : ℕ) (jobs : List Job) → AllByRecursion (λ (j : Job). j.port ≡ number) jobs → AllByRecursion (IsOwn number) (map Work (share workers worker jobs))
own-share number workers worker [] own = tt
own-share number workers worker (job ∷ jobs) own = elim (eqb (job.key % workers) worker)
    as (λ b. AllByRecursion (IsOwn number) (map Work (cond b (job ∷ share workers worker jobs) (share workers worker jobs)))) [
      | true ↦ (own.0, own-share number workers worker jobs own.1)
      | false ↦ own-share number workers worker jobs own.1
    ]

-- which are jobs of the port
pub given-own : (port : Opening) (history : List Row) (pool : Lanes) (gave : GaveJobs port history pool) (worker : ℕ) (d : PoolEnd) → worker < length pool
    → AllByRecursion (IsOwn port.number) (get_or pool worker d).sent
given-own port history pool gave worker d below =
    subst (AllByRecursion (IsOwn port.number)) (sym (given-sent port history pool gave worker d below))
    (own-share port.number (length pool) worker gave.jobs (recursion_from_All (λ (j : Job). j.port ≡ port.number) gave.jobs gave.own))

share-map : (workers worker : ℕ) (jobs : List Job) → jobs_of_worker workers worker (map submitted_as jobs) ≡ map submitted_as (share workers worker jobs)
share-map workers worker [] = refl
share-map workers worker (job ∷ jobs) = elim (eqb (job.key % workers) worker)
    as (λ b. cond b (submitted_as job ∷ jobs_of_worker workers worker (map submitted_as jobs)) (jobs_of_worker workers worker (map submitted_as jobs)) ≡ map submitted_as (cond b (job ∷ share workers worker jobs) (share workers worker jobs))) [
      | true ↦ ap (λ l. submitted_as job ∷ l) (share-map workers worker jobs)
      | false ↦ share-map workers worker jobs
    ]

-- and those of the port's jobs that are the worker's
pub given-jobs : (port : Opening) (history : List Row) (pool : Lanes) (gave : GaveJobs port history pool) (workers worker : ℕ)
    → jobs_of_worker workers worker (state port history).jobs ≡ map submitted_as (share workers worker gave.jobs)
given-jobs port history pool gave workers worker = ap (jobs_of_worker workers worker) (sym gave.same) ∙ share-map workers worker gave.jobs

pub jobs_in-work : (jobs : List Job) (behind : List WorkItem) → jobs_in behind ≡ [] → jobs_in (map Work jobs ++ behind) ≡ jobs
jobs_in-work [] behind none = none
jobs_in-work (job ∷ jobs) behind none = ap (λ l. job ∷ l) (jobs_in-work jobs behind none)
