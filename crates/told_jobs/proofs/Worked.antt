-- A run's workers tell each port the first of its jobs.
use Rattle.std.proofs.Common.{◌≡◌, ℕ, ◌<◌, eqb, cond, Bool, true, false, List, [], ◌∷◌, ◌++◌, map, length, get_or, refl, sym, ap, ◌∙◌, subst, arith}
use mathlib.Core.List.{IsPrefix}
use Rattle.std.specs.List.{AllByRecursion}
use Rattle.std.proofs.lemmas.List.{append-nil, map-append}
use Rattle.task_queue.specs.Items.{of}
use Rattle.async_jobs.specs.declared.job.Job.{Job}
use Rattle.async_jobs.specs.declared.job.WorkItem.TheVariants.{Work}
use Rattle.async_jobs.specs.Items.{jobs_in}
use Rattle.async_jobs.specs.Pool.{PoolEnd}
use Rattle.async_jobs.specs.Turns.{Worker}
use Rattle.async_jobs.specs.Work.{work_of}
use Rattle.port_history.specs.Jobs.{Submitted}
use Rattle.port_history.specs.State.{state}
use Rattle.port_jobs.specs.Jobs.{submitted_as}
use Rattle.port_body.specs.port_lanes.Parcels.{ParcelView}
use Rattle.port_model.specs.declared.signal.Sender.TheVariants as sender
use Rattle.port_model.specs.Tasks.{TaskView}
use Rattle.run_jobs.specs.process_end.Views.{LaneEnd}
use Rattle.port_body.specs.LanePort.{rows_from}
use Rattle.run_jobs.specs.declared.worker.WorkerEnd.{WorkerEnd}
use Rattle.run_jobs.specs.declared.worker.WorkerEnd.TheVariants as end
use Rattle.run_jobs.specs.Telling.{PortTask, plain_parcel, parcels_for}
use Rattle.run_jobs.specs.Working.{answer_to, done_task, taken_last}
use Rattle.run_jobs.proofs.Tells.{parcels_then}
use Rattle.told_jobs.specs.Told.{told_task, jobs_of_worker, TellsFirst, WorkersTell}
use Rattle.told_jobs.specs.Runs.{PortRun, WorkerRun, HasSettled, HasRun, WorkersTellJobs}
use Rattle.told_jobs.proofs.Given.{IsOwn, share, given-jobs, given-own, given-sent, jobs_in-work}
use Rattle.told_jobs.proofs.Numbered.{numbered-jobs}
use Rattle.told_jobs.proofs.Taken.{OwnItem, OwnEnds, by-sender, first-taken, for_port, own-items, own-taken, prefix-jobs, prefix-map, prefix-of, prefix-then}
use Rattle.told_jobs.proofs.Telling.{cut, told-in-order}

abbrev task_in : ParcelView → TaskView
task_in parcel = parcel.task

-- what is told of a job
abbrev done_of : Job → TaskView
done_of job = done_task job.number (work_of job.code job.input)

cond-tasks : (b : Bool) (job : Job) (parcels : List ParcelView) (jobs : List Job) → map task_in parcels ≡ map done_of jobs
    → map task_in (cond b (plain_parcel (done_of job) ∷ parcels) parcels) ≡ map done_of (cond b (job ∷ jobs) jobs)
cond-tasks true job parcels jobs e = ap (λ l. done_of job ∷ l) e
cond-tasks false job parcels jobs e = e

answers-for : (port : ℕ) (jobs : List Job) → map task_in (parcels_for port (map answer_to jobs)) ≡ map done_of (for_port port jobs)
answers-for port [] = refl
answers-for port (job ∷ jobs) = cond-tasks (eqb job.port port) job (parcels_for port (map answer_to jobs)) (for_port port jobs) (answers-for port jobs)

-- what was told of the answers is the first of them
told-first : (port : ℕ) (jobs : List Job) (told left : List PortTask) → map answer_to jobs ≡ told ++ left → IsPrefix (map task_in (parcels_for port told)) (map done_of (for_port port jobs))
told-first port jobs told left e = (
  map task_in (parcels_for port left),
  sym (map-append task_in (parcels_for port told) (parcels_for port left)) ∙ ap (map task_in) (sym (parcels_then port told left) ∙ ap (parcels_for port) (sym e)) ∙ answers-for port jobs,
)

no-jobs : (how : WorkerEnd) → jobs_in (taken_last how) ≡ []
no-jobs end.Finished = refl
no-jobs end.Stopped = refl
no-jobs end.NoMemory = refl

module _ (ports : ℕ) (w : WorkerRun) (worked : HasSettled ports w) (ends : OwnEnds ports w.ends) (port : ℕ) (below : port < ports) where
  taken-is : w.settled.taken ≡ worked.works.items ++ worked.more
  taken-is = worked.later ∙ ap (λ l. l ++ worked.more) (ap (λ (t : Worker). t.taken) worked.works.taken ∙ ap (λ l. l ++ worked.works.items) worked.untaken)

  -- the jobs of the port that the worker took, while it worked
  mine-are : for_port port worked.works.jobs ≡ jobs_in (of port worked.works.items)
  mine-are =
      ap (for_port port) (sym (ap jobs_in worked.works.values_are ∙ jobs_in-work worked.works.jobs (taken_last w.how) (no-jobs w.how)))
      ∙ by-sender port worked.works.items
      (own-items worked.works.items worked.more (subst (λ l. AllByRecursion OwnItem l) taken-is (own-taken ports w worked ends (omega (arith, below)))))

  taken-first : (d : PoolEnd) → IsPrefix (of port worked.works.items) (get_or w.ends port d).sent
  taken-first d = prefix-then (of port worked.works.items) (of port w.settled.taken) (get_or w.ends port d).sent
      (subst (λ l. IsPrefix (of port worked.works.items) (of port l)) (sym taken-is) (prefix-of port worked.works.items worked.more))
      (first-taken ports w worked ends port d below)

  sent-is : (d : LaneEnd) → map task_in (get_or w.sent port d).sent ≡ map task_in (parcels_for port worked.works.told)
  sent-is d =
      ap (λ (e : LaneEnd). map task_in e.sent) (worked.works.sends.each port d (let m = worked.lanes_many in omega (arith, m, below)))
      ∙ ap (λ l. map task_in (l ++ parcels_for port worked.works.told)) (worked.unsent port d below)

  -- its answers to the port are those to the first jobs that the port gave it
  pub answers-first : (d : LaneEnd) (e : PoolEnd) (jobs : List Job) → (get_or w.ends port e).sent ≡ map Work jobs → IsPrefix (map task_in (get_or w.sent port d).sent) (map done_of jobs)
  answers-first d e jobs sent = subst (λ l. IsPrefix l (map done_of jobs)) (sym (sent-is d))
      (prefix-then (map task_in (parcels_for port worked.works.told)) (map done_of (for_port port worked.works.jobs)) (map done_of jobs)
      (told-first port worked.works.jobs worked.works.told worked.works.left worked.works.answers)
      (prefix-map done_of (for_port port worked.works.jobs) jobs
      (subst (λ l. IsPrefix l jobs) (sym mine-are)
      (subst (IsPrefix (jobs_in (of port worked.works.items))) (ap jobs_in sent ∙ ap jobs_in (sym (append-nil (map Work jobs))) ∙ jobs_in-work jobs [] refl)
      (prefix-jobs (of port worked.works.items) (get_or w.ends port e).sent (taken-first e))))))

-- one of a list that isn't empty
any-of : {X : Type 0} (xs : List X) → 0 < length xs → X
any-of [] some = absurd (omega (arith, some))
any-of (x ∷ xs) some = x

tells-of : (jobs : List Submitted) (told : List TaskView) → IsPrefix told (map told_task jobs) → TellsFirst jobs told
tells-of jobs told prefix =
    let c = cut jobs told prefix.0 (sym prefix.1) in
    record { first = c.first; rest = c.rest; are = c.are; tells = sym c.tells_front }

done-are : (jobs : List Job) → map done_of jobs ≡ map told_task (map submitted_as jobs)
done-are [] = refl
done-are (job ∷ jobs) = ap (λ l. done_of job ∷ l) (done-are jobs)

module _ (ports : List PortRun) (workers : List WorkerRun) (run : HasRun ports workers) where
  own-ends : (worker : ℕ) (w : WorkerRun) (p : PortRun) → worker < length workers → OwnEnds (length ports) (get_or workers worker w).ends
  own-ends worker w p within = record {
    number = λ port d below. ap (λ (e : PoolEnd). e.number) (run.ends port worker p w d d below within) ∙ (run.given port p below).numbers worker d within;
    made = λ d some. ap (λ (e : PoolEnd). e.made) (run.ends 0 worker p w d d some within) ∙ (run.given 0 p some).made worker d within refl;
    own = λ port d below.
        let given = run.given port p below in
        let there = get_or ports port p in
        subst (λ (e : PoolEnd). AllByRecursion (IsOwn port) e.sent) (sym (run.ends port worker p w d d below within))
        (subst (λ n. AllByRecursion (IsOwn n) (get_or there.pool worker d).sent) given.number_is
        (given-own there.opening there.history there.pool given.gave worker d (let m = given.many in omega (arith, m, within))));
  }

  tells : (port : ℕ) (p : PortRun) → port < length ports → (worker : ℕ) (w : WorkerRun) → worker < length workers
      → TellsFirst (jobs_of_worker (length workers) worker (state (get_or ports port p).opening (get_or ports port p).history).jobs) (rows_from (sender.Worker worker) (get_or ports port p).history)
  tells port p below worker w within =
      let given = run.given port p below in
      let there = get_or ports port p in
      let mine = share (length workers) worker given.gave.jobs in
      let e = w.last in
      let d = any-of (get_or workers worker w).unsent (let m = (run.worked worker w within).lanes_many in omega (arith, m, below)) in
      let sent : (get_or (get_or workers worker w).ends port e).sent ≡ map Work mine =
      ap (λ (x : PoolEnd). x.sent) (run.ends port worker p w e e below within)
      ∙ given-sent there.opening there.history there.pool given.gave worker e (let m = given.many in omega (arith, m, within))
      ∙ ap (λ n. map Work (share n worker given.gave.jobs)) given.many in
      tells-of _ _
      (subst (λ l. IsPrefix l (map told_task (jobs_of_worker (length workers) worker (state there.opening there.history).jobs))) (sym (run.rows port worker p w d below within))
      (subst (IsPrefix (map task_in (get_or (get_or workers worker w).sent port d).sent))
      (done-are mine ∙ ap (map told_task) (sym (given-jobs there.opening there.history there.pool given.gave (length workers) worker)))
      (answers-first (length ports) (get_or workers worker w) (run.worked worker w within) (own-ends worker w p within) port below d e mine sent)))

  pub run-tells : (port : ℕ) (p : PortRun) → port < length ports → WorkersTell (length workers) (get_or ports port p).opening (get_or ports port p).history
  run-tells port p below = record {
    some = run.some;
    numbered = numbered-jobs (get_or ports port p).opening (get_or ports port p).history (run.given port p below).lawful;
    told = λ worker within. tells port p below worker (any-of workers run.some) within;
    others = λ worker above. run.others port worker p below above;
  }

pub workers-tell : WorkersTellJobs
workers-tell ports workers run port p below =
    let told = run-tells ports workers run port p below in
    (told, told-in-order (length workers) (get_or ports port p).opening (get_or ports port p).history (run.given port p below).lawful told)
