-- In which order the jobs of a key are taken and answered, whatever the workers do.
use Rattle.std.specs.Prelude.{◌≡◌, ◌⊎◌, ℕ, ◌==◌, if◌then◌else◌, Some, List, [], ◌∷◌, ◌++◌, map, flat_map, slice_index_or, Contains}
use mathlib.Core.List.{IsPrefix}
use Rattle.task_queue.specs.declared.item.Item.{Item}
use Rattle.task_queue.specs.Items.{of}
use Rattle.task_queue.specs.Lane.{sender_hand, taker_hand}
use Rattle.task_queue.specs.Ends.{ended_of, KeepsOrder, TookAll}
use Rattle.task_queue.specs.Laws.{AreEnds}
use Rattle.async_jobs.specs.declared.job.Job.{Job}
use Rattle.async_jobs.specs.declared.job.WorkItem.{WorkItem}
use Rattle.async_jobs.specs.declared.worker.Worked.{Worked}
use Rattle.async_jobs.specs.declared.worker.Worked.TheVariants as worked
use Rattle.async_jobs.specs.Items.{AnyFits, jobs_in, jobs_of, with_key}
use Rattle.async_jobs.specs.Pool.{PoolEnd, Lanes, worker_of, Submitted}
use Rattle.async_jobs.specs.Turns.{Worker, Turned}

-- these jobs were submitted, one after another
abbrev pub AllSubmitted : Lanes → List Job → Lanes → Type 0
AllSubmitted old [] new = new ≡ old
AllSubmitted old (job ∷ jobs) new = (next : Lanes) × Submitted old job next × AllSubmitted next jobs new

-- what the worker at place n gets of a key: all of the key's jobs if it is the key's worker, and none otherwise
abbrev pub share_of : Lanes → ℕ → ℕ → List Job → List Job
share_of lanes n key jobs = if n == worker_of lanes key then with_key key jobs else []

-- Of each key, submitting adds to what a worker was sent its share, in the order of submission
abbrev pub SubmittedByKey : Type 0
SubmittedByKey = (old new : Lanes) (jobs : List Job) → AllSubmitted old jobs new → (n key : ℕ) (e : PoolEnd)
    → jobs_of key (slice_index_or new n e).sent ≡ jobs_of key (slice_index_or old n e).sent ++ share_of old n key jobs

-- A pool's end and a worker's end at a moment at which the rule of their lane holds and its queue has these items
abbrev pub AtMoment : List (Item WorkItem) → PoolEnd → Worker → Type 0
AtMoment items s t = AreEnds AnyFits items (taker_hand (Some t.key) t.taken t.ended) (sender_hand (Some s.key) s.number s.made s.sent)

-- At every moment, of each key: what the worker took of a pool's end, and then what its queue has of it, are the jobs that were
-- sent before and the worker's share of the jobs that were submitted. So what it took is a prefix of these, each once
abbrev pub TakenByKey : Type 0
TakenByKey = (old new : Lanes) (jobs : List Job) → AllSubmitted old jobs new → (n key : ℕ) (e : PoolEnd)
    → (items : List (Item WorkItem)) (t : Worker) → AtMoment items (slice_index_or new n e) t
    → jobs_of key (of (slice_index_or new n e).number t.taken) ++ jobs_of key (of (slice_index_or new n e).number items)
    ≡ jobs_of key (slice_index_or old n e).sent ++ share_of old n key jobs

-- and after every turn of a worker that has taken in the pool's end
abbrev pub TakenOnceEnded : Type 0
TakenOnceEnded = (old new : Lanes) (jobs : List Job) → AllSubmitted old jobs new → (n key : ℕ) (e : PoolEnd)
    → (t : Worker) → Contains t.ended (ended_of (slice_index_or new n e)) → KeepsOrder AnyFits t
    → IsPrefix (jobs_of key (of (slice_index_or new n e).number t.taken)) (jobs_of key (slice_index_or old n e).sent ++ share_of old n key jobs)

-- and all of them, after a turn that then found the lane empty
abbrev pub AllTakenByKey : Type 0
AllTakenByKey = (old new : Lanes) (jobs : List Job) → AllSubmitted old jobs new → (n key : ℕ) (e : PoolEnd)
    → (t : Worker) → Contains t.ended (ended_of (slice_index_or new n e)) → TookAll t
    → jobs_of key (of (slice_index_or new n e).number t.taken) ≡ jobs_of key (slice_index_or old n e).sent ++ share_of old n key jobs

-- what a job asks for, and who asked
pub record AskedJob : Type 0 where
  pub port : ℕ
  pub number : ℕ
  pub code : ℕ
  pub input : List ℕ

abbrev pub asked_by : Job → AskedJob
asked_by job = record { port = job.port; number = job.number; code = job.code; input = job.input }

-- the job that a turn answers: one that it did, or one for which it found no memory
abbrev pub answered_by : Worked → List AskedJob
answered_by (worked.Did done) = record { port = done.port; number = done.number; code = done.code; input = done.input } ∷ []
answered_by worked.Empty = []
answered_by worked.Finished = []
answered_by (worked.NoMemory job) = asked_by job ∷ []

-- ends were taken in, perhaps, and nothing was taken
abbrev pub TookIn : Worker → Worker → Type 0
TookIn old new = new ≡ record old { ended = new.ended }

-- turns of a worker with their answers, between which it may take in ends
abbrev pub Turns : Worker → List Worked → Worker → Type 0
Turns old [] new = TookIn old new
Turns old (turn ∷ turns) new = (start next : Worker) × TookIn old start × Turned start next turn × Turns next turns new

-- the jobs among the items that were taken
abbrev pub jobs_taken : Worker → List Job
jobs_taken t = jobs_in (map (λ x. x.value) t.taken)

-- A worker's turns answer the jobs that it takes, in the order in which it takes them, each once
abbrev pub AnsweredAsTaken : Type 0
AnsweredAsTaken = (old new : Worker) (turns : List Worked) → Turns old turns new
    → map asked_by (jobs_taken new) ≡ map asked_by (jobs_taken old) ++ flat_map answered_by turns

-- some of the second list's elements, in their order, each place at most once
abbrev pub IsPartOf : {X : Type 0} → List X → List X → Type 0
IsPartOf [] all = Unit {0}
IsPartOf (x ∷ xs) [] = ⊥
IsPartOf (x ∷ xs) (y ∷ ys) = ((x ≡ y) × IsPartOf xs ys) ⊎ IsPartOf (x ∷ xs) ys

-- So the jobs of one key that a worker took of one end stand among all its answers in the order in which it took them
abbrev pub AnsweredByKey : Type 0
AnsweredByKey = (first new : Worker) (turns : List Worked) → first.taken ≡ [] → Turns first turns new → (number key : ℕ)
    → IsPartOf (map asked_by (jobs_of key (of number new.taken))) (flat_map answered_by turns)

-- And all jobs of a key stand there in the order of their submission, once the pool's end was taken in and the lane then found empty
abbrev pub AllAnsweredByKey : Type 0
AllAnsweredByKey = (old new : Lanes) (jobs : List Job) → AllSubmitted old jobs new → (n key : ℕ) (e : PoolEnd)
    → (first last : Worker) (turns : List Worked) → first.taken ≡ [] → Turns first turns last
    → Contains last.ended (ended_of (slice_index_or new n e)) → TookAll last
    → IsPartOf (map asked_by (jobs_of key (slice_index_or old n e).sent ++ share_of old n key jobs)) (flat_map answered_by turns)
