-- What the job does that tells the others of the end of a run.
use Rattle.std.specs.Prelude.{◌≡◌, ◌≢◌, ◌⊎◌, ◌<◌, ℕ, Some, List, [], ◌∷◌, ◌++◌, length, slice_index_or}
use Rattle.port_words.specs.over.Over.{OverKnown, HasNotStopped}
use Rattle.task_queue.specs.Ends.{Sending}
use Rattle.async_jobs.specs.declared.job.WorkItem.TheVariants as work
use Rattle.async_jobs.specs.Pool.{PoolEnd}
use Rattle.ready_select.specs.declared.ask.PollAsk.TheVariants as ask
use Rattle.port_sched.specs.Running.{Looked, SawTheEnd, Stopped}
use Rattle.run_jobs.specs.declared.finish.FinishEnd.{FinishEnd}
use Rattle.run_jobs.specs.declared.finish.FinishEnd.TheVariants as end
use Rattle.run_jobs.specs.declared.finish.FinishJob.{FinishJob}

-- an end has sent this behind all else
abbrev pub SendsOne : {T K : Type 0} → T → Sending T K → Sending T K → Type 0
SendsOne value old new = new ≡ record old { sent = old.sent ++ value ∷ [] }

-- the end at this place has sent a `Finish` behind all else, and no other end has sent anything
pub record SendsFinishAt (worker : ℕ) (old new : List PoolEnd) : Type 0 where
  pub many : length new ≡ length old
  pub own : (d : PoolEnd) → SendsOne work.Finish (slice_index_or old worker d) (slice_index_or new worker d)
  pub others : (n : ℕ) (d : PoolEnd) → n ≢ worker → slice_index_or new n d ≡ slice_index_or old n d

-- an end has told once; or at most once, for want of memory
abbrev pub TellsBy : {T K : Type 0} → FinishEnd → T → Sending T K → Sending T K → Type 0
TellsBy end.Told finish old new = SendsOne finish old new
TellsBy end.NoMemory finish old new = SendsOne finish old new ⊎ (new ≡ old)

-- so has the end of each worker
pub record TellsWorkers (how : FinishEnd) (old new : List PoolEnd) : Type 0 where
  pub many : length new ≡ length old
  pub each : (worker : ℕ) (d : PoolEnd) → worker < length old → TellsBy how work.Finish (slice_index_or old worker d) (slice_index_or new worker d)

-- it saw the end of the run, or it stopped the run
abbrev pub SaysAt : FinishEnd → OverKnown → OverKnown → Type 0
SaysAt end.Told old new = Looked old new × SawTheEnd old new
SaysAt end.NoMemory old new = Stopped old new

-- its seat of OVER hasn't stopped the run
abbrev pub CanTellEnd : FinishJob → Type 0
CanTellEnd job = HasNotStopped job.over.known.places

-- it waited for the end of the run, and told the poller and the workers
pub record HasToldEnd (old new : FinishJob) : Type 0 where
  pub how : FinishEnd
  pub end_is : new.end ≡ Some how
  pub over : SaysAt how old.over new.over
  pub poller : TellsBy how ask.Finish old.poller new.poller
  pub workers : TellsWorkers how old.workers.items new.workers.items
