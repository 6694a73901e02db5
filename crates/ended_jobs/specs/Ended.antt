-- What a seated run leaves once all its jobs have ended.
use Rattle.std.specs.Prelude.{◌≡◌, ◌<◌, ℕ, List, [], length, slice_index_or}
use Rattle.outside.specs.Causes.{Rose}
use Rattle.run_opening.specs.run_end.Ran.{RanProcess, HasRunWhole}
use Rattle.run_seats.specs.run_jobs.declared.finish.FinishEnd.TheVariants.{Told}
use Rattle.run_seats.specs.run_jobs.declared.poller.PollerEnd.TheVariants as poller
use Rattle.run_seats.specs.run_jobs.Finishing.{SendsOne, TellsWorkers}
use Rattle.run_seats.specs.run_jobs.Rounds.{PollsTo, poller_of}
use Rattle.ready_select.specs.declared.ask.PollAsk.TheVariants as ask
use Rattle.run_seats.specs.run_lanes.declared.parts.FinishEnds.{FinishEnds}
use Rattle.run_seats.specs.run_lanes.declared.parts.PollerLanes.{PollerLanes}
use Rattle.run_seats.specs.run_lanes.declared.parts.WorkerLanes.{WorkerLanes}
use Rattle.run_seats.specs.process_job.declared.job.EndedProcess.{EndedProcess}
use Rattle.run_seats.specs.threaded_jobs.declared.ended.EndedJobs.{EndedJobs}
use Rattle.run_seats.specs.threaded_jobs.declared.ended.Stop.{Stop}
use Rattle.run_seats.specs.threaded_jobs.declared.ended.Stop.TheVariants.{PollFault, NoMemory}
use Rattle.run_seats.specs.threaded_jobs.declared.parting.FinishLeft.{FinishLeft}
use Rattle.run_seats.specs.threaded_jobs.declared.parting.PollerLeft.{PollerLeft}
use Rattle.run_seats.specs.threaded_jobs.declared.parting.WorkerLeft.{WorkerLeft}
use Rattle.run_seats.specs.declared.plans.ProcessPlan.{ProcessPlan}
use Rattle.run_seats.specs.declared.seating.OtherLanes.{OtherLanes}
use Rattle.run_seats.specs.Dealt.{proc_of}
use Rattle.run_opening.specs.Jobs.{HasWorkedLane}

-- a process that was to make these steps, and what is left of it
abbrev pub ran_of : ProcessPlan → EndedProcess → RanProcess
ran_of plan end = record { old = proc_of plan; steps = plan.own_steps.steps.items; files = plan.own_steps.files.items; end = end.proc; mails = end.mails.items }

-- the one who told of the end told the poller and each worker once
pub record HasToldAll (ends : FinishEnds) (left : FinishLeft) : Type 0 where
  pub poller : SendsOne ask.Finish ends.poller left.poller
  pub workers : TellsWorkers Told ends.workers.items left.workers.items

module _ {S : Type 0} (faults : S → ℕ) (answered : S → List ℕ) where
  -- the poller made its rounds to the end, with this poll set, of which no wait failed
  pub record HasPolledLanes (lanes : PollerLanes) (poll : S) (left : PollerLeft S) : Type 0 where
    pub polls : PollsTo poller.Finished (poller_of faults answered (record { poll = poll; table = []; asks = lanes.asks })) (poller_of faults answered left.watch) lanes.lanes.items left.lanes.items
    pub unfailed : faults left.watch.poll ≡ faults poll

  -- each process made its steps to its end, each worker answered all jobs of its lane, the poller told all that it found, and both were told of the end
  pub record HaveEndedFor (plans : List ProcessPlan) (lanes : OtherLanes) (poll : S) (jobs : EndedJobs S) : Type 0 where
    pub processes_many : length jobs.processes.items ≡ length plans
    pub processes : (n : ℕ) (p : ProcessPlan) (e : EndedProcess) → n < length plans → HasRunWhole (ran_of (slice_index_or plans n p) (slice_index_or jobs.processes.items n e))
    pub workers_many : length jobs.workers.items ≡ length lanes.workers.items
    pub workers : (n : ℕ) (w : WorkerLanes) (l : WorkerLeft) → n < length lanes.workers.items → HasWorkedLane (slice_index_or lanes.workers.items n w) (slice_index_or jobs.workers.items n l)
    pub poller_told : HasPolledLanes lanes.poller poll jobs.poller
    pub finish_told : HasToldAll lanes.finish jobs.finish

module _ {S : Type 0} (faults : S → ℕ) where
  -- a run is stopped for a fault of the poll set only where its count of faults rose
  abbrev pub StopComes : S → Stop → S → Type 0
  StopComes old PollFault new = Rose (faults old) (faults new)
  StopComes old NoMemory new = Unit {0}
