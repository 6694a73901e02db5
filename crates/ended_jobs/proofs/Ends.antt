-- What is left of a seated run that is over.
use Rattle.std.proofs.Common.{◌≡◌, ℕ, List, Some, Result, Ok, Err, IfErr, length, map, sym, ap, ◌∙◌, subst}
use Rattle.std.specs.List.{All}
use Rattle.port_sched.specs.declared.body.PortBody.{Ghosts}
use Rattle.run_seats.specs.process_job.declared.job.ProcessEnd.TheVariants.{Ended}
use Rattle.run_seats.specs.declared.plans.ProcessPlan.{ProcessPlan}
use Rattle.run_seats.specs.declared.seating.OtherLanes.{OtherLanes}
use Rattle.run_seats.specs.Seated.{AreDealtJobs}
use Rattle.run_seats.proofs.Whole.{names-in}
use Rattle.run_seats.specs.threaded_jobs.declared.ended.EndedJobs.{EndedJobs}
use Rattle.run_seats.specs.threaded_jobs.declared.ended.Stop.{Stop}
use Rattle.run_seats.specs.threaded_jobs.declared.jobs.RunJobs.{RunJobs}
use Rattle.run_seats.specs.threaded_jobs.declared.parting.RunEnds.{RunEnds}
use Rattle.run_seats.specs.threaded_jobs.Ended.{HasFinished, HaveAllEnded, IsStopOf}
use Rattle.run_seats.specs.threaded_jobs.Jobs.{CanAllGo, HaveRun}
use Rattle.run_seats.specs.threaded_jobs.Parts.{AreEndsOf, worker_left}
use Rattle.ended_jobs.specs.Ended.{HaveEndedFor, StopComes}
use Rattle.ended_jobs.proofs.Jobs.{processes_whole, workers_worked}
use Rattle.ended_jobs.proofs.Places.{same_many}
use Rattle.ended_jobs.proofs.Watched.{polled_lanes, stop_comes, told_all}

module _ {B S : Type 0} {g : Ghosts B} (faults : S → ℕ) (answered : S → List ℕ) where
  -- there are as many ends of processes as there are plans
  pub many_ended : (plans : List ProcessPlan) (lanes : OtherLanes) (poll : S) (old new : RunJobs B S g) (ends : RunEnds S) → AreDealtJobs plans lanes poll old → HaveRun faults answered old new → AreEndsOf new ends
      → length ends.processes.items ≡ length plans
  many_ended plans lanes poll old new ends dealt went left = same_many Some (λ p. p.end) ends.processes.items new.processes.items left.processes ∙ went.processes.count ∙ dealt.processes.many

  -- nobody stopped the run
  pub ended_for : (plans : List ProcessPlan) (lanes : OtherLanes) (poll : S) (old new : RunJobs B S g) (ends : RunEnds S) (jobs : EndedJobs S) → AreDealtJobs plans lanes poll old → CanAllGo old
      → HaveRun faults answered old new → AreEndsOf new ends → HaveAllEnded ends jobs → HaveEndedFor faults answered plans lanes poll jobs
  ended_for plans lanes poll old new ends jobs dealt can went left ended =
      let processes : map (λ e. Some (Ended e)) jobs.processes.items ≡ map (λ p. p.end) new.processes.items =
      names-in Some Ended jobs.processes.items ∙ ap (map Some) ended.processes ∙ left.processes in
      let workers : map Some jobs.workers.items ≡ map worker_left new.workers.items = ap (λ w. map Some w.items) ended.workers ∙ left.workers in
      record {
        processes_many = same_many (λ e. Some (Ended e)) (λ p. p.end) jobs.processes.items new.processes.items processes ∙ went.processes.count ∙ dealt.processes.many;
        processes = processes_whole plans old.processes.items new.processes.items jobs.processes.items dealt.processes can.processes went.processes processes;
        workers_many = same_many Some worker_left jobs.workers.items new.workers.items workers ∙ went.workers.count ∙ dealt.workers.many;
        workers = workers_worked lanes.workers.items old.workers.items new.workers.items jobs.workers.items dealt.workers went.workers workers (subst (λ w. All HasFinished w.items) (sym ended.workers) ended.finished);
        poller_told = polled_lanes faults answered lanes.poller poll old.poller new.poller jobs.poller dealt.poller went.poller (ap Some ended.poller_is ∙ left.poller) (ap (λ p. p.end) ended.poller_is ∙ ended.poller_end);
        finish_told = told_all lanes.finish old.finish new.finish jobs.finish dealt.finish went.finish (ap Some ended.finish ∙ left.finish) (ap (λ f. f.end) ended.finish ∙ ended.told);
      }

  -- or somebody did, and the poll set is back
  pub stopped_for : (plans : List ProcessPlan) (lanes : OtherLanes) (poll : S) (old new : RunJobs B S g) (ends : RunEnds S) (result : Result (EndedJobs S) (Stop × S)) → AreDealtJobs plans lanes poll old
      → HaveRun faults answered old new → AreEndsOf new ends → IfErr result (λ s. IsStopOf ends s.0) → IfErr result (λ s. s.1 ≡ ends.poller.watch.poll) → IfErr result (λ s. StopComes faults poll s.0 s.1)
  stopped_for plans lanes poll old new ends (Ok jobs) dealt went left stopped is = tt
  stopped_for plans lanes poll old new ends (Err s) dealt went left stopped is =
      subst (StopComes faults poll s.0) (sym is) (stop_comes faults answered lanes.poller poll old.poller new.poller ends.poller s.0 dealt.poller went.poller left.poller stopped.why)
