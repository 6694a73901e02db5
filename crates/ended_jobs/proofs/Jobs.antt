-- What each job of a run was dealt, and what is left of it.
use Rattle.std.proofs.Common.{◌≡◌, ◌<◌, ℕ, List, Option, Some, None, IfSome, IsSomeAnd, option_map, length, map, get_or, sym, ap, ◌∙◌, subst, arith}
use Rattle.std.specs.List.{All}
use Rattle.std.proofs.lemmas.Option.{same_Some}
use Rattle.port_sched.specs.declared.body.PortBody.{Ghosts}
use Rattle.port_sched.specs.Jobs.{WentEach}
use Rattle.run_seats.specs.process_job.declared.job.EndedProcess.{EndedProcess}
use Rattle.run_seats.specs.process_job.declared.job.ProcessEnd.TheVariants.{Ended}
use Rattle.run_seats.specs.process_job.declared.job.ProcessJob.{ProcessJob}
use Rattle.run_seats.specs.process_job.declared.job.ProcessWork.{ProcessWork}
use Rattle.run_seats.specs.process_job.Jobs.{CanMakeSteps, CanRun, EndsAs, HasRun, IsFreshProcess, IsWorkOf}
use Rattle.run_seats.specs.process_job.Steps.{HasRunToEnd}
use Rattle.run_opening.specs.run_end.Ran.{HasRunWhole}
use Rattle.run_seats.specs.run_jobs.declared.worker.WorkerEnd.TheVariants.{Finished}
use Rattle.run_seats.specs.run_jobs.declared.worker.WorkerJob.{WorkerJob}
use Rattle.run_seats.specs.run_jobs.Working.{HasWorked, WorksTo}
use Rattle.run_seats.specs.run_lanes.declared.parts.WorkerLanes.{WorkerLanes}
use Rattle.run_seats.specs.declared.plans.ProcessPlan.{ProcessPlan}
use Rattle.run_seats.specs.Dealt.{AreDealtProcesses, AreDealtWorkers, IsDealtProcess, IsDealtWorker, proc_of}
use Rattle.run_seats.proofs.Whole.{was-of}
use Rattle.run_opening.specs.Jobs.{HasWorkedLane}
use Rattle.run_seats.specs.threaded_jobs.declared.parting.WorkerLeft.{WorkerLeft}
use Rattle.run_seats.specs.threaded_jobs.Ended.{HasFinished}
use Rattle.run_seats.specs.threaded_jobs.Parts.{worker_left}
use Rattle.ended_jobs.specs.Ended.{ran_of}
use Rattle.ended_jobs.proofs.Places.{mapped_at, one_of, same_many}

-- the steps that were dealt were made to the end
whole : (plan : ProcessPlan) (w : ProcessWork) (end : EndedProcess) (ports : ℕ) → IsWorkOf (proc_of plan) plan.own_steps.steps.items plan.own_steps.files.items w → CanMakeSteps ports w
    → HasRunToEnd w.steps.items w.files.items w.proc end.proc end.mails.items → HasRunWhole (ran_of plan end)
whole plan w end ports dealt can ran = record {
  fresh = subst IsFreshProcess dealt.proc_is can.fresh;
  ran =
      subst (λ p. HasRunToEnd plan.own_steps.steps.items plan.own_steps.files.items p end.proc end.mails.items) dealt.proc_is
      (subst (λ f. HasRunToEnd plan.own_steps.steps.items f w.proc end.proc end.mails.items) dealt.files_are
      (subst (λ s. HasRunToEnd s w.files.items w.proc end.proc end.mails.items) dealt.steps_are ran));
}

module _ {B : Type 0} {g : Ghosts B} where
  one_whole : (plan : ProcessPlan) (old new : ProcessJob B g) (end : EndedProcess) → IsDealtProcess plan old → CanRun old → HasRun old new → new.end ≡ Some (Ended end) → HasRunWhole (ran_of plan end)
  one_whole plan old new end dealt can ran is = of-work old.work dealt.work can.work ran.ends
    where
      of-work : (work : Option ProcessWork) → IfSome work (IsWorkOf (proc_of plan) plan.own_steps.steps.items plan.own_steps.files.items) → IsSomeAnd work (CanMakeSteps (length old.seats.ports.homes.items))
          → IfSome work (λ w. EndsAs w ran.kept old.seats.over new.seats.over new.end) → HasRunWhole (ran_of plan end)
      of-work None dealt can ends = absurd can
      of-work (Some w) dealt can ends = whole plan w end (length old.seats.ports.homes.items) dealt can (subst (EndsAs w ran.kept old.seats.over new.seats.over) is ends).0

  -- each process ran to its end
  pub processes_whole : (plans : List ProcessPlan) (old new : List (ProcessJob B g)) (all : List EndedProcess) → AreDealtProcesses plans old → All CanRun old → WentEach HasRun old new
      → map (λ e. Some (Ended e)) all ≡ map (λ p. p.end) new → (n : ℕ) (p : ProcessPlan) (e : EndedProcess) → n < length plans → HasRunWhole (ran_of (get_or plans n p) (get_or all n e))
  processes_whole plans old new all dealt can went ends n p e below =
      let many = dealt.many in
      let count = went.count in
      let same = same_many (λ e. Some (Ended e)) (λ p. p.end) all new ends in
      let d = one_of old n (omega (arith, many, below)) in
      let own = mapped_at (λ e. Some (Ended e)) (λ p. p.end) all new n e d ends (omega (arith, many, count, same, below)) in
      one_whole (get_or plans n p) (get_or old n d) (get_or new n d) (get_or all n e) (dealt.each n p d below) (can n d (omega (arith, many, below)))
      (was-of HasRun old new n d went (omega (arith, many, count, below))) (sym own)

  one_worked : (lanes : WorkerLanes) (old new : WorkerJob B g) (left : WorkerLeft) → IsDealtWorker lanes old → HasWorked old new → Some left ≡ worker_left new → left.end ≡ Finished → HasWorkedLane lanes left
  one_worked lanes old new left dealt ran is finished =
      let own : left ≡ record { jobs = new.jobs; lanes = new.lanes; end = ran.how } =
      same_Some left (record { jobs = new.jobs; lanes = new.lanes; end = ran.how }) (is ∙ ap (option_map (λ end. record { jobs = new.jobs; lanes = new.lanes; end = end })) ran.end_is) in
      let how : ran.how ≡ Finished = sym (ap (λ l. l.end) own) ∙ finished in
      let worked = subst (λ h. WorksTo h old.jobs new.jobs old.lanes.items new.lanes.items) how ran.worked in
      let from = subst (λ j. WorksTo Finished j new.jobs old.lanes.items new.lanes.items) dealt.jobs worked in
      let dealt_lanes = subst (λ l. WorksTo Finished lanes.jobs new.jobs l new.lanes.items) dealt.lanes_are from in
      subst (λ l. WorksTo Finished lanes.jobs l.jobs lanes.lanes.items l.lanes.items) (sym own) dealt_lanes

  -- each worker worked its lane to the end
  pub workers_worked : (all : List WorkerLanes) (old new : List (WorkerJob B g)) (left : List WorkerLeft) → AreDealtWorkers all old → WentEach HasWorked old new → map Some left ≡ map worker_left new → All HasFinished left
      → (n : ℕ) (w : WorkerLanes) (l : WorkerLeft) → n < length all → HasWorkedLane (get_or all n w) (get_or left n l)
  workers_worked all old new left dealt went ends finished n w l below =
      let many = dealt.many in
      let count = went.count in
      let same = same_many Some worker_left left new ends in
      let d = one_of old n (omega (arith, many, below)) in
      let own = mapped_at Some worker_left left new n l d ends (omega (arith, many, count, same, below)) in
      one_worked (get_or all n w) (get_or old n d) (get_or new n d) (get_or left n l) (dealt.each n w d below) (was-of HasWorked old new n d went (omega (arith, many, count, below))) own
      (finished n l (omega (arith, many, count, same, below)))
