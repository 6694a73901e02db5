-- The parts of what the jobs of a run leave are those of its setting.
use Rattle.std.proofs.Common.{◌≡◌, ◌<◌, ℕ, List, [], length, map, get_or, sym, ap, ◌∙◌, subst, arith}
use Rattle.port_body.specs.Body.{BodyName}
use Rattle.seated_script.specs.run_opening.run_end.Ran.{HasRunWhole}
use Rattle.seated_script.specs.run_opening.run_seats.run_jobs.declared.finish.FinishEnd.TheVariants.{Told}
use Rattle.seated_script.specs.run_opening.run_seats.run_jobs.Finishing.{TellsWorkers}
use Rattle.seated_script.specs.run_opening.run_seats.run_jobs.Telling.{Sends}
use Rattle.run_lanes.specs.declared.parts.PollerLanes.{PollerLanes}
use Rattle.run_lanes.specs.declared.parts.ProcessLanes.{ProcessLanes}
use Rattle.run_lanes.specs.declared.parts.WorkerLanes.{WorkerLanes}
use Rattle.run_lanes.specs.declared.parts.FinishEnds.{FinishEnds}
use Rattle.seated_script.specs.run_opening.run_seats.declared.plans.ProcessPlan.{ProcessPlan}
use Rattle.seated_script.specs.run_opening.run_seats.declared.plans.ProcessSteps.{ProcessSteps}
use Rattle.seated_script.specs.run_opening.run_seats.Dealt.{proc_of}
use Rattle.seated_script.specs.run_opening.run_seats.Plans.{IsPlanOf}
use Rattle.seated_script.specs.run_opening.run_seats.threaded_jobs.declared.ended.EndedJobs.{EndedJobs}
use Rattle.seated_script.specs.run_opening.run_seats.threaded_jobs.declared.parting.WorkerLeft.{WorkerLeft}
use Rattle.process_end.specs.Views.{proc_view}
use Rattle.seated_script.specs.run_opening.Setting.{Setting}
use Rattle.seated_script.specs.run_opening.Jobs.{HasWorkedLane, HaveRunIn, IsSetUp}
use Rattle.closed_lanes.specs.declared.closing.LaneEnds.{LaneEnds}
use Rattle.closed_lanes.specs.declared.joining.ProcessPeers.{ProcessPeers}
use Rattle.closed_lanes.specs.Joined.{AreOfProcesses}
use Rattle.process_receipts.specs.declared.receipt.Receipt.{Receipt}
use Rattle.script_run.specs.Left.{AreJobParts, HasEndedIn, HaveJobParts}
use Rattle.script_run.specs.Parted.{ran_processes}
use Rattle.script_run.proofs.Parts.{at-ran, left-of-ran, many-ran, some}

module _ {S : Type 0} (faults : S → ℕ) (answered : S → List ℕ) (s : Setting) (plans : List ProcessPlan) (poll : S) (names : List BodyName) (jobs : EndedJobs S) (has : HasEndedIn faults answered s plans poll names jobs) where
  have-run : HaveRunIn s (ran_processes plans jobs.processes.items)
  have-run =
      let ended = has.ended in
      let many = ended.processes_many in
      let planned = has.dealt.plans_are.many in
      let counts = has.is.lanes_are.counts.processes_many in
      let all = many-ran plans jobs.processes.items many in
      let process_steps_many = has.is.process_steps_many in
      record {
        many = omega (arith, all, planned, counts);
        ran = λ n r below.
            let inside : n < length plans = omega (arith, all, below) in
            let p = some plans n inside in
            let e = some jobs.processes.items n (omega (arith, many, inside)) in
            subst HasRunWhole (sym (at-ran plans jobs.processes.items n r p e many inside)) (ended.processes n p e inside);
        each = λ n l q r below.
            let within : n < length s.lanes.processes.items = omega (arith, counts, below) in
            let inside : n < length plans = omega (arith, planned, within) in
            let p = some plans n inside in
            let e = some jobs.processes.items n (omega (arith, many, inside)) in
            let plan = has.dealt.plans_are.each n l q p within in
            subst (IsSetUp s n (get_or s.lanes.processes.items n l) (get_or s.process_steps n q)) (sym (at-ran plans jobs.processes.items n r p e many inside))
            (record {
              old = set-up n (get_or s.lanes.processes.items n l) (get_or s.process_steps n q) (get_or plans n p) plan;
              steps = ap (λ (x : ProcessSteps). x.steps.items) plan.own_steps_are;
              files = ap (λ (x : ProcessSteps). x.files.items) plan.own_steps_are;
            });
      }
    where
      set-up : (n : ℕ) (l : ProcessLanes) (q : ProcessSteps) (p : ProcessPlan) → IsPlanOf s.soft n l q p → proc_of p ≡ proc_view n l.mailbox l.lanes.items l.seats.items s.soft [] 0 0
      set-up n l q p is =
          ap (λ x. proc_view x p.parts.mailbox p.parts.lanes.items p.parts.seats.items p.parts.soft.items [] 0 0) is.number_is
          ∙ ap (λ x. proc_view n x p.parts.lanes.items p.parts.seats.items p.parts.soft.items [] 0 0) is.mailbox
          ∙ ap (λ x. proc_view n l.mailbox x p.parts.seats.items p.parts.soft.items [] 0 0) is.lanes_are
          ∙ ap (λ x. proc_view n l.mailbox l.lanes.items x p.parts.soft.items [] 0 0) is.seats
          ∙ ap (λ x. proc_view n l.mailbox l.lanes.items l.seats.items x [] 0 0) is.soft_are

  pub job-parts : (ends : LaneEnds) (receipts : List (List Receipt)) (peers : ProcessPeers)
      → AreJobParts jobs.processes.items jobs.poller.lanes.items jobs.workers.items jobs.finish.workers.items ends receipts peers
      → HaveJobParts s names (ran_processes plans jobs.processes.items) ends receipts peers
  job-parts ends receipts peers are =
      let ended = has.ended in
      let many = ended.processes_many in
      let parts = are.are_parts in
      let workers_many = ended.workers_many in
      let dealt_many = ap length has.dealt.workers_are in
      let counts = has.is.lanes_are.counts.workers_many in
      let polled = ended.poller_told.polls in
      record {
        is = has.is;
        named = has.named;
        have_run = have-run;
        given_back = record {
          processes_are = ap (λ x. map (λ l. l.items) x.items) are.lanes_are ∙ parts.lanes_are ∙ left-of-ran (λ end mails. end.lanes.items) plans jobs.processes.items many;
          worked = record {
            many = ap length are.workers_are ∙ workers_many ∙ dealt_many ∙ counts;
            each = λ n w l below.
                let within : n < length has.others.workers.items = omega (arith, dealt_many, counts, below) in
                subst (HasWorkedLane (get_or s.lanes.workers.items n w)) (ap (λ (x : List WorkerLeft). get_or x n l) (sym are.workers_are))
                (subst (λ (x : List WorkerLanes). HasWorkedLane (get_or x n w) (get_or jobs.workers.items n l)) has.dealt.workers_are (ended.workers n w l within));
          };
          polled = (
            polled.told,
            subst (λ ends. Sends polled.told s.lanes.poller.lanes.items ends) (sym are.poller_is)
                (subst (λ (x : PollerLanes). Sends polled.told x.lanes.items jobs.poller.lanes.items) has.dealt.poller_is polled.sends),
          );
          told = subst (TellsWorkers Told s.lanes.finish.workers.items) (sym are.finish_is)
              (subst (λ (x : FinishEnds). TellsWorkers Told x.workers.items jobs.finish.workers.items) has.dealt.finish_is ended.finish_told.workers);
        };
        receipts_are = are.receipts_are ∙ parts.receipts_are ∙ left-of-ran (λ end mails. end.receipts) plans jobs.processes.items many;
        of_processes = subst (AreOfProcesses (ran_processes plans jobs.processes.items)) (sym are.peers_are) (record {
          mailboxes_are = parts.mailboxes_are ∙ left-of-ran (λ end mails. end.mailbox) plans jobs.processes.items many;
          mails_are = parts.mails_are ∙ left-of-ran (λ end mails. mails) plans jobs.processes.items many;
          seats_are = parts.seats_are ∙ left-of-ran (λ end mails. end.seats.items) plans jobs.processes.items many;
        });
      }
