-- The jobs in one list, and each kind of them in it.
use Rattle.std.proofs.Common.{◌≡◌, ℕ, Option, Some, None, List, [], ◌∷◌, ◌++◌, map, length, sym, refl, ap, ◌∙◌, subst, arith}
use Rattle.std.specs.List.{All}
use Rattle.std.proofs.lemmas.List.{append-nil, nil_from_length}
use Rattle.std.proofs.lemmas.List.Elements.{All-nil, All-cons, All-append, All-map}
use Rattle.std.proofs.lemmas.Option.{same_Some}
use Rattle.port_sched.specs.declared.body.PortBody.{Ghosts}
use Rattle.port_sched.specs.Jobs.{WentEach}
use Rattle.process_job.specs.declared.job.ProcessJob.{ProcessJob}
use Rattle.process_job.specs.Jobs.{HasRun}
use Rattle.run_jobs.specs.declared.finish.FinishJob.{FinishJob}
use Rattle.run_jobs.specs.declared.poller.PollerJob.{PollerJob}
use Rattle.run_jobs.specs.declared.worker.WorkerJob.{WorkerJob}
use Rattle.run_jobs.specs.Finishing.{HasToldEnd}
use Rattle.run_jobs.specs.Rounds.{HasPolled}
use Rattle.run_jobs.specs.Working.{HasWorked}
use Rattle.threaded_jobs.specs.declared.kinds.RunJob.{RunJob}
use Rattle.threaded_jobs.specs.declared.kinds.RunJob.TheVariants as job
use Rattle.threaded_jobs.specs.declared.jobs.RunJobs.{RunJobs}
use Rattle.threaded_jobs.specs.Kinds.{CanGo, HasGone}
use Rattle.threaded_jobs.specs.Jobs.{listed, CanAllGo, HaveRun}
use Rattle.threaded_jobs.proofs.Going.{went_nil, went_cons, went_head, went_tail}

module _ {B S : Type 0} {g : Ghosts B} where
  -- the jobs of each kind in a list, and the last poller and finisher in it, or the one before it
  abbrev pub processes_in : List (RunJob B S g) → List (ProcessJob B g)
  processes_in [] = []
  processes_in (job.Process p ∷ js) = p ∷ processes_in js
  processes_in (job.Worker w ∷ js) = processes_in js
  processes_in (job.Poller p ∷ js) = processes_in js
  processes_in (job.Finish f ∷ js) = processes_in js

  abbrev pub workers_in : List (RunJob B S g) → List (WorkerJob B g)
  workers_in [] = []
  workers_in (job.Process p ∷ js) = workers_in js
  workers_in (job.Worker w ∷ js) = w ∷ workers_in js
  workers_in (job.Poller p ∷ js) = workers_in js
  workers_in (job.Finish f ∷ js) = workers_in js

  abbrev pub last_poller : Option (PollerJob B S g) → List (RunJob B S g) → Option (PollerJob B S g)
  last_poller had [] = had
  last_poller had (job.Process p ∷ js) = last_poller had js
  last_poller had (job.Worker w ∷ js) = last_poller had js
  last_poller had (job.Poller p ∷ js) = last_poller (Some p) js
  last_poller had (job.Finish f ∷ js) = last_poller had js

  abbrev pub last_finish : Option FinishJob → List (RunJob B S g) → Option FinishJob
  last_finish had [] = had
  last_finish had (job.Process p ∷ js) = last_finish had js
  last_finish had (job.Worker w ∷ js) = last_finish had js
  last_finish had (job.Poller p ∷ js) = last_finish had js
  last_finish had (job.Finish f ∷ js) = last_finish (Some f) js

  -- the list of these
  abbrev pub list_of : List (ProcessJob B g) → List (WorkerJob B g) → PollerJob B S g → FinishJob → List (RunJob B S g)
  list_of ps ws p f = map job.Process ps ++ map job.Worker ws ++ job.Poller p ∷ job.Finish f ∷ []

  pub processes_of : (ps : List (ProcessJob B g)) (ws : List (WorkerJob B g)) (p : PollerJob B S g) (f : FinishJob) → processes_in (list_of ps ws p f) ≡ ps
  processes_of [] [] p f = refl
  processes_of [] (w ∷ ws) p f = processes_of [] ws p f
  processes_of (x ∷ ps) ws p f = ap (λ l. x ∷ l) (processes_of ps ws p f)

  pub workers_of : (ps : List (ProcessJob B g)) (ws : List (WorkerJob B g)) (p : PollerJob B S g) (f : FinishJob) → workers_in (list_of ps ws p f) ≡ ws
  workers_of [] [] p f = refl
  workers_of [] (w ∷ ws) p f = ap (λ l. w ∷ l) (workers_of [] ws p f)
  workers_of (x ∷ ps) ws p f = workers_of ps ws p f

  pub poller_of : (ps : List (ProcessJob B g)) (ws : List (WorkerJob B g)) (p : PollerJob B S g) (f : FinishJob) → last_poller None (list_of ps ws p f) ≡ Some p
  poller_of [] [] p f = refl
  poller_of [] (w ∷ ws) p f = poller_of [] ws p f
  poller_of (x ∷ ps) ws p f = poller_of ps ws p f

  pub finish_of : (ps : List (ProcessJob B g)) (ws : List (WorkerJob B g)) (p : PollerJob B S g) (f : FinishJob) → last_finish None (list_of ps ws p f) ≡ Some f
  finish_of [] [] p f = refl
  finish_of [] (w ∷ ws) p f = finish_of [] ws p f
  finish_of (x ∷ ps) ws p f = finish_of ps ws p f

none_of : {A : Type 0} {went : A → A → Type 0} (new : List A) → WentEach went [] new → new ≡ []
none_of [] went = refl
none_of (x ∷ new) went = absurd (let e = went.count in omega arith)

module _ {B S : Type 0} {g : Ghosts B} (faults : S → ℕ) (answered : S → List ℕ) where
  gone_process : (old : ProcessJob B g) (new : RunJob B S g) → HasGone faults answered (job.Process old) new → (p : ProcessJob B g) × (new ≡ job.Process p) × HasRun old p
  gone_process old (job.Process p) went = (p, refl, went)
  gone_process old (job.Worker w) went = absurd went
  gone_process old (job.Poller p) went = absurd went
  gone_process old (job.Finish f) went = absurd went

  gone_worker : (old : WorkerJob B g) (new : RunJob B S g) → HasGone faults answered (job.Worker old) new → (w : WorkerJob B g) × (new ≡ job.Worker w) × HasWorked old w
  gone_worker old (job.Process p) went = absurd went
  gone_worker old (job.Worker w) went = (w, refl, went)
  gone_worker old (job.Poller p) went = absurd went
  gone_worker old (job.Finish f) went = absurd went

  gone_poller : (old : PollerJob B S g) (new : RunJob B S g) → HasGone faults answered (job.Poller old) new → (p : PollerJob B S g) × (new ≡ job.Poller p) × HasPolled faults answered old p
  gone_poller old (job.Process p) went = absurd went
  gone_poller old (job.Worker w) went = absurd went
  gone_poller old (job.Poller p) went = (p, refl, went)
  gone_poller old (job.Finish f) went = absurd went

  gone_finish : (old : FinishJob) (new : RunJob B S g) → HasGone faults answered (job.Finish old) new → (f : FinishJob) × (new ≡ job.Finish f) × HasToldEnd old f
  gone_finish old (job.Process p) went = absurd went
  gone_finish old (job.Worker w) went = absurd went
  gone_finish old (job.Poller p) went = absurd went
  gone_finish old (job.Finish f) went = (f, refl, went)

  -- what stands in the place of each
  pub record Parts (ps : List (ProcessJob B g)) (ws : List (WorkerJob B g)) (p : PollerJob B S g) (f : FinishJob) (items : List (RunJob B S g)) : Type 0 where
    pub processes' : List (ProcessJob B g)
    pub workers' : List (WorkerJob B g)
    pub poller' : PollerJob B S g
    pub finish' : FinishJob
    pub items_are : items ≡ list_of processes' workers' poller' finish'
    pub processes : WentEach HasRun ps processes'
    pub workers : WentEach HasWorked ws workers'
    pub poller : HasPolled faults answered p poller'
    pub finish : HasToldEnd f finish'

  last_parts : (p : PollerJob B S g) (f : FinishJob) (items : List (RunJob B S g)) → WentEach (HasGone faults answered) (job.Poller p ∷ job.Finish f ∷ []) items → Parts [] [] p f items
  last_parts p f [] went = absurd (let e = went.count in omega arith)
  last_parts p f (x ∷ []) went = absurd (let e = went.count in omega arith)
  last_parts p f (x ∷ y ∷ []) went =
      let a = gone_poller p x (went_head (job.Poller p) x (job.Finish f ∷ []) (y ∷ []) went) in
      let b = gone_finish f y (went_head (job.Finish f) y [] [] (went_tail (job.Poller p) x (job.Finish f ∷ []) (y ∷ []) went)) in
      record {
        processes' = [];
        workers' = [];
        poller' = a.0;
        finish' = b.0;
        items_are = ap (λ l. l ∷ y ∷ []) a.1 ∙ ap (λ l. job.Poller a.0 ∷ l ∷ []) b.1;
        processes = went_nil;
        workers = went_nil;
        poller = a.2;
        finish = b.2;
      }
  last_parts p f (x ∷ y ∷ z ∷ items) went = absurd (let e = went.count in omega arith)

  pub parts_of : (ps : List (ProcessJob B g)) (ws : List (WorkerJob B g)) (p : PollerJob B S g) (f : FinishJob) (items : List (RunJob B S g))
      → WentEach (HasGone faults answered) (list_of ps ws p f) items → Parts ps ws p f items
  parts_of [] [] p f items went = last_parts p f items went
  parts_of [] (w ∷ ws) p f [] went = absurd (let e = went.count in omega arith)
  parts_of [] (w ∷ ws) p f (x ∷ items) went =
      let a = gone_worker w x (went_head (job.Worker w) x (list_of [] ws p f) items went) in
      let r = parts_of [] ws p f items (went_tail (job.Worker w) x (list_of [] ws p f) items went) in
      let none : r.processes' ≡ [] = none_of r.processes' r.processes in
      record {
        processes' = [];
        workers' = a.0 ∷ r.workers';
        poller' = r.poller';
        finish' = r.finish';
        items_are = ap (λ l. l ∷ items) a.1 ∙ ap (λ l. job.Worker a.0 ∷ l) (r.items_are ∙ ap (λ l. list_of l r.workers' r.poller' r.finish') none);
        processes = went_nil;
        workers = went_cons w a.0 ws r.workers' a.2 r.workers;
        poller = r.poller;
        finish = r.finish;
      }
  parts_of (v ∷ ps) ws p f [] went = absurd (let e = went.count in omega arith)
  parts_of (v ∷ ps) ws p f (x ∷ items) went =
      let a = gone_process v x (went_head (job.Process v) x (list_of ps ws p f) items went) in
      let r = parts_of ps ws p f items (went_tail (job.Process v) x (list_of ps ws p f) items went) in
      record {
        processes' = a.0 ∷ r.processes';
        workers' = r.workers';
        poller' = r.poller';
        finish' = r.finish';
        items_are = ap (λ l. l ∷ items) a.1 ∙ ap (λ l. job.Process a.0 ∷ l) r.items_are;
        processes = went_cons v a.0 ps r.processes' a.2 r.processes;
        workers = r.workers;
        poller = r.poller;
        finish = r.finish;
      }

module _ {B S : Type 0} {g : Ghosts B} where
  -- each job of the list can run
  pub all_can : (r : RunJobs B S g) → CanAllGo r → All CanGo (listed r)
  all_can r can =
      All-append CanGo (map job.Process r.processes.items ++ map job.Worker r.workers.items) (job.Poller r.poller ∷ job.Finish r.finish ∷ [])
      (All-append CanGo (map job.Process r.processes.items) (map job.Worker r.workers.items) (All-map CanGo job.Process r.processes.items can.processes)
      (All-map CanGo job.Worker r.workers.items can.workers))
      (All-cons CanGo (job.Poller r.poller) (job.Finish r.finish ∷ []) can.poller (All-cons CanGo (job.Finish r.finish) [] can.finish (All-nil CanGo)))

  -- what was taken out once nothing is left
  pub processes_end : (done : List (ProcessJob B g)) (rest items : List (RunJob B S g)) → length rest ≡ 0 → done ++ processes_in rest ≡ processes_in items → done ≡ processes_in items
  processes_end done rest items none so = sym (append-nil done) ∙ ap (λ l. done ++ processes_in l) (sym (nil_from_length rest none)) ∙ so

  pub workers_end : (done : List (WorkerJob B g)) (rest items : List (RunJob B S g)) → length rest ≡ 0 → done ++ workers_in rest ≡ workers_in items → done ≡ workers_in items
  workers_end done rest items none so = sym (append-nil done) ∙ ap (λ l. done ++ workers_in l) (sym (nil_from_length rest none)) ∙ so

  pub poller_end : (had : Option (PollerJob B S g)) (rest items : List (RunJob B S g)) → length rest ≡ 0 → last_poller had rest ≡ last_poller None items → had ≡ last_poller None items
  poller_end had rest items none so = ap (last_poller had) (sym (nil_from_length rest none)) ∙ so

  pub finish_end : (had : Option FinishJob) (rest items : List (RunJob B S g)) → length rest ≡ 0 → last_finish had rest ≡ last_finish None items → had ≡ last_finish None items
  finish_end had rest items none so = ap (last_finish had) (sym (nil_from_length rest none)) ∙ so

  module _ (faults : S → ℕ) (answered : S → List ℕ) where
    -- the lists that were taken out of a list of jobs that have run are those that stand in it
    pub are_listed : (old new : RunJobs B S g) (items : List (RunJob B S g)) → WentEach (HasGone faults answered) (listed old) items → new.processes.items ≡ processes_in items → new.workers.items ≡ workers_in items
        → Some new.poller ≡ last_poller None items → Some new.finish ≡ last_finish None items → listed new ≡ items
    are_listed old new items went ps ws p f =
        let r = parts_of faults answered old.processes.items old.workers.items old.poller old.finish items went in
        let own_ps : new.processes.items ≡ r.processes' = ps ∙ ap processes_in r.items_are ∙ processes_of r.processes' r.workers' r.poller' r.finish' in
        let own_ws : new.workers.items ≡ r.workers' = ws ∙ ap workers_in r.items_are ∙ workers_of r.processes' r.workers' r.poller' r.finish' in
        let own_p : new.poller ≡ r.poller' = same_Some new.poller r.poller' (p ∙ ap (last_poller None) r.items_are ∙ poller_of r.processes' r.workers' r.poller' r.finish') in
        let own_f : new.finish ≡ r.finish' = same_Some new.finish r.finish' (f ∙ ap (last_finish None) r.items_are ∙ finish_of r.processes' r.workers' r.poller' r.finish') in
        ap (λ l. list_of l new.workers.items new.poller new.finish) own_ps ∙ ap (λ l. list_of r.processes' l new.poller new.finish) own_ws ∙ ap (λ q. list_of r.processes' r.workers' q new.finish) own_p
        ∙ ap (λ q. list_of r.processes' r.workers' r.poller' q) own_f ∙ sym r.items_are

    -- and each has run
    pub have_run : (old new : RunJobs B S g) → WentEach (HasGone faults answered) (listed old) (listed new) → HaveRun faults answered old new
    have_run old new went =
        let r = parts_of faults answered old.processes.items old.workers.items old.poller old.finish (listed new) went in
        let own_ps : r.processes' ≡ new.processes.items =
        sym (processes_of r.processes' r.workers' r.poller' r.finish') ∙ ap processes_in (sym r.items_are) ∙ processes_of new.processes.items new.workers.items new.poller new.finish in
        let own_ws : r.workers' ≡ new.workers.items =
        sym (workers_of r.processes' r.workers' r.poller' r.finish') ∙ ap workers_in (sym r.items_are) ∙ workers_of new.processes.items new.workers.items new.poller new.finish in
        let own_p : r.poller' ≡ new.poller =
        same_Some r.poller' new.poller
        (sym (poller_of r.processes' r.workers' r.poller' r.finish') ∙ ap (last_poller None) (sym r.items_are) ∙ poller_of new.processes.items new.workers.items new.poller new.finish) in
        let own_f : r.finish' ≡ new.finish =
        same_Some r.finish' new.finish
        (sym (finish_of r.processes' r.workers' r.poller' r.finish') ∙ ap (last_finish None) (sym r.items_are) ∙ finish_of new.processes.items new.workers.items new.poller new.finish) in
        record {
          processes = subst (WentEach HasRun old.processes.items) own_ps r.processes;
          workers = subst (WentEach HasWorked old.workers.items) own_ws r.workers;
          poller = subst (HasPolled faults answered old.poller) own_p r.poller;
          finish = subst (HasToldEnd old.finish) own_f r.finish;
        }

    pub have_run_in : (old new : RunJobs B S g) (items : List (RunJob B S g)) → WentEach (HasGone faults answered) (listed old) items → listed new ≡ items → HaveRun faults answered old new
    have_run_in old new items went is = have_run old new (subst (WentEach (HasGone faults answered) (listed old)) (sym is) went)

    -- how many of each kind there are, and that the last ones are there
    pub record Counts (old : RunJobs B S g) (items : List (RunJob B S g)) : Type 0 where
      pub processes : length (processes_in items) ≡ length old.processes.items
      pub workers : length (workers_in items) ≡ length old.workers.items
      pub poller : (p : PollerJob B S g) × (last_poller None items ≡ Some p)
      pub finish : (f : FinishJob) × (last_finish None items ≡ Some f)

    pub counts_of : (old : RunJobs B S g) (items : List (RunJob B S g)) → WentEach (HasGone faults answered) (listed old) items → Counts old items
    counts_of old items went =
        let r = parts_of faults answered old.processes.items old.workers.items old.poller old.finish items went in
        record {
          processes = ap (λ l. length (processes_in l)) r.items_are ∙ ap length (processes_of r.processes' r.workers' r.poller' r.finish') ∙ r.processes.count;
          workers = ap (λ l. length (workers_in l)) r.items_are ∙ ap length (workers_of r.processes' r.workers' r.poller' r.finish') ∙ r.workers.count;
          poller = (r.poller', ap (last_poller None) r.items_are ∙ poller_of r.processes' r.workers' r.poller' r.finish');
          finish = (r.finish', ap (last_finish None) r.items_are ∙ finish_of r.processes' r.workers' r.poller' r.finish');
        }
