-- The turns of a worker, one after another.
use Rattle.std.proofs.Common.{◌≡◌, List, [], ◌∷◌, ◌++◌, length, map, sym, refl, ap, ◌∙◌, subst, arith, append_assoc, length-append}
use Rattle.std.proofs.lemmas.List.{append-nil, map_push}
use Rattle.task_queue.specs.declared.item.Item.{Item}
use Rattle.async_jobs.specs.declared.job.Job.{Job}
use Rattle.async_jobs.specs.declared.job.Done.{Done}
use Rattle.async_jobs.specs.declared.job.WorkItem.{WorkItem}
use Rattle.async_jobs.specs.declared.job.WorkItem.TheVariants.{Work, Finish}
use Rattle.async_jobs.specs.Turns.{Worker, Took, IsDoneOf}
use Rattle.async_jobs.specs.Work.{work_of}
use Rattle.process_end.specs.Views.{LaneEnd}
use Rattle.run_jobs.specs.declared.worker.WorkerEnd.TheVariants as end
use Rattle.run_jobs.specs.Telling.{PortTask, Sends}
use Rattle.run_jobs.specs.Working.{answer_to, done_task, values, WorksTo}
use Rattle.run_jobs.proofs.Tells.{sends_none, sends_then}

-- the answer to a job is what was done of it
pub answer_is : (job : Job) (done : Done) → IsDoneOf job done → ◌≡◌ {A = PortTask} (record { port = done.port; task = done_task done.number (work_of done.code done.input) }) (answer_to job)
answer_is job done is =
    ap (λ p. record { port = p; task = done_task done.number (work_of done.code done.input) }) is.port ∙ ap (λ n. record { port = job.port; task = done_task n (work_of done.code done.input) }) is.number
    ∙ ap (λ k. record { port = job.port; task = done_task job.number (work_of k done.input) }) is.code ∙ ap (λ b. record { port = job.port; task = done_task job.number (work_of job.code b) }) is.input

-- The worker took these jobs and nothing else, and answered each
pub record WorksSo (old new : Worker) (lanes lanes' : List LaneEnd) : Type 0 where
  pub items : List (Item WorkItem)
  pub jobs : List Job
  pub taken : new ≡ record old { taken = old.taken ++ items }
  pub values_are : values items ≡ map Work jobs
  pub sends : Sends (map answer_to jobs) lanes lanes'

pub works_none : (worker : Worker) (lanes : List LaneEnd) → WorksSo worker worker lanes lanes
works_none worker lanes = record { items = []; jobs = []; taken = ap (λ l. record worker { taken = l }) (sym (append-nil worker.taken)); values_are = refl; sends = sends_none lanes }

took_more : (old mid new : Worker) (items : List (Item WorkItem)) (value : WorkItem) → mid ≡ record old { taken = old.taken ++ items } → (took : Took mid value new) → new ≡ record old { taken = old.taken ++ (items ++ took.0 ∷ []) }
took_more old mid new items value taken took =
    took.2 ∙ ap (λ (w : Worker). record w { taken = w.taken ++ took.0 ∷ [] }) taken ∙ ap (λ l. record old { taken = l }) (append_assoc old.taken items (took.0 ∷ []))

values_more : (items : List (Item WorkItem)) (jobs : List Job) (item : Item WorkItem) (value : WorkItem) → values items ≡ map Work jobs → item.value ≡ value → values (items ++ item ∷ []) ≡ map Work jobs ++ value ∷ []
values_more items jobs item value are is = map_push (λ (x : Item WorkItem). x.value) items item ∙ (λ i. are i ++ is i ∷ [])

pub works_more : (old mid new : Worker) (lanes lanes' lanes'' : List LaneEnd) (job : Job) → WorksSo old mid lanes lanes' → Took mid (Work job) new → Sends (answer_to job ∷ []) lanes' lanes'' → WorksSo old new lanes lanes''
works_more old mid new lanes lanes' lanes'' job so took sends = record {
  items = so.items ++ took.0 ∷ [];
  jobs = so.jobs ++ job ∷ [];
  taken = took_more old mid new so.items (Work job) so.taken took;
  values_are = values_more so.items so.jobs took.0 (Work job) so.values_are took.1 ∙ sym (map_push Work so.jobs job);
  sends = subst (λ l. Sends l lanes lanes'') (sym (map_push answer_to so.jobs job)) (sends_then (map answer_to so.jobs) (answer_to job ∷ []) lanes lanes' lanes'' so.sends sends);
}

pub works_stopped : (old new : Worker) (lanes lanes' : List LaneEnd) → WorksSo old new lanes lanes' → WorksTo end.Stopped old new lanes lanes'
works_stopped old new lanes lanes' so = record {
  items = so.items;
  jobs = so.jobs;
  told = map answer_to so.jobs;
  left = [];
  taken = so.taken;
  values_are = so.values_are ∙ sym (append-nil (map Work so.jobs));
  answers = sym (append-nil (map answer_to so.jobs));
  left_at = refl;
  sends = so.sends;
}

pub works_finished : (old mid new : Worker) (lanes lanes' : List LaneEnd) → WorksSo old mid lanes lanes' → Took mid Finish new → WorksTo end.Finished old new lanes lanes'
works_finished old mid new lanes lanes' so took = record {
  items = so.items ++ took.0 ∷ [];
  jobs = so.jobs;
  told = map answer_to so.jobs;
  left = [];
  taken = took_more old mid new so.items Finish so.taken took;
  values_are = values_more so.items so.jobs took.0 Finish so.values_are took.1;
  answers = sym (append-nil (map answer_to so.jobs));
  left_at = refl;
  sends = so.sends;
}

pub works_failed : (old mid new : Worker) (lanes lanes' lanes'' : List LaneEnd) (job : Job) (told left : List PortTask) → WorksSo old mid lanes lanes' → Took mid (Work job) new → answer_to job ∷ [] ≡ told ++ left
    → Sends told lanes' lanes'' → WorksTo end.NoMemory old new lanes lanes''
works_failed old mid new lanes lanes' lanes'' job told left so took whole sends = record {
  items = so.items ++ took.0 ∷ [];
  jobs = so.jobs ++ job ∷ [];
  told = map answer_to so.jobs ++ told;
  left = left;
  taken = took_more old mid new so.items (Work job) so.taken took;
  values_are = values_more so.items so.jobs took.0 (Work job) so.values_are took.1 ∙ sym (map_push Work so.jobs job) ∙ sym (append-nil (map Work (so.jobs ++ job ∷ [])));
  answers = map_push answer_to so.jobs job ∙ ap (λ l. map answer_to so.jobs ++ l) whole ∙ sym (append_assoc (map answer_to so.jobs) told left);
  left_at = (let e = ap length whole in let l = length-append told left in omega arith);
  sends = sends_then (map answer_to so.jobs) told lanes lanes' lanes'' so.sends sends;
}
