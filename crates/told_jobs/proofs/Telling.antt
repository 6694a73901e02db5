-- Rows that tell jobs done keep the law of jobs.
use Rattle.std.proofs.Common.{◌≡◌, ℕ, ◌+◌, ◌<◌, ◌≤◌, ◌%◌, ◌==◌, Bool, true, false, ◌&&◌, ◌||◌, not, List, [], ◌∷◌, ◌++◌, map, refl, sym, ap, ◌∙◌, subst, inl, inr, arith, eqb-true, eq-eqb}
use Rattle.std.specs.Prelude.{nat_lt}
use Rattle.std.specs.List.{list_all}
use Rattle.std.proofs.lemmas.Bool.{cases_order, ltb-true}
use Rattle.std.proofs.lemmas.List.{append_assoc}
use Rattle.async_jobs.specs.Work.{work_of}
use Rattle.driver_model.specs.Same.{same_bytes}
use Rattle.port_model.specs.declared.row.Row.{Row}
use Rattle.port_model.specs.declared.row.Row.TheVariants.{Handled, Late, Listed, Resumed, Mark}
use Rattle.port_model.specs.declared.signal.Sender.{Sender}
use Rattle.port_model.specs.declared.signal.Sender.TheVariants.{Process, Poller, Worker, Timer}
use Rattle.port_model.specs.declared.signal.Signal.{Signal}
use Rattle.port_model.specs.declared.signal.Signal.TheVariants.{AsyncDone}
use Rattle.port_model.specs.Tasks.{TaskView}
use Rattle.port_history.specs.Jobs.{Submitted, is_done, each_of, is_next_of_key, done_by, submitted_by}
use Rattle.port_history.specs.Laws.{may_send, is_next, is_told_right, is_told_in_time, is_work, keeps_jobs}
use Rattle.port_history.specs.Lawful.{Lawful}
use Rattle.port_history.specs.Opening.{Opening}
use Rattle.port_history.specs.State.{State, state}
use Rattle.port_body.specs.recorded_port.Laws.{IsLawful}
use Rattle.port_body.specs.served_port.Outcomes.{is_told_in}
use Rattle.port_body.specs.LanePort.{rows_from, task_from}
use Rattle.told_jobs.specs.Told.{told_task, jobs_of_worker, TellsFirst, JobsToldInOrder}
use Rattle.told_jobs.proofs.Rising.{In, Rising, in-front, in-behind, same-job, less-in-front, rising-filter, in-filter, rising-numbered}

and-first : (a b : Bool) → (a && b) ≡ true → a ≡ true
and-first true b e = refl
and-first false b e = absurd cc

and-last : (a b : Bool) → (a && b) ≡ true → b ≡ true
and-last true b e = e
and-last false b e = absurd cc

-- a list of tasks that are told, cut in two
pub record Cut (jobs : List Submitted) (front behind : List TaskView) : Type 0 where
  pub first : List Submitted
  pub rest : List Submitted
  pub are : jobs ≡ first ++ rest
  pub tells_front : map told_task first ≡ front
  pub tells_behind : map told_task rest ≡ behind

pub cut : (jobs : List Submitted) (front behind : List TaskView) → map told_task jobs ≡ front ++ behind → Cut jobs front behind
cut jobs [] behind e = record { first = []; rest = jobs; are = refl; tells_front = refl; tells_behind = e }
cut [] (t ∷ front) behind e = absurd cc
cut (job ∷ jobs) (t ∷ front) behind e =
    let at : told_task job ≡ t = cc in
    let tail : map told_task jobs ≡ front ++ behind = cc in
    let c = cut jobs front behind tail in
    record { first = job ∷ c.first; rest = c.rest; are = ap (λ x. job ∷ x) c.are; tells_front = ap (λ x. told_task job ∷ x) c.tells_front ∙ ap (λ x. x ∷ front) at; tells_behind = c.tells_behind }

-- what holds while a history goes back: its jobs are the first of all, and each worker told the first of its jobs
record Telling (workers : ℕ) (all : List Submitted) (port : Opening) (history : List Row) : Type 0 where
  pub more : List Submitted
  pub jobs : all ≡ (state port history).jobs ++ more
  pub told : (worker : ℕ) → worker < workers → TellsFirst (jobs_of_worker workers worker all) (rows_from (Worker worker) history)
  pub others : (worker : ℕ) → workers ≤ worker → rows_from (Worker worker) history ≡ []

first-less : (jobs : List Submitted) (front behind : List TaskView) → TellsFirst jobs (front ++ behind) → TellsFirst jobs front
first-less jobs front behind t =
    let c = cut t.first front behind (sym t.tells) in
    record { first = c.first; rest = c.rest ++ t.rest; are = t.are ∙ (ap (λ x. x ++ t.rest) c.are ∙ append_assoc c.first c.rest t.rest); tells = sym c.tells_front }

front-empty : (front behind : List TaskView) → front ++ behind ≡ [] → front ≡ []
front-empty [] behind e = refl
front-empty (t ∷ front) behind e = absurd cc

-- back over a row
back-task : (workers : ℕ) (all : List Submitted) (port : Opening) (older : List Row) (from : Sender) (task : TaskView) (more : List Submitted)
    → all ≡ (state port older).jobs ++ more
    → ((worker : ℕ) → worker < workers → TellsFirst (jobs_of_worker workers worker all) (rows_from (Worker worker) older ++ task_from (Worker worker) from task))
    → ((worker : ℕ) → workers ≤ worker → rows_from (Worker worker) older ++ task_from (Worker worker) from task ≡ [])
    → Telling workers all port older
back-task workers all port older from task more jobs told others = record {
  more = more;
  jobs = jobs;
  told = λ worker lt. first-less (jobs_of_worker workers worker all) (rows_from (Worker worker) older) (task_from (Worker worker) from task) (told worker lt);
  others = λ worker le. front-empty (rows_from (Worker worker) older) (task_from (Worker worker) from task) (others worker le);
}

back : (workers : ℕ) (all : List Submitted) (port : Opening) (row : Row) (older : List Row) → Telling workers all port (row ∷ older) → Telling workers all port older
back workers all port (Handled from seq task outside effects) older t =
    back-task workers all port older from task (submitted_by effects ++ t.more) (t.jobs ∙ append_assoc (state port older).jobs (submitted_by effects) t.more) t.told t.others
back workers all port (Late from seq task) older t = back-task workers all port older from task t.more t.jobs t.told t.others
back workers all port (Listed from seq) older t = record { more = t.more; jobs = t.jobs; told = t.told; others = t.others }
back workers all port (Resumed from seq word) older t = record { more = t.more; jobs = t.jobs; told = t.told; others = t.others }
back workers all port (Mark kind) older t = record { more = t.more; jobs = t.jobs; told = t.told; others = t.others }

-- who sends such a signal is a worker
sent-by-worker : (from : Sender) (number : ℕ) (output : List ℕ) → may_send from (AsyncDone number output) ≡ true → (worker : ℕ) × (from ≡ Worker worker)
sent-by-worker (Process process) number output may = absurd cc
sent-by-worker Poller number output may = absurd cc
sent-by-worker (Worker worker) number output may = (worker, refl)
sent-by-worker Timer number output may = absurd cc

-- a row told this job
record WasTold (number : ℕ) (rows : List Row) : Type 0 where
  pub worker : ℕ
  pub task : TaskView
  pub output : List ℕ
  pub signal : task.signal ≡ AsyncDone number output
  pub there : In task (rows_from (Worker worker) rows)

later : (number : ℕ) (from : Sender) (task : TaskView) (rows : List Row) (row : Row)
    → ((worker : ℕ) → rows_from (Worker worker) (row ∷ rows) ≡ rows_from (Worker worker) rows ++ task_from (Worker worker) from task)
    → WasTold number rows → WasTold number (row ∷ rows)
later number from task rows row e w = record {
  worker = w.worker;
  task = w.task;
  output = w.output;
  signal = w.signal;
  there = subst (λ x. In w.task x) (sym (e w.worker)) (in-front w.task (rows_from (Worker w.worker) rows) (task_from (Worker w.worker) from task) w.there);
}

now : (worker number : ℕ) (output : List ℕ) (task : TaskView) (rows : List Row) (row : Row) → task.signal ≡ AsyncDone number output
    → rows_from (Worker worker) (row ∷ rows) ≡ rows_from (Worker worker) rows ++ task_from (Worker worker) (Worker worker) task
    → WasTold number (row ∷ rows)
now worker number output task rows row signal e = record {
  worker = worker;
  task = task;
  output = output;
  signal = signal;
  there = subst (λ x. In task x) (sym e) (in-behind task (rows_from (Worker worker) rows) (task_from (Worker worker) (Worker worker) task)
      (rw (eq-eqb worker worker refl) (inl refl)));
}

-- the job that a signal tells is the newest told
told-now : (number : ℕ) (from : Sender) (seq : ℕ) (task : TaskView) (s : State) (rows : List Row) (row : Row) (signal : Signal) → task.signal ≡ signal
    → is_next s from seq signal ≡ true
    → ((worker : ℕ) → rows_from (Worker worker) (row ∷ rows) ≡ rows_from (Worker worker) rows ++ task_from (Worker worker) from task)
    → (done : List ℕ) → (is_done number done ≡ true → WasTold number rows) → is_done number (done_by signal done) ≡ true → WasTold number (row ∷ rows)
told-now number from seq task s rows row (AsyncDone n output) e next rows-are done before is =
    let by = sent-by-worker from n output (and-last _ (may_send from (AsyncDone n output)) next) in
    elim (n == number) as (λ b. (n == number) ≡ b → (b || is_done number done) ≡ true → WasTold number (row ∷ rows)) [
      | true ↦ λ same. λ _. now by.0 number output task rows row (e ∙ ap (λ m. AsyncDone m output) (eqb-true n number same))
          (subst (λ x. rows_from (Worker by.0) (row ∷ rows) ≡ rows_from (Worker by.0) rows ++ task_from (Worker by.0) x task) by.1 (rows-are by.0))
      | false ↦ λ other. λ i. later number from task rows row rows-are (before i)
    ] refl is
told-now number from seq task s rows row signal e next rows-are done before is = later number from task rows row rows-are (before is)

was-told : (number : ℕ) (port : Opening) (rows : List Row) → IsLawful port rows → is_done number (state port rows).done ≡ true → WasTold number rows
was-told number port [] lawful is = absurd cc
was-told number port (Handled from seq task outside effects ∷ rows) lawful is =
    told-now number from seq task (state port rows) rows (Handled from seq task outside effects) task.signal refl lawful.0.order (λ worker. refl)
    (state port rows).done (was-told number port rows lawful.1) is
was-told number port (Late from seq task ∷ rows) lawful is =
    told-now number from seq task (state port rows) rows (Late from seq task) task.signal refl lawful.0.order (λ worker. refl)
    (state port rows).done (was-told number port rows lawful.1) is
was-told number port (Listed from seq ∷ rows) lawful is = let w = was-told number port rows lawful.1 is in record { worker = w.worker; task = w.task; output = w.output; signal = w.signal; there = w.there }
was-told number port (Resumed from seq word ∷ rows) lawful is = let w = was-told number port rows lawful.1 is in record { worker = w.worker; task = w.task; output = w.output; signal = w.signal; there = w.there }
was-told number port (Mark kind ∷ rows) lawful is = let w = was-told number port rows lawful.1 is in record { worker = w.worker; task = w.task; output = w.output; signal = w.signal; there = w.there }

-- the job of a task that is among those told
record JobOf (task : TaskView) (jobs : List Submitted) : Type 0 where
  pub job : Submitted
  pub there : In job jobs
  pub tells : task ≡ told_task job

job-of : (task : TaskView) (jobs : List Submitted) → In task (map told_task jobs) → JobOf task jobs
job-of task [] i = absurd i
job-of task (job ∷ jobs) (inl same) = record { job = job; there = inl refl; tells = same }
job-of task (job ∷ jobs) (inr i) = let j = job-of task jobs i in record { job = j.job; there = inr j.there; tells = j.tells }

numbers-are : (a b : ℕ) (c d : List ℕ) → AsyncDone a c ≡ AsyncDone b d → a ≡ b
numbers-are a b c d e = cc

not-in-none : {X : Type 0} (x : X) (xs : List X) → xs ≡ [] → In x xs → ⊥
not-in-none x xs e i = subst (λ ys. In x ys) e i

-- a job that was told before is one of those that its worker told first
record ToldBefore (workers number : ℕ) (all : List Submitted) (port : Opening) (rows : List Row) (t : Telling workers all port rows) : Type 0 where
  pub worker : ℕ
  pub below : worker < workers
  pub job : Submitted
  pub number_is : job.number ≡ number
  pub there : In job (t.told worker below).first

told-before : (workers number : ℕ) (all : List Submitted) (port : Opening) (rows : List Row) (t : Telling workers all port rows) → IsLawful port rows
    → is_done number (state port rows).done ≡ true → ToldBefore workers number all port rows t
told-before workers number all port rows t lawful is = within (was-told number port rows lawful is) where
  at : (w : WasTold number rows) (lt : w.worker < workers) → ToldBefore workers number all port rows t
  at w lt =
      let first = t.told w.worker lt in
      let j = job-of w.task first.first (subst (λ x. In w.task x) first.tells w.there) in
      let signals : AsyncDone number w.output ≡ AsyncDone j.job.number (work_of j.job.code j.job.input) = sym w.signal ∙ ap (λ x. x.signal) j.tells in
      record { worker = w.worker; below = lt; job = j.job; number_is = sym (numbers-are number j.job.number w.output (work_of j.job.code j.job.input) signals); there = j.there }

  within : WasTold number rows → ToldBefore workers number all port rows t
  within w = elim (cases_order w.worker workers) [
    | inl same ↦ absurd (not-in-none w.task (rows_from (Worker w.worker) rows) (t.others w.worker (omega (arith, same))) w.there)
    | inr (inl less) ↦ at w less
    | inr (inr more) ↦ absurd (not-in-none w.task (rows_from (Worker w.worker) rows) (t.others w.worker (omega (arith, more))) w.there)
  ]

-- the row that is next tells the next job of its worker
record TellsNext (worker workers number : ℕ) (output : List ℕ) (all : List Submitted) (told : List TaskView) : Type 0 where
  pub front : List Submitted
  pub job : Submitted
  pub behind : List Submitted
  pub are : jobs_of_worker workers worker all ≡ front ++ job ∷ behind
  pub tells_front : map told_task front ≡ told
  pub number_is : job.number ≡ number
  pub output_is : work_of job.code job.input ≡ output

outputs-are : (a b : ℕ) (c d : List ℕ) → AsyncDone a c ≡ AsyncDone b d → c ≡ d
outputs-are a b c d e = cc

one-told : (jobs : List Submitted) (task : TaskView) → map told_task jobs ≡ task ∷ [] → (job : Submitted) × (jobs ≡ job ∷ []) × (told_task job ≡ task)
one-told [] task e = absurd cc
one-told (job ∷ []) task e = (job, refl, cc)
one-told (job ∷ other ∷ jobs) task e = absurd cc

tells-next : (worker workers number : ℕ) (output : List ℕ) (all : List Submitted) (told : List TaskView) (task : TaskView) → task.signal ≡ AsyncDone number output
    → TellsFirst (jobs_of_worker workers worker all) (told ++ task ∷ []) → TellsNext worker workers number output all told
tells-next worker workers number output all told task signal t =
    let c = cut t.first told (task ∷ []) (sym t.tells) in
    let one = one-told c.rest task c.tells_behind in
    let signals : AsyncDone number output ≡ AsyncDone one.0.number (work_of one.0.code one.0.input) = sym signal ∙ ap (λ x. x.signal) (sym one.2) in
    record {
      front = c.first;
      job = one.0;
      behind = t.rest;
      are = t.are ∙ (ap (λ x. x ++ t.rest) (c.are ∙ ap (λ x. c.first ++ x) one.1) ∙ append_assoc c.first (one.0 ∷ []) t.rest);
      tells_front = c.tells_front;
      number_is = sym (numbers-are number one.0.number output (work_of one.0.code one.0.input) signals);
      output_is = sym (outputs-are number one.0.number output (work_of one.0.code one.0.input) signals);
    }

not-true : (b : Bool) → (b ≡ true → ⊥) → not b ≡ true
not-true b never = elim b as (λ x. b ≡ x → not x ≡ true) [
  | true ↦ λ yes. absurd (never yes)
  | false ↦ λ _. refl
] refl

each-of : (number : ℕ) (test : Submitted → Bool) (jobs : List Submitted) → ((job : Submitted) → In job jobs → job.number ≡ number → test job ≡ true) → each_of number test jobs ≡ true
each-of number test [] all = refl
each-of number test (job ∷ jobs) all = elim (job.number == number) as (λ b. (job.number == number) ≡ b → ((not b || test job) && each_of number test jobs) ≡ true) [
  | true ↦ λ same. rw (all job (inl refl) (eqb-true job.number number same)) (each-of number test jobs (λ other i e. all other (inr i) e))
  | false ↦ λ _. each-of number test jobs (λ other i e. all other (inr i) e)
] refl

all-of : (test : Submitted → Bool) (jobs : List Submitted) → ((job : Submitted) → In job jobs → test job ≡ true) → list_all test jobs ≡ true
all-of test [] all = refl
all-of test (job ∷ jobs) all = rw (all job (inl refl)) (all-of test jobs (λ other i. all other (inr i)))

same-itself : (bytes : List ℕ) → same_bytes bytes bytes ≡ true
same-itself [] = refl
same-itself (byte ∷ bytes) = rw (eq-eqb byte byte refl) (same-itself bytes)

same-prefix : (jobs first other more rest : List Submitted) → jobs ≡ first ++ rest → jobs ≡ other ++ more → map told_task first ≡ map told_task other → first ≡ other
same-prefix jobs [] [] more rest a b e = refl
same-prefix jobs [] (x ∷ other) more rest a b e = absurd cc
same-prefix jobs (x ∷ first) [] more rest a b e = absurd cc
same-prefix [] (x ∷ first) (y ∷ other) more rest a b e = absurd cc
same-prefix (job ∷ jobs) (x ∷ first) (y ∷ other) more rest a b e =
    let head : x ≡ y = cc in
    let ta : jobs ≡ first ++ rest = cc in
    let tb : jobs ≡ other ++ more = cc in
    let te : map told_task first ≡ map told_task other = cc in
    let tail = same-prefix jobs first other more rest ta tb te in
    cc

-- what is known where a row tells a job: the jobs are numbered, and what was told before
record Here (worker workers number : ℕ) (output : List ℕ) (all : List Submitted) (port : Opening) (older : List Row) : Type 0 where
  pub below : worker < workers
  pub rising : Rising all
  pub telling : Telling workers all port older
  pub next : TellsNext worker workers number output all (rows_from (Worker worker) older)
  pub lawful : IsLawful port older

key-of : (workers worker : ℕ) (job : Submitted) (all : List Submitted) → In job (jobs_of_worker workers worker all) → In job all × (job.key % workers ≡ worker)
key-of workers worker job all i =
    let h = in-filter (λ j. j.key % workers == worker) job all i in (h.0, eqb-true (job.key % workers) worker h.1)

-- a job that was told before has a smaller number than the one that is told, if it is of the same worker
earlier : (worker workers number told : ℕ) (output : List ℕ) (all : List Submitted) (port : Opening) (older : List Row)
    → (h : Here worker workers number output all port older) → (b : ToldBefore workers told all port older h.telling) → b.worker ≡ worker → told + 1 ≤ number
earlier worker workers number told output all port older h b same =
    let n = h.next in
    let first = h.telling.told worker h.below in
    let mine : In b.job first.first = moved b.worker b.below same b.there in
    let fronts : first.first ≡ n.front = same-prefix (jobs_of_worker workers worker all) first.first n.front (n.job ∷ n.behind) first.rest first.are n.are (sym first.tells ∙ sym n.tells_front) in
    let rises : Rising (n.front ++ n.job ∷ n.behind) = subst Rising n.are (rising-filter (λ j. j.key % workers == worker) all h.rising) in
    let less = less-in-front n.job b.job n.front n.behind rises (subst (λ x. In b.job x) fronts mine) in
    let a = b.number_is in let c = n.number_is in omega (arith, less, a, c)
  where
    moved : (w : ℕ) (lt : w < workers) → w ≡ worker → In b.job (h.telling.told w lt).first → In b.job (h.telling.told worker h.below).first
    moved w lt e i =
        let at = h.telling.told w lt in
        let here = h.telling.told worker h.below in
        let same-jobs : jobs_of_worker workers w all ≡ jobs_of_worker workers worker all = ap (λ x. jobs_of_worker workers x all) e in
        let same-rows : rows_from (Worker w) older ≡ rows_from (Worker worker) older = ap (λ x. rows_from (Worker x) older) e in
        let fronts : at.first ≡ here.first = same-prefix (jobs_of_worker workers worker all) at.first here.first here.rest at.rest (sym same-jobs ∙ at.are) here.are (sym at.tells ∙ (same-rows ∙ here.tells)) in
        subst (λ x. In b.job x) fronts i

next-in : (worker workers number : ℕ) (output : List ℕ) (all : List Submitted) (port : Opening) (older : List Row) (h : Here worker workers number output all port older)
    → In h.next.job all × (h.next.job.key % workers ≡ worker)
next-in worker workers number output all port older h =
    key-of workers worker h.next.job all (subst (λ x. In h.next.job x) (sym h.next.are) (in-behind h.next.job h.next.front (h.next.job ∷ h.next.behind) (inl refl)))

before-in : (workers told : ℕ) (all : List Submitted) (port : Opening) (older : List Row) (t : Telling workers all port older) (b : ToldBefore workers told all port older t)
    → In b.job all × (b.job.key % workers ≡ b.worker)
before-in workers told all port older t b =
    let first = t.told b.worker b.below in
    key-of workers b.worker b.job all (subst (λ x. In b.job x) (sym first.are) (in-front b.job first.first first.rest b.there))

-- the law of jobs where a row tells one
job-kept : (worker workers number : ℕ) (output : List ℕ) (all : List Submitted) (port : Opening) (older : List Row) (handled : Bool) → Here worker workers number output all port older
    → is_told_in_time (state port older) handled number ≡ true → is_told_right (state port older) handled (AsyncDone number output) ≡ true
job-kept worker workers number output all port older handled h in-time =
    rw (new, in-time, works, next-of-key) refl
  where
    job : Submitted
    job = h.next.job

    mine : In job all × (job.key % workers ≡ worker)
    mine = next-in worker workers number output all port older h

    known : (other : Submitted) → In other (state port older).jobs → In other all
    known other i = subst (λ x. In other x) (sym h.telling.jobs) (in-front other (state port older).jobs h.telling.more i)

    is-it : (other : Submitted) → In other (state port older).jobs → other.number ≡ number → other ≡ job
    is-it other i e = same-job other job all h.rising (known other i) mine.0 (e ∙ sym h.next.number_is)

    -- a job that was told before under a number is the job of that number
    the-one : (other : Submitted) (b : ToldBefore workers other.number all port older h.telling) → In other all → b.job ≡ other
    the-one other b i = same-job b.job other all h.rising (before-in workers other.number all port older h.telling b).0 i b.number_is

    of-worker : (other : Submitted) (b : ToldBefore workers other.number all port older h.telling) → In other all → other.key % workers ≡ worker → b.worker ≡ worker
    of-worker other b i key = sym (before-in workers other.number all port older h.telling b).1 ∙ (ap (λ x. x.key % workers) (the-one other b i) ∙ key)

    not-told : is_done number (state port older).done ≡ true → ⊥
    not-told is =
        let b = told-before workers number all port older h.telling h.lawful is in
        let at = before-in workers number all port older h.telling b in
        let same : b.job ≡ job = same-job b.job job all h.rising at.0 mine.0 (b.number_is ∙ sym h.next.number_is) in
        let worker-is : b.worker ≡ worker = sym at.1 ∙ (ap (λ x. x.key % workers) same ∙ mine.1) in
        let less = earlier worker workers number number output all port older h b worker-is in
        omega (arith, less)

    new : not (is_done number (state port older).done) ≡ true
    new = not-true (is_done number (state port older).done) not-told

    works : each_of number (is_work output) (state port older).jobs ≡ true
    works = each-of number (is_work output) (state port older).jobs (λ other i e.
        let same = is-it other i e in
        let out : work_of other.code other.input ≡ output = ap (λ x. work_of x.code x.input) same ∙ h.next.output_is in
        subst (λ x. same_bytes output x ≡ true) (sym out) (same-itself output))

    later-told : (other : Submitted) → In other (state port older).jobs → (other.key == job.key) ≡ true → nat_lt job.number other.number ≡ true
        → is_done other.number (state port older).done ≡ true → ⊥
    later-told other i key greater is =
        let b = told-before workers other.number all port older h.telling h.lawful is in
        let key-is : other.key % workers ≡ worker = ap (λ x. x % workers) (eqb-true other.key job.key key) ∙ mine.1 in
        let less = earlier worker workers number other.number output all port older h b (of-worker other b (known other i) key-is) in
        let more = ltb-true job.number other.number greater in
        let at = h.next.number_is in omega (arith, less, more, at)

    next-for : (jobs : List Submitted) → ((other : Submitted) → In other jobs → In other (state port older).jobs) → is_next_of_key jobs (state port older).done job ≡ true
    next-for jobs within = all-of _ jobs (λ other i. not-true _ (λ e.
        let same-key-and-later : (other.key == job.key && nat_lt job.number other.number) ≡ true
        = and-first (other.key == job.key && nat_lt job.number other.number) (is_done other.number (state port older).done) e in
        later-told other (within other i) (and-first (other.key == job.key) (nat_lt job.number other.number) same-key-and-later)
        (and-last (other.key == job.key) (nat_lt job.number other.number) same-key-and-later)
        (and-last (other.key == job.key && nat_lt job.number other.number) (is_done other.number (state port older).done) e)))

    next-of-key : each_of number (is_next_of_key (state port older).jobs (state port older).done) (state port older).jobs ≡ true
    next-of-key = each-of number _ (state port older).jobs (λ other i e.
        subst (λ x. is_next_of_key (state port older).jobs (state port older).done x ≡ true) (sym (is-it other i e)) (next-for (state port older).jobs (λ x j. j)))

-- the law of jobs at a row that tells of a task
signal-kept : (workers : ℕ) (all : List Submitted) (port : Opening) (older : List Row) (from : Sender) (seq : ℕ) (task : TaskView) (handled : Bool) (signal : Signal) → task.signal ≡ signal
    → Rising all → IsLawful port older → Telling workers all port older → is_next (state port older) from seq signal ≡ true → is_told_in (state port older) handled signal ≡ true
    → ((worker : ℕ) → worker < workers → TellsFirst (jobs_of_worker workers worker all) (rows_from (Worker worker) older ++ task_from (Worker worker) from task))
    → ((worker : ℕ) → workers ≤ worker → rows_from (Worker worker) older ++ task_from (Worker worker) from task ≡ [])
    → is_told_right (state port older) handled signal ≡ true
signal-kept workers all port older from seq task handled (AsyncDone number output) e rising lawful telling next in-time told others =
    at (sent-by-worker from number output (and-last _ (may_send from (AsyncDone number output)) next))
  where
    own : (worker : ℕ) → from ≡ Worker worker → task_from (Worker worker) from task ≡ task ∷ []
    own worker is = subst (λ x. task_from (Worker worker) x task ≡ task ∷ []) (sym is) (rw (eq-eqb worker worker refl) refl)

    tells : (worker : ℕ) → from ≡ Worker worker → worker < workers → is_told_right (state port older) handled (AsyncDone number output) ≡ true
    tells worker is lt = job-kept worker workers number output all port older handled (record {
      below = lt;
      rising = rising;
      telling = telling;
      next = tells-next worker workers number output all (rows_from (Worker worker) older) task e
          (subst (λ x. TellsFirst (jobs_of_worker workers worker all) (rows_from (Worker worker) older ++ x)) (own worker is) (told worker lt));
      lawful = lawful;
    }) in-time

    none : (worker : ℕ) → from ≡ Worker worker → workers ≤ worker → ⊥
    none worker is le = not-in-none task (rows_from (Worker worker) older ++ task_from (Worker worker) from task) (others worker le)
        (in-behind task (rows_from (Worker worker) older) (task_from (Worker worker) from task) (subst (λ x. In task x) (sym (own worker is)) (inl refl)))

    at : (worker : ℕ) × (from ≡ Worker worker) → is_told_right (state port older) handled (AsyncDone number output) ≡ true
    at w = elim (cases_order w.0 workers) [
      | inl same ↦ absurd (none w.0 w.1 (omega (arith, same)))
      | inr (inl less) ↦ tells w.0 w.1 less
      | inr (inr more) ↦ absurd (none w.0 w.1 (omega (arith, more)))
    ]
signal-kept workers all port older from seq task handled signal e rising lawful telling next in-time told others = refl

row-kept : (workers : ℕ) (all : List Submitted) (port : Opening) (row : Row) (older : List Row) → Rising all → IsLawful port (row ∷ older) → Telling workers all port (row ∷ older)
    → Telling workers all port older → keeps_jobs (state port older) row ≡ true
row-kept workers all port (Handled from seq task outside effects) older rising lawful t before =
    signal-kept workers all port older from seq task true task.signal refl rising lawful.1 before lawful.0.order lawful.0.jobs t.told t.others
row-kept workers all port (Late from seq task) older rising lawful t before =
    signal-kept workers all port older from seq task false task.signal refl rising lawful.1 before lawful.0.order lawful.0.jobs t.told t.others
row-kept workers all port (Listed from seq) older rising lawful t before = refl
row-kept workers all port (Resumed from seq word) older rising lawful t before = refl
row-kept workers all port (Mark kind) older rising lawful t before = refl

all-kept : (workers : ℕ) (all : List Submitted) (port : Opening) (history : List Row) → Rising all → IsLawful port history → Telling workers all port history → Lawful port history
all-kept workers all port [] rising lawful t = tt
all-kept workers all port (row ∷ older) rising lawful t =
    let before = back workers all port row older t in
    let l = lawful.0 in (
      record {
        order = l.order;
        lifetime = l.lifetime;
        busy = l.busy;
        effects = l.effects;
        marks = l.marks;
        listed = l.listed;
        resumed = l.resumed;
        ready = l.ready;
        jobs = row-kept workers all port row older rising lawful t before;
      },
      all-kept workers all port older rising lawful.1 before,
    )

append-nil : (jobs : List Submitted) → jobs ≡ jobs ++ []
append-nil [] = refl
append-nil (job ∷ jobs) = ap (λ x. job ∷ x) (append-nil jobs)

pub told-in-order : JobsToldInOrder
told-in-order workers port history lawful tell =
    all-kept workers (state port history).jobs port history (rising-numbered 0 (state port history).jobs tell.numbered) lawful (record {
      more = [];
      jobs = append-nil (state port history).jobs;
      told = tell.told;
      others = tell.others;
    })
