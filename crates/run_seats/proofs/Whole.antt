-- A seated run once all its jobs have run.
use Rattle.std.proofs.Common.{◌≡◌, ◌<◌, ◌+◌, ◌++◌, ℕ, List, [], ◌∷◌, Option, Some, None, IsSome, IsSomeAnd, IfSome, length, map, take, drop, get_or, refl, sym, ap, ◌∙◌, subst, arith}
use Rattle.std.proofs.lemmas.List.{append-nil, drop_all, take_all, length-map, length-append}
use Rattle.std.proofs.lemmas.Option.{slice_get-get_or}
use Rattle.port_sched.specs.declared.body.PortBody.{Ghosts}
use Rattle.port_sched.specs.Jobs.{WentEach}
use Rattle.threaded_jobs.specs.process_job.declared.job.ProcessEnd.{ProcessEnd}
use Rattle.threaded_jobs.specs.process_job.declared.job.ProcessJob.{ProcessJob}
use Rattle.threaded_jobs.specs.process_job.declared.job.ProcessWork.{ProcessWork}
use Rattle.threaded_jobs.specs.process_job.Jobs.{CanMakeSteps, CanRun, EndsAs, HasRun}
use Rattle.port_words.specs.over.Over.{OverKnown}
use Rattle.port_words.specs.declared.home.homes.Ticket.{Ticket}
use Rattle.run_jobs.specs.declared.worker.WorkerJob.{WorkerJob}
use Rattle.run_jobs.specs.Working.{HasWorked}
use Rattle.threaded_jobs.specs.declared.jobs.RunJobs.{RunJobs}
use Rattle.threaded_jobs.specs.Jobs.{CanAllGo, HaveRun}
use Rattle.threaded_jobs.specs.Parts.{HaveEnded, seats_of}

-- a slice that was lent is whole
pub whole : {A : Type 0} (old new : List A) (len : ℕ) → len ≡ length old → length new ≡ length old → take len (new ++ drop (length new) old) ≡ new
whole old new len is same =
    let none : drop (length new) old ≡ [] = drop_all (length new) old (omega (arith, same)) in
    ap (λ l. take len (new ++ l)) none ∙ ap (take len) (append-nil new) ∙ take_all len new (omega (arith, is, same))

-- each of these was of one before it
pub was-of : {A : Type 0} (went : A → A → Type 0) (old new : List A) (n : ℕ) (d : A) → WentEach went old new → n < length new → went (get_or old n d) (get_or new n d)
was-of went old new n d each below =
    let c = each.count in
    each.each n (get_or old n d) (get_or new n d) (slice_get-get_or old n d (omega (arith, c, below))) (slice_get-get_or new n d below)

some-end : (work : ProcessWork) (kept : List Ticket) (old new : OverKnown) (end : Option ProcessEnd) → EndsAs work kept old new end → IsSome end
some-end work kept old new None ends = absurd ends
some-end work kept old new (Some end) ends = refl

module _ {B : Type 0} {g : Ghosts B} where
  process-ended : (old new : ProcessJob B g) → CanRun old → HasRun old new → IsSome new.end
  process-ended old new can ran = of-work old.work can.work ran.ends
    where
      of-work : (work : Option ProcessWork) → IsSomeAnd work (CanMakeSteps (length old.seats.ports.homes.items)) → IfSome work (λ w. EndsAs w ran.kept old.seats.over new.seats.over new.end) → IsSome new.end
      of-work None can ends = absurd can
      of-work (Some w) can ends = some-end w ran.kept old.seats.over new.seats.over new.end ends

module _ {B S : Type 0} {g : Ghosts B} where
  pub have-ended : (faults : S → ℕ) (answered : S → List ℕ) (old new : RunJobs B S g) → CanAllGo old → HaveRun faults answered old new → HaveEnded new
  have-ended faults answered old new can went = record {
    processes = λ n d below.
        let c = went.processes.count in
        process-ended (get_or old.processes.items n d) (get_or new.processes.items n d) (can.processes n d (omega (arith, c, below))) (was-of HasRun old.processes.items new.processes.items n d went.processes below);
    workers = λ n d below.
        let worked = was-of HasWorked old.workers.items new.workers.items n d went.workers below in
        subst IsSome (sym worked.end_is) refl;
    poller = subst IsSome (sym went.poller.end_is) refl;
    finish = subst IsSome (sym went.finish.end_is) refl;
  }

  -- how many seats the jobs have
  pub many-seats : (r : RunJobs B S g) → length (seats_of r) ≡ length r.processes.items + length r.workers.items + 1
  many-seats r =
      let processes = length-map r.processes.items (λ p. p.seats.ports) in
      let workers = length-map r.workers.items (λ w. w.seats) in
      let both = length-append (map (λ (p : ProcessJob B g). p.seats.ports) r.processes.items) (map (λ (w : WorkerJob B g). w.seats) r.workers.items) in
      let all = length-append (map (λ (p : ProcessJob B g). p.seats.ports) r.processes.items ++ map (λ (w : WorkerJob B g). w.seats) r.workers.items) (r.poller.seats ∷ []) in
      omega (arith, processes, workers, both, all)

-- names of what stands in others
pub names-in : {X Y N : Type 0} (name : Y → N) (inner : X → Y) (xs : List X) → map (λ x. name (inner x)) xs ≡ map name (map inner xs)
names-in name inner [] = refl
names-in name inner (x ∷ xs) = ap (λ l. name (inner x) ∷ l) (names-in name inner xs)
