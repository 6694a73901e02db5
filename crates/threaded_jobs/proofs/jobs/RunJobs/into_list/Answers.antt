use Rattle.std.proofs.Common.{[], ◌∷◌, ◌++◌, sym, ap, ◌∙◌, subst, append_assoc}
use Rattle.std.specs.List.{All}
use Rattle.threaded_jobs.specs.declared.kinds.RunJob.TheVariants as job
use Rattle.threaded_jobs.specs.Kinds.{CanGo}
use Rattle.threaded_jobs.proofs.Moves.{moved_all}
use Rattle.threaded_jobs.proofs.Apart.{all_can}
use Rattle.threaded_jobs.proofs.jobs.RunJobs.into_list.Goals as goal

pub returns-clause-can : goal.returns-clause-can
returns-clause-can g c = λ can.
    let jobs = c.args.self in
    let inv = c.workers.invariant in
    let none = sym inv.1 ∙ c.in-None-worker.ensures.steps.0 in
    let two = moved_all job.Worker c.workers.all.items _ c.workers.worker-iterator.rest.items none inv.0 in
    let whole =
    c.add-3.ensures.items ∙ ap (λ l. l ++ job.Finish jobs.finish ∷ []) c.add-2.ensures.items ∙ append_assoc c.workers.all.items (job.Poller jobs.poller ∷ []) (job.Finish jobs.finish ∷ [])
    ∙ ap (λ l. l ++ job.Poller jobs.poller ∷ job.Finish jobs.finish ∷ []) two in
    subst (All CanGo) (sym whole) (all_can jobs can)
