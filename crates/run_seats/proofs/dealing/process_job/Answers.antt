use Rattle.std.proofs.Common.{sym, subst}
use Rattle.threaded_jobs.specs.process_job.Jobs.{AreWithin}
use Rattle.run_seats.proofs.dealing.process_job.Goals as goal

pub new-requires-clause-within : goal.new-requires-clause-within
new-requires-clause-within g c =
    let ready = c.requires.plan.1 in
    (ready.processes, ready.among, subst (λ n. AreWithin ready.processes n c.args.plan.own_steps.steps.items) (sym ready.many) ready.within)
