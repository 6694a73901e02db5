use Rattle.port_jobs.proofs.jobs.PortJobs.note_done.Goals as goal

pub returns-in-AsyncDone-clause-ok : goal.returns-in-AsyncDone-clause-ok
returns-in-AsyncDone-clause-ok c = rw c.in-AsyncDone.is c.note_number.ensures.ok
