use denote.Exit.{no}
use denote.Param.Send.{param_send, arg_send}
use Rattle.threaded_jobs.proofs.Sent.{run_job_send}
use Rattle.threaded_jobs.proofs.beside.run_jobs_beside.Goals as goal

pub run-requires-send-K : goal.run-requires-send-K
run-requires-send-K g c κs within = param_send 2 _ (arg_send _ no _ (run_job_send _ _ g.B.PortBody c.type_bounds.send-B c.type_bounds.send-S))
