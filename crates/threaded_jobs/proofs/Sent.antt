-- The jobs of a run may cross threads, where the bodies of ports and the poll set may.
use denote.RattleType.{RattleType}
use denote.Param.Send.{IsSend, sendable}
use denote.Param.SendFields.{variants_send}
use Rattle.port_sched.specs.declared.body.PortBody.{Ghosts}
use Rattle.process_job.proofs.Sent.{job_send}
use Rattle.run_jobs.proofs.Sent.{worker_send, poller_send, finish_send}
use Rattle.threaded_jobs.specs.contracts.kinds.RunJob as kinds

pub run_job_send : (B S : RattleType) (F : Ghosts B.Denot) → IsSend B → IsSend S → IsSend (kinds.the_row B S F)
run_job_send B S F t u = search (sendable, job_send B F t, worker_send B F t, poller_send B S F t u, finish_send, variants_send) depth 20
