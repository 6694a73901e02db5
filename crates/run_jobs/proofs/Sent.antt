-- Workers and the poller may cross threads, where the bodies of ports and the poll set may, and so may the job that tells of the end.
use denote.RattleType.{RattleType}
use denote.Param.Send.{IsSend, sendable}
use denote.Struct.Field.{row_field}
use denote.Param.SendFields.{as_row_send, declared_send}
use Rattle.std.proofs.Crossing.{crosses}
use Rattle.task_queue.proofs.Sent.{ends_cross}
use Rattle.async_jobs.proofs.Sent.{jobs_cross}
use Rattle.process_end.proofs.Sent.{processes_cross}
use Rattle.port_words.proofs.over.word.OverSeat.TheSendSync as over_sent
use Rattle.port_sched.specs.declared.body.PortBody.{Ghosts}
use Rattle.port_sched.specs.contracts.waking.JobSeats as seats
use Rattle.port_sched.proofs.waking.JobSeats.TheSendSync as seats_sent
use Rattle.run_jobs.specs.contracts.finish.FinishJob as finish
use Rattle.run_jobs.specs.contracts.watch.Watch as watch
use Rattle.run_jobs.specs.contracts.worker.WorkerJob as worker
use Rattle.run_jobs.specs.contracts.poller.PollerJob as poller

seats_send : (B : RattleType) (F : Ghosts B.Denot) → IsSend B → IsSend (seats.the_row B F)
seats_send B F t = seats_sent.the_send B F t

pub worker_send : (B : RattleType) (F : Ghosts B.Denot) → IsSend B → IsSend (worker.the_row B F)
worker_send B F t = declared_send (worker.the_type B F) (
  search sendable depth 20,
  (
    seats_send B F t,
    (
      over_sent.the_send,
      (
        search jobs_cross depth 20,
        (
          search (processes_cross, crosses, sendable) depth 20,
          (search (sendable, crosses) depth 20, tt),
        ),
      ),
    ),
  ),
)

watch_send : (S : RattleType) → IsSend S → IsSend (watch.the_row S)
watch_send S t = declared_send (watch.the_type S) (as_row_send (row_field S) t, (search (crosses, sendable) depth 20, (search ends_cross depth 20, tt)))

pub poller_send : (B S : RattleType) (F : Ghosts B.Denot) → IsSend B → IsSend S → IsSend (poller.the_row B S F)
poller_send B S F t u = declared_send (poller.the_type B S F) (
  search sendable depth 20,
  (
    seats_send B F t,
    (
      over_sent.the_send,
      (
        watch_send S u,
        (
          search (processes_cross, crosses, sendable) depth 20,
          (search (sendable, crosses) depth 20, tt),
        ),
      ),
    ),
  ),
)

pub finish_send : IsSend finish.the_row
finish_send = declared_send finish.the_type (
  over_sent.the_send,
  (search ends_cross depth 20, (search (jobs_cross, ends_cross, crosses) depth 20, (search (sendable, crosses) depth 20, tt))),
)
