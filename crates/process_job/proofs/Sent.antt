-- The job of a process may cross threads where the bodies of its ports may. A crate that hands such jobs to threads answers its goals on that by `job_send`.
use denote.RattleType.{RattleType}
use denote.Param.Send.{IsSend, sendable}
use denote.Param.SendFields.{declared_send, variants_send}
use Rattle.std.proofs.Crossing.{crosses}
use Rattle.port_words.proofs.over.word.OverSeat.TheSendSync as over_sent
use Rattle.port_sched.specs.declared.body.PortBody as bodies
use Rattle.port_sched.specs.contracts.waking.JobSeats as ports
use Rattle.port_sched.proofs.waking.JobSeats.TheSendSync as ports_sent
use Rattle.process_end.proofs.Sent.{processes_cross}
use Rattle.io_vector.specs.contracts.piece.Piece as piece
use Rattle.io_vector.proofs.piece.Piece.TheSendSync as piece_sent
use Rattle.script_plan.specs.contracts.step.Step as step
use Rattle.script_plan.proofs.step.Step.TheSendSync as step_sent
use Rattle.process_job.specs.contracts.seats.ProcessSeats as seats
use Rattle.process_job.specs.contracts.job.ProcessWork as work
use Rattle.process_job.specs.contracts.job.EndedProcess as ended
use Rattle.process_job.specs.contracts.job.ProcessEnd as ends
use Rattle.process_job.specs.contracts.job.ProcessJob as job

piece_send : IsSend piece.the_row
piece_send = piece_sent.the_send

step_send : IsSend step.the_row
step_send = step_sent.the_send

work_send : IsSend work.the_row
work_send = declared_send work.the_type (
  search sendable depth 20,
  (
    search processes_cross depth 20,
    (
      search (crosses, sendable, step_send) depth 20,
      (search (crosses, sendable, piece_send) depth 20, tt),
    ),
  ),
)

ended_send : IsSend ended.the_row
ended_send = declared_send ended.the_type (search processes_cross depth 20, (search (crosses, sendable, processes_cross) depth 20, tt))

end_send : IsSend ends.the_row
end_send = search (sendable, ended_send, variants_send) depth 20

module _ (B : RattleType) (G : bodies.Ghosts B.Denot) (t : IsSend B) where
  seats_send : IsSend (seats.the_row B G)
  seats_send = declared_send (seats.the_type B G) (ports_sent.the_send B G t, (search (sendable, over_sent.the_send) depth 20, tt))

  pub job_send : IsSend (job.the_row B G)
  job_send = declared_send (job.the_type B G) (
    seats_send,
    (search (crosses, sendable, work_send) depth 20, (search (crosses, sendable, end_send) depth 20, tt)),
  )
