-- The ports and the jobs may cross threads.
use denote.Param.Send.{IsSend, sendable}
use denote.Param.SendFields.{declared_send}
use Rattle.task_queue.proofs.Sent.{ends_cross}
use Rattle.port_words.proofs.over.word.OverSeat.TheSendSync as over_sent
use Rattle.port_sched.proofs.waking.JobSeats.TheSendSync as seats_sent
use Rattle.port_sched.specs.contracts.waking.JobSeats as seats
use Rattle.sched_load.specs.contracts.till.TillPortBody.TheImpl as bodies
use Rattle.sched_load.specs.contracts.till.Till as till
use Rattle.sched_load.specs.contracts.putter.Putter as putter

pub till_send : IsSend till.the_row
till_send = search ends_cross depth 20

seats_send : IsSend (seats.the_row till.the_row bodies.ghosts)
seats_send = seats_sent.the_send till.the_row bodies.ghosts till_send

pub putter_send : IsSend putter.the_row
putter_send = declared_send putter.the_type (search (sendable, seats_send) depth 20, (search ends_cross depth 20, (search (ends_cross, over_sent.the_send) depth 20, (search sendable depth 20, (search sendable depth 20, tt)))))

pub ruleset load_crosses = (ends_cross, till_send, putter_send)
