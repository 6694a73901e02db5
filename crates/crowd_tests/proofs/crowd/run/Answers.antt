use denote.Param.{param}
use denote.Param.Send.{IsSend, IsSync, sendable}
use denote.Param.SendFields.{declared_send}
use Rattle.std.proofs.Crossing.{crosses}
use Rattle.port_words.specs.contracts.busy.port.PortSeat as port_seat
use Rattle.port_words.proofs.busy.port.PortSeat.TheSendSync as port_seat_sent
use Rattle.process_end.proofs.Sent.{processes_cross}
use Rattle.crowd_tests.specs.contracts.rig.CrowdPort as port
use Rattle.crowd_tests.specs.contracts.taking.Taker as taker
use Rattle.crowd_tests.specs.contracts.crowd.run.{R-row}
use Rattle.crowd_tests.proofs.crowd.run.Given.{Over}
use Rattle.crowd_tests.proofs.crowd.run.Lts as lts
use Rattle.crowd_tests.proofs.crowd.run.Goals as goal

port_seat_send : IsSend port_seat.the_row
port_seat_send = port_seat_sent.the_send

port_send : IsSend port.the_row
port_send = search (processes_cross, port_seat_send) depth 20

taker_send : IsSend taker.the_row
taker_send = declared_send taker.the_type (
  port_send,
  (
    search processes_cross depth 20,
    (
      search (crosses, sendable) depth 20,
      (search sendable depth 20, tt),
    ),
  ),
)

first_sent : (g : Over) (κs : _) → IsSync (R-row g.row.R) → IsSend (param 1 (lts.arg-0-1 g.row.R g.R.laws g.R.Threads-dict g.R.Wait-dict κs))
first_sent g κs sync = search (sendable, crosses, taker_send) depth 20

pub join-requires-send-F : goal.join-requires-send-F
join-requires-send-F g c κs within = first_sent g κs c.type_bounds.sync-R

pub join-requires-send-A : goal.join-requires-send-A
join-requires-send-A g c κs within = search (sendable, crosses, taker_send) depth 20
