-- A body may cross threads where its driver may. A crate that hands bodies to threads answers its goals on that by `body_send`.
use denote.RattleType.{RattleType}
use denote.Param.Send.{IsSend, view_send, sendable}
use denote.Param.SendFields.{declared_send}
use Rattle.std.proofs.Crossing.{crosses}
use Rattle.task_queue.proofs.Sent.{ends_cross}
use Rattle.port_jobs.proofs.Sent.{port_jobs_send}
use Rattle.port_model.specs.contracts.mail.Mail as mail
use Rattle.port_model.proofs.mail.Mail.TheSendSync as mail_sent
use Rattle.port_model.specs.contracts.row.Row as row
use Rattle.port_model.proofs.row.Row.TheSendSync as row_sent
use Rattle.ready_select.specs.contracts.ask.PollAsk as ask
use Rattle.ready_select.proofs.ask.PollAsk.TheSendSync as ask_sent
use Rattle.port_lanes.specs.contracts.parcel.Parcel as parcel
use Rattle.port_lanes.proofs.parcel.Parcel.TheSendSync as parcel_sent
use Rattle.port_words.specs.contracts.busy.port.PortSeat as seat
use Rattle.port_words.proofs.busy.port.PortSeat.TheSendSync as seat_sent
use Rattle.port_driver.specs.declared.driver.Driver as drivers
use Rattle.port_state.proofs.state.PortState.TheSendSync as state_sent
use Rattle.port_events.specs.contracts.port_events.PortEvents as events
use Rattle.port_events.specs.contracts.port_events.PortEvents.TheInside as events_inside
use Rattle.port_events.proofs.used_events.UsedEvents.TheSendSync as used_sent
use Rattle.port_state.specs.port_mail.contracts.mailboxes.Mailboxes as mailboxes
use Rattle.port_state.specs.port_mail.contracts.mailboxes.Mailboxes.TheInside as mailboxes_inside
use Rattle.port_suspension.specs.contracts.suspension.Suspension as suspension
use Rattle.port_suspension.proofs.suspension.Suspension.TheSendSync as suspension_sent
use Rattle.waiting_parcels.specs.contracts.list.WaitingList as waiting
use Rattle.waiting_parcels.proofs.list.WaitingList.TheSendSync as waiting_sent
use Rattle.recorded_port.specs.served_port.contracts.served_port.ServedPort as served
use Rattle.recorded_port.specs.served_port.contracts.served_port.ServedPort.TheInside as served_inside
use Rattle.recorded_port.specs.contracts.fixed.Fixed as fixed
use Rattle.recorded_port.proofs.fixed.Fixed.TheSendSync as fixed_sent
use Rattle.recorded_port.specs.contracts.recorded_port.RecordedPort as recorded
use Rattle.recorded_port.specs.contracts.recorded_port.RecordedPort.TheInside as recorded_inside
use Rattle.port_body.specs.contracts.lane_port.LanePort as lane_port
use Rattle.port_body.specs.contracts.lane_port.LanePort.TheInside as lane_port_inside
use Rattle.port_body.specs.contracts.body.Body as bodies
use Rattle.port_body.specs.contracts.body.Body.TheInside as bodies_inside

mail_send : IsSend mail.the_row
mail_send = mail_sent.the_send

row_send : IsSend row.the_row
row_send = row_sent.the_send

ask_send : IsSend ask.the_row
ask_send = ask_sent.the_send

parcel_send : IsSend parcel.the_row
parcel_send = parcel_sent.the_send

seat_send : IsSend seat.the_row
seat_send = seat_sent.the_send

events_send : IsSend events.the_row
events_send =
    view_send _ _ _ _ _ (declared_send events_inside.the_type (search sendable depth 20, (used_sent.the_send, (search (ends_cross, ask_send) depth 20, tt))))

mailboxes_send : IsSend mailboxes.the_row
mailboxes_send = view_send _ _ _ _ _ (declared_send mailboxes_inside.the_type (search (ends_cross, mail_send) depth 20, tt))

suspension_send : IsSend suspension.the_row
suspension_send = suspension_sent.the_send

waiting_send : IsSend waiting.the_row
waiting_send = waiting_sent.the_send

fixed_send : IsSend fixed.the_row
fixed_send = fixed_sent.the_send

module _ (D : RattleType) (F : drivers.Ghosts D.Denot) (t : IsSend D) where
  served_send : IsSend (served.the_row D F)
  served_send = view_send _ _ _ _ _ (declared_send (served_inside.the_type D F) (state_sent.the_send D F t, (events_send, (port_jobs_send, tt))))

  recorded_send : IsSend (recorded.the_row D F)
  recorded_send = view_send _ _ _ _ _ (declared_send (recorded_inside.the_type D F)
      (fixed_send, (served_send, (mailboxes_send, (seat_send, (suspension_send, (search (crosses, sendable, row_send) depth 20, tt)))))))

  lane_port_send : IsSend (lane_port.the_row D F)
  lane_port_send = view_send _ _ _ _ _ (declared_send (lane_port_inside.the_type D F)
      (recorded_send, (search (ends_cross, parcel_send) depth 20, (waiting_send, (search sendable depth 20, (search sendable depth 20, tt))))))

  pub body_send : IsSend (bodies.the_row D F)
  body_send = view_send _ _ _ _ _ (declared_send (bodies_inside.the_type D F)
      (search sendable depth 20, (lane_port_send, (search sendable depth 20, (search sendable depth 20, (search (crosses, sendable) depth 20, tt))))))
