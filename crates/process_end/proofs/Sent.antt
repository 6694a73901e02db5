-- A process may cross threads, with its ports, suspended or ended too. A crate that hands processes to threads answers its goals on that by
-- `search processes_cross depth 20`.
use denote.Param.Send.{IsSend, view_send, sendable}
use denote.Param.SendFields.{declared_send}
use Rattle.std.proofs.Crossing.{crosses}
use Rattle.task_queue.proofs.Sent.{ends_cross}
use Rattle.port_model.specs.contracts.mail.Mail as mail
use Rattle.port_model.proofs.mail.Mail.TheSendSync as mail_sent
use Rattle.port_lanes.specs.contracts.parcel.Parcel as parcel
use Rattle.port_lanes.proofs.parcel.Parcel.TheSendSync as parcel_sent
use Rattle.port_words.specs.contracts.busy.send.SendSeat as seat
use Rattle.port_words.proofs.busy.send.SendSeat.TheSendSync as seat_sent
use Rattle.process_receipts.specs.contracts.receipt.Receipt as receipt
use Rattle.process_receipts.proofs.receipt.Receipt.TheSendSync as receipt_sent
use Rattle.suspend_list.specs.contracts.note.StopNote as note
use Rattle.suspend_list.proofs.note.StopNote.TheSendSync as note_sent
use Rattle.process_end.specs.contracts.answers.ProcEnd as left
use Rattle.process_end.specs.contracts.sides.Sides as sides
use Rattle.process_end.specs.contracts.sides.Sides.TheInside as sides_inside
use Rattle.process_end.specs.contracts.proc.Proc as proc
use Rattle.process_end.specs.contracts.proc.Proc.TheInside as proc_inside
use Rattle.process_end.specs.contracts.stopped.Stopped as stopped
use Rattle.process_end.specs.contracts.stopped.Stopped.TheInside as stopped_inside

pub mail_send : IsSend mail.the_row
mail_send = mail_sent.the_send

pub parcel_send : IsSend parcel.the_row
parcel_send = parcel_sent.the_send

pub seat_send : IsSend seat.the_row
seat_send = seat_sent.the_send

receipt_send : IsSend receipt.the_row
receipt_send = receipt_sent.the_send

note_send : IsSend note.the_row
note_send = note_sent.the_send

sides_send : IsSend sides.the_row
sides_send = view_send _ _ _ _ _ (declared_send sides_inside.the_type (
  search sendable depth 20,
  (
    search (ends_cross, mail_send) depth 20,
    (
      search (ends_cross, parcel_send) depth 20,
      (
        search (crosses, sendable, seat_send) depth 20,
        (
          search (crosses, sendable) depth 20,
          (
            search (crosses, sendable, receipt_send) depth 20,
            (
              search sendable depth 20,
              (search sendable depth 20, tt),
            ),
          ),
        ),
      ),
    ),
  ),
))

pub proc_send : IsSend proc.the_row
proc_send = view_send _ _ _ _ _ (declared_send proc_inside.the_type (sides_send, tt))

pub stopped_send : IsSend stopped.the_row
stopped_send = view_send _ _ _ _ _ (declared_send stopped_inside.the_type (sides_send, (note_send, (search sendable depth 20, tt))))

pub end_send : IsSend left.the_row
end_send = declared_send left.the_type (
  search (crosses, sendable, receipt_send) depth 20,
  (
    search (ends_cross, mail_send) depth 20,
    (
      search (ends_cross, parcel_send) depth 20,
      (search (crosses, sendable, seat_send) depth 20, tt),
    ),
  ),
)

pub ruleset processes_cross = (ends_cross, mail_send, parcel_send, seat_send, proc_send, stopped_send, end_send)
