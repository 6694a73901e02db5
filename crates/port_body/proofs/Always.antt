-- What always holds of a body, after each of its calls.
use Rattle.std.proofs.Common.{◌≡◌, ℕ, Bool, List, sym, subst}
use Rattle.task_queue.specs.declared.item.Item.{Item}
use Rattle.task_queue.specs.declared.protocol.Ended.{Ended}
use Rattle.port_lanes.specs.Parcels.{ParcelView}
use Rattle.recorded_port.specs.View.{state_of}
use Rattle.port_body.specs.Body.{AlwaysHolds}
use Rattle.port_body.specs.LanePort.{LanePortView, Holds, IsBody, IsDue, WasTaken}
use Rattle.port_body.proofs.Holding.{all-map}

ended_holds : (v : LanePortView) (ended : List (Ended ParcelView)) (items : List (Item ParcelView)) → Holds v items → Holds (record v { lane = record v.lane { ended = ended } }) items
ended_holds v ended items h = record {
  settled = h.settled;
  table = h.table;
  processes = h.processes;
  workers = h.workers;
  port_processes = h.port_processes;
  senders = h.senders;
  accounts = λ n within. let a = h.accounts n within in record { tasks = a.tasks; numbers = a.numbers };
  due = all-map (IsDue v) (IsDue (record v { lane = record v.lane { ended = ended } })) items (λ y d. record { fits = d.fits; listed = d.listed; taken = d.taken }) h.due;
  entries = all-map (WasTaken v) (WasTaken (record v { lane = record v.lane { ended = ended } })) (state_of v.port).entries
      (λ e t. record { number = t.number; within = t.within; from = t.from; taken = t.taken }) h.entries;
  falling = h.falling;
  from_ends = h.from_ends;
}

ended_body : (v : LanePortView) (ended : List (Ended ParcelView)) → IsBody v → IsBody (record v { lane = record v.lane { ended = ended } })
ended_body v ended body = record { holds = ended_holds v ended v.waiting.items body.holds; owners = body.owners; closed = body.closed }

-- an end was taken in
pub always_ended : (old new : LanePortView) (broken finished : Bool) (faults : ℕ) (ended : List (Ended ParcelView)) → new ≡ record old { lane = record old.lane { ended = ended } }
    → AlwaysHolds (record { lane_port = old; broken = broken; finished = finished; first_faults = faults })
    → AlwaysHolds (record { lane_port = new; broken = broken; finished = finished; first_faults = faults })
always_ended old new broken finished faults ended same always =
    subst (λ (p : LanePortView). AlwaysHolds (record { lane_port = p; broken = broken; finished = finished; first_faults = faults })) (sym same) (record {
      body = λ whole. ended_body old ended (always.body whole);
      finished = always.finished;
      faults = always.faults;
      failed = always.failed;
      life = always.life;
    })
