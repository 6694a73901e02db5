-- What a body leaves is what its history says.
use Rattle.std.proofs.Common.{◌≡◌, ◌<◌, [], ◌++◌, length, sym, ap, ◌∙◌, subst, arith}
use Rattle.std.proofs.lemmas.List.{append-nil, length-map}
use Rattle.task_queue.specs.declared.item.Item.{Item}
use Rattle.task_queue.specs.Items.{items_of}
use Rattle.port_events.specs.port_history.Laws.{count_of}
use Rattle.port_events.specs.port_history.Suspension.{Entry}
use Rattle.port_lanes.specs.Keys.{sender_at}
use Rattle.port_lanes.specs.Parcels.{ParcelView}
use Rattle.recorded_port.specs.declared.parts.PortOutlets.{PortOutlets}
use Rattle.recorded_port.specs.View.{RecordedView, history, is_finished, removed_sizes, state_of}
use Rattle.port_body.specs.Body.{BodyView}
use Rattle.port_body.specs.Ends.{HaveRows, IsWholeEnd}
use Rattle.port_body.specs.LanePort.{Holds, IsBody, LanePortView, WasTaken, rows_from, tasks_of}
use Rattle.port_body.proofs.Finished.{finished_end, finished_shut}
use Rattle.port_body.proofs.Holding.{all-map}
use Rattle.port_body.proofs.Rows.{counted}

-- where a port puts what it sends and what it marks
abbrev pub outlets_of : RecordedView → PortOutlets
outlets_of v = record { mailboxes = v.ends; seat = v.seat; ends = record { asks = v.port.events.asks; pool = v.port.jobs.lanes } }

-- where nothing waits, each task that was taken has a row, and so each that was listed
all-have-rows : (v : LanePortView) → Holds v v.waiting.items → v.waiting.items ≡ [] → HaveRows (state_of v.port)
all-have-rows v h none = all-map (WasTaken v) (λ (e : Entry). e.seq < count_of e.from (state_of v.port).senders) (state_of v.port).entries (λ e t.
    let rows = rows_from (sender_at v.lane.key t.number) (history v.port) in
    let all = sym (ap length (sym (append-nil rows) ∙ (ap (λ w. rows ++ tasks_of t.number w) (sym none) ∙ (h.accounts t.number t.within).tasks))
    ∙ length-map (items_of t.number v.lane.taken) (λ (i : Item ParcelView). i.value.task)) in
    let many = counted v.port.opening (history v.port) (sender_at v.lane.key t.number) in
    let taken = t.taken in
    subst (λ f. e.seq < count_of f (state_of v.port).senders) (sym t.from) (omega (arith, all, many, taken))) h.entries

pub whole-end : (v : BodyView) → IsBody v.lane_port → v.finished ≡ is_finished (state_of v.lane_port.port)
    → IsWholeEnd v v.lane_port.port.rows (outlets_of v.lane_port.port) v.lane_port.lane
whole-end v body finished =
    let port = v.lane_port.port in
    let holds = body.holds in
    let recorded = holds.settled.recorded in
    record {
      sent = record {
        lawful = recorded.lawful;
        mail = recorded.mail;
        asks_are = recorded.asks;
        jobs = recorded.jobs;
        marks = recorded.marks;
        removed = sym (append-nil (removed_sizes port.seat)) ∙ recorded.removed;
        resumed = recorded.resumed;
      };
      taken = λ number within. (holds.accounts number within).tasks;
      from_ends = holds.from_ends;
      falling = holds.falling;
      closed = body.closed;
      finished = λ is. finished_end port (sym finished ∙ is);
      none_waits = λ is. body.closed (finished_shut port recorded.at (sym finished ∙ is));
      have_rows = λ is. all-have-rows v.lane_port holds (body.closed (finished_shut port recorded.at (sym finished ∙ is)));
    }
