-- Room that was made changes nothing else.
use Rattle.std.proofs.Common.{◌≡◌, ◌⊎◌, ◌&&◌, ◌||◌, ℕ, Bool, true, false, List, [], ◌∷◌, ◌++◌, sym, ap, ◌∙◌, subst, inl, inr}
use Rattle.std.specs.Prelude.{nat_lt, if◌then◌else◌}
use Rattle.task_queue.specs.declared.item.Item.{Item}
use Rattle.port_lanes.specs.Parcels.{ParcelView}
use Rattle.waiting_parcels.specs.Waiting.{Waiting, GoesFirst, NoneGoes, has_sender}
use Rattle.port_events.specs.port_history.Laws.{waits_where_busy}
use Rattle.port_events.specs.port_history.State.{is_open}
use Rattle.recorded_port.specs.View.{RecordedView, IsSettled, state_of}
use Rattle.recorded_port.specs.Taking.{IsSameRecorded}
use Rattle.recorded_port.proofs.Same.{same-refl}
use Rattle.port_body.specs.LanePort.{LanePortView, Holds, IsBody, IsDue, IsSameBut, IsSameLanePort, WasTaken}
use Rattle.port_body.specs.Steps.{Stepped, CameToRow, CameToWait, is_busy_at}
use Rattle.port_body.proofs.Holding.{all-map}
use Rattle.port_body.proofs.Same.{same_lane}
use Rattle.port_body.proofs.Waits.{body-waits}

settled_room : (v : RecordedView) (room : ℕ) → IsSettled v → IsSettled (record v { room = room })
settled_room v room settled =
    let r = settled.recorded in
    record {
      recorded = record {
        at = r.at;
        lawful = r.lawful;
        places = r.places;
        listed = r.listed;
        mail = r.mail;
        asks = r.asks;
        jobs = r.jobs;
        marks = r.marks;
        change = r.change;
        removed = r.removed;
        resumed = r.resumed;
        events = r.events;
      };
      none_due = settled.none_due;
    }

room_holds : (v : LanePortView) (room : ℕ) (items : List (Item ParcelView)) → Holds v items → Holds (record v { port = record v.port { room = room } }) items
room_holds v room items h = record {
  settled = settled_room v.port room h.settled;
  table = h.table;
  processes = h.processes;
  workers = h.workers;
  port_processes = h.port_processes;
  senders = h.senders;
  accounts = λ n within. let a = h.accounts n within in record { tasks = a.tasks; numbers = a.numbers };
  due = all-map (IsDue v) (IsDue (record v { port = record v.port { room = room } })) items (λ y d. record { fits = d.fits; listed = d.listed; taken = d.taken }) h.due;
  entries = all-map (WasTaken v) (WasTaken (record v { port = record v.port { room = room } })) (state_of v.port).entries
      (λ e t. record { number = t.number; within = t.within; from = t.from; taken = t.taken }) h.entries;
  falling = h.falling;
  from_ends = h.from_ends;
}

room_body : (v : LanePortView) (room : ℕ) → IsBody v → IsBody (record v { port = record v.port { room = room } })
room_body v room body = record { holds = room_holds v room v.waiting.items body.holds; owners = body.owners; closed = body.closed }

pub reserved_body : (old new : LanePortView) → IsSameBut old new → IsBody old → IsBody new
reserved_body old new same body =
    subst IsBody (sym same.rest) (body-waits (record old { port = record old.port { room = new.port.room } }) new.waiting (room_body old new.port.room body) same.items same.senders)

pub reserved_same : (old new : LanePortView) → IsSameBut old new → IsSameLanePort old new
reserved_same old new same = same_lane old new
    (subst (λ (p : RecordedView). IsSameRecorded old.port p) (sym (ap (λ (v : LanePortView). v.port) same.rest)) (same_room old.port new.port.room))
    (ap (λ (v : LanePortView). v.lane) same.rest) (ap (λ (v : LanePortView). v.processes) same.rest) (ap (λ (v : LanePortView). v.workers) same.rest)
  where
    same_room : (v : RecordedView) (room : ℕ) → IsSameRecorded v (record v { room = room })
    same_room v room = let s = same-refl v in record { opening = s.opening; rows = s.rows; port = s.port; ends = s.ends; seat = s.seat; places = s.places; failed = s.failed }

came_row : (old new : LanePortView) (room : ℕ) (w : Waiting) (x : Item ParcelView) → w.items ≡ old.waiting.items
    → CameToRow (record old { port = record old.port { room = room }; waiting = w }) new x → CameToRow old new x
came_row old new room w x items came = record {
  row = record { before = came.row.before; row = came.row.row; behind = came.row.behind; rows = came.row.rows; tells = came.row.tells };
  waiting = came.waiting ∙ ap (λ t. if is_open (state_of new.port) then t else []) items;
}

stepped_room : (did : Bool) (old new : LanePortView) (room : ℕ) (w : Waiting) → w.items ≡ old.waiting.items → Stepped did (record old { port = record old.port { room = room }; waiting = w }) new
    → Stepped did old new
stepped_room true old new room w items (inl went, looked) = (
  inl (record {
    item = went.item;
    rest = went.rest;
    first = subst (λ t. GoesFirst (is_busy_at old) t went.item went.rest) items went.first;
    row = record { before = went.row.before; row = went.row.row; behind = went.row.behind; rows = went.row.rows; tells = went.row.tells };
    lane = went.lane;
    waiting = went.waiting;
  }),
  looked,
)
stepped_room true old new room w items (inr went, looked) = (
  inr (record {
    item = went.item;
    none = subst (NoneGoes (is_busy_at old)) items went.none;
    lane = went.lane;
    went = either went.went;
  }),
  looked,
) where
  mid : LanePortView
  mid = record old { port = record old.port { room = room }; waiting = w }

  either : (CameToRow mid new went.item ⊎ CameToWait mid new went.item) → (CameToRow old new went.item ⊎ CameToWait old new went.item)
  either (inl came) = inl (came_row old new room w went.item items came)
  either (inr waits) = inr (record {
    has_to = ap (λ t. is_open (state_of new.port) && (nat_lt went.item.sender new.processes && (has_sender went.item.sender t || (is_busy_at new && waits_where_busy went.item.value.task)))) (sym items) ∙ waits.has_to;
    waiting = waits.waiting ∙ ap (λ t. t ++ went.item ∷ []) items;
  })
stepped_room false old new room w items none = record {
  none = subst (NoneGoes (is_busy_at old)) items none.none;
  empty = none.empty;
  all = none.all;
  order = none.order;
  port = none.port;
  lane = none.lane;
  waiting = none.waiting ∙ items;
}

pub reserved_stepped : (did : Bool) (old mid new : LanePortView) → IsSameBut old mid → Stepped did mid new → Stepped did old new
reserved_stepped did old mid new same went =
    stepped_room did old new mid.port.room mid.waiting same.items (subst (λ (v : LanePortView). Stepped did v new) same.rest went)
