-- A port with its rows, its mail and its words, as contracts see it, and what always holds of it.
use Rattle.std.specs.Prelude.{◌≡◌, ◌<◌, ◌≤◌, ℕ, List, [], ◌∷◌, ◌++◌, length, map, reverse, slice_index_or, All, Contains, Bool, true, false, ◌&&◌}
use Rattle.port_words.specs.busy.Stat.{marked_busy}
use Rattle.suspend_list.specs.Entries.{Suspended}
use Rattle.port_words.specs.busy.Known.{PortKnown}
use Rattle.port_words.specs.declared.busy.view.AddName.{AddName}
use Rattle.port_words.specs.declared.busy.view.StatMark.{StatMark}
use Rattle.port_words.specs.declared.busy.view.StatMark.TheVariants as stat
use Rattle.port_model.specs.port_signal.declared.mark.MarkKind.{MarkKind}
use Rattle.port_model.specs.port_signal.declared.mark.MarkKind.TheVariants.{Busy, Free, Closed}
use Rattle.port_model.specs.declared.row.Row.{Row}
use Rattle.port_mail.specs.Ends.{MailEnd}
use Rattle.port_lanes.specs.port_history.Mail.{mails}
use Rattle.port_lanes.specs.port_history.Laws.{keeps_end}
use Rattle.port_lanes.specs.port_history.Marks.{is_busy, none_due}
use Rattle.port_lanes.specs.port_history.Opening.{Opening}
use Rattle.port_lanes.specs.port_history.State.{State, start_call, state}
use Rattle.port_driver.specs.driver_model.Drivers.{holds, read_event_of, write_event_of}
use Rattle.port_suspension.specs.Listed.{AgreesListed}
use Rattle.served_port.specs.View.{ServedView, IsAt}
use Rattle.recorded_port.specs.Laws.{IsLawful}
use Rattle.recorded_port.specs.Asks.{asks, GaveJobs, removals, resumed_words}

-- what was fixed at its opening, its rows, oldest first, for how many more of them there is room, the port with its driver, its ends into the mailboxes by the numbers of the processes, the seat of
-- its words, and the senders that it suspended
pub record RecordedView : Type 0 where
  pub opening : Opening
  pub rows : List Row
  pub room : ℕ
  pub port : ServedView
  pub ends : List MailEnd
  pub seat : PortKnown
  pub suspended : Suspended

-- its rows, newest first
abbrev pub history : RecordedView → List Row
history v = reverse v.rows

-- what they tell of the port
abbrev pub state_of : RecordedView → State
state_of v = state v.opening (reverse v.rows)

abbrev pub stat_mark : MarkKind → StatMark
stat_mark Busy = stat.Busy
stat_mark Free = stat.Free
stat_mark Closed = stat.Closed

-- the marks of a history, newest first, as the word STAT has them, oldest first
abbrev pub stat_marks : List MarkKind → List StatMark
stat_marks marks = map stat_mark (reverse marks)

abbrev pub removed_sizes : PortKnown → List ℕ
removed_sizes seat = map (λ (name : AddName). name.size) seat.known.removed

-- a mark that is due changes the busy state
abbrev pub IsChange : Bool → List MarkKind → Type 0
IsChange busy [] = Unit {0}
IsChange busy (Busy ∷ due) = busy ≡ false
IsChange busy (Free ∷ due) = busy ≡ true
IsChange busy (Closed ∷ due) = Unit {0}

-- the events of an opening are those that its driver keeps from its start
pub record HasEvents (port : Opening) : Type 0 where
  pub read : read_event_of (holds port.kind port.config (start_call port ∷ [])).own ≡ port.read
  pub write : write_event_of (holds port.kind port.config (start_call port ∷ [])).own ≡ port.write

-- A history is lawful, and all that the port did is what it says: the driver, the events and the jobs are as after it, the suspended senders are those that
-- are listed, each process was sent its mail, the poller was asked what its rows ask, the workers were given its jobs, the words have its marks, and the
-- port found the words with which it resumed. `left` are the sizes of commands whose bytes are still in the message queue
pub record Records (port : Opening) (rows : List Row) (v : RecordedView) (left : List ℕ) : Type 0 where
  pub at : IsAt v.port port (state port rows)
  pub lawful : IsLawful port rows
  pub places : v.suspended.places ≡ port.processes
  pub listed : AgreesListed v.suspended (state port rows).listed
  pub mail : (process : ℕ) (e : MailEnd) → process < length v.ends → (slice_index_or v.ends process e).sent ≡ mails port process rows
  pub asks : v.port.events.asks.sent ≡ asks port rows
  pub jobs : GaveJobs port rows v.port.jobs.lanes
  pub marks : v.seat.known.marks ≡ stat_marks (state port rows).marks
  pub change : IsChange (is_busy (state port rows).marks) (state port rows).due
  pub removed : removed_sizes v.seat ++ left ≡ removals rows
  pub resumed : All (λ word. Contains v.seat.known.words word) (resumed_words rows)
  pub events : HasEvents port

-- its own rows are such a history
abbrev pub IsRecorded : RecordedView → List ℕ → Type 0
IsRecorded v left = Records v.opening (reverse v.rows) v left

-- and no mark is due
pub record IsSettled (v : RecordedView) : Type 0 where
  pub recorded : IsRecorded v []
  pub none_due : (state_of v).due ≡ []

-- nothing is wanting at the end of a history: no mark is due, and the last law holds
abbrev pub is_finished : State → Bool
is_finished s = none_due s.due && keeps_end s

-- the mark changes a port that is busy or not, as is said
abbrev pub CanChange : MarkKind → Bool → Type 0
CanChange Busy busy = busy ≡ false
CanChange Free busy = busy ≡ true
CanChange Closed busy = Unit {0}

-- the mark may be written: it changes STAT, and there are no more marks than rows
pub record CanMark (kind : MarkKind) (v : RecordedView) : Type 0 where
  pub few : length v.seat.known.marks ≤ length v.rows
  pub changes : CanChange kind (marked_busy v.seat.known.marks)
