-- What the calls of a process tell of each port.
use Rattle.std.specs.Prelude.{◌≡◌, ℕ, ◌<◌, List, All, length, map, slice_index_or}
use Rattle.port_words.specs.busy.Known.{PortKnown, SendKnown}
use Rattle.process_end.specs.process_receipts.Receipts.{accepted, AreReceipts}
use Rattle.process_end.specs.Steps.{tasks_of}
use Rattle.process_end.specs.Views.{LaneEnd}
use Rattle.process_job.specs.Going.{AreSamePorts}
use Rattle.run_end.specs.Shown.{AreShown, SeatShown}
use Rattle.run_end.specs.Ran.{RanProcess, HasRunWhole, calls_made}
use Rattle.run_end.specs.Rows.{AreSeatRows, IsColumn}

-- Each receipt is that of its call. The process gives back the mailbox, and of each port the end and the seat, that it was given; the end has put the tasks that were accepted, in the order
-- sent, each once, and the words and adds in the receipts are those of the seat
pub record CallsTell (p : RanProcess) : Type 0 where
  pub receipts : AreReceipts p.old.soft (calls_made p).asks (calls_made p).receipts
  pub mailbox : p.end.mailbox ≡ record p.old.mailbox { taken = p.end.mailbox.taken }
  pub ports : AreSamePorts p.old.lanes p.end.lanes.items p.old.seats p.end.seats.items
  pub seats_many : length p.end.seats.items ≡ length p.old.lanes
  pub tasks : (k : ℕ) (d : LaneEnd) → k < length p.old.lanes → tasks_of (slice_index_or p.end.lanes.items k d) ≡ accepted k (calls_made p).asks (calls_made p).receipts
  pub seats : (k : ℕ) (d : SendKnown) → k < length p.old.lanes → SeatShown k (calls_made p) (slice_index_or p.end.seats.items k d)

abbrev pub AllCallsTell : Type 0
AllCallsTell = (p : RanProcess) → HasRunWhole p → CallsTell p

-- the processes ran to their ends, with so many ports
pub record HaveRunWhole (ports : ℕ) (processes : List RanProcess) : Type 0 where
  pub ran : All HasRunWhole processes
  pub many : All (λ p. length p.old.lanes ≡ ports) processes

-- for each port, the seats that the processes give back, in the order of processes, show their calls
abbrev pub AllSeatsShow : Type 0
AllSeatsShow = (ports port : ℕ) (processes : List RanProcess) (seats : List SendKnown) → HaveRunWhole ports processes → port < ports
    → IsColumn port (map (λ p. p.end.seats.items) processes) seats → AreShown port (map calls_made processes) seats

-- the seats that the processes give back are of the ports of those that they were given
abbrev pub AllRowsStay : Type 0
AllRowsStay = (ports : List PortKnown) (processes : List RanProcess) → HaveRunWhole (length ports) processes → AreSeatRows ports (map (λ p. p.old.seats) processes)
    → AreSeatRows ports (map (λ p. p.end.seats.items) processes)
