-- What a process has of one port before it made a call.
use Rattle.std.specs.Prelude.{◌≡◌, ◌<◌, List, [], All}
use Rattle.atomic_table.specs.Seated.{TableId}
use Rattle.port_words.specs.busy.Known.{SendKnown}
use Rattle.port_words.specs.busy.Views.{fresh_sender}
use Rattle.process_end.specs.Views.{LaneEnd}

-- the seat is one of this table and did nothing yet
pub record IsFreshSeat (table : TableId) (seat : SendKnown) : Type 0 where
  pub table_is : seat.table ≡ table
  pub fresh : seat.sender ≡ fresh_sender seat.sender.ledger.number

abbrev pub AreFreshSeats : TableId → List SendKnown → Type 0
AreFreshSeats table seats = All (IsFreshSeat table) seats

-- the end of a lane and the seat are those of one port and did nothing yet
pub record IsFresh (lane : LaneEnd) (seat : SendKnown) : Type 0 where
  pub process : lane.number < lane.key.processes
  pub unsent : lane.sent ≡ []
  pub table : lane.key.table ≡ seat.table
  pub fresh : seat.sender ≡ fresh_sender seat.sender.ledger.number
