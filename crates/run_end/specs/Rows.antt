-- Seats that are given back process by process, and joined port by port.
use Rattle.std.specs.Prelude.{◌≡◌, ◌≢◌, ℕ, ◌<◌, List, All, length, slice_index_or}
use Rattle.port_words.specs.busy.Known.{PortKnown, SendKnown}
use Rattle.run_end.specs.Words.{HasJoined, IsOfTable}

module _ {X : Type 0} where
  -- what the rows have at this place, in the order of the rows
  pub record IsColumn (place : ℕ) (rows : List (List X)) (column : List X) : Type 0 where
    pub many : length column ≡ length rows
    pub at : (r : ℕ) (row : List X) (x y : X) → r < length rows → slice_index_or column r x ≡ slice_index_or (slice_index_or rows r row) place y

-- each row has a seat of each port, in their order
pub record AreSeatRows (ports : List PortKnown) (rows : List (List SendKnown)) : Type 0 where
  pub long : (r : ℕ) (row : List SendKnown) → r < length rows → length (slice_index_or rows r row) ≡ length ports
  pub tables : (r k : ℕ) (row : List SendKnown) (d : PortKnown) (x : SendKnown) → r < length rows → k < length ports
      → IsOfTable (slice_index_or ports k d) (slice_index_or (slice_index_or rows r row) k x)

-- for each port a list of its seats
pub record AreSeatsOfPorts (ports : List PortKnown) (columns : List (List SendKnown)) : Type 0 where
  pub many : length columns ≡ length ports
  pub tables : (k : ℕ) (d : PortKnown) (column : List SendKnown) → k < length ports → All (IsOfTable (slice_index_or ports k d)) (slice_index_or columns k column)

-- the port at this place took in these seats, and the others are as they were
pub record JoinsAt (place : ℕ) (seats : List SendKnown) (old new : List PortKnown) : Type 0 where
  pub many : length new ≡ length old
  pub here : (d e : PortKnown) → HasJoined (slice_index_or old place d) seats (slice_index_or new place e)
  pub others : (k : ℕ) (d : PortKnown) → k ≢ place → slice_index_or new k d ≡ slice_index_or old k d

-- each port took in the seats at its place
pub record JoinsEach (old : List PortKnown) (columns : List (List SendKnown)) (new : List PortKnown) : Type 0 where
  pub many : length new ≡ length old
  pub each : (k : ℕ) (d e : PortKnown) (column : List SendKnown) → k < length old → HasJoined (slice_index_or old k d) (slice_index_or columns k column) (slice_index_or new k e)

-- a port took in what the rows have at its place
pub record JoinedColumn (place : ℕ) (rows : List (List SendKnown)) (old new : PortKnown) : Type 0 where
  pub seats : List SendKnown
  pub column : IsColumn place rows seats
  pub joined : HasJoined old seats new

-- so has each port
pub record HaveJoinedRows (old : List PortKnown) (rows : List (List SendKnown)) (new : List PortKnown) : Type 0 where
  pub many : length new ≡ length old
  pub each : (k : ℕ) (d e : PortKnown) → k < length old → JoinedColumn k rows (slice_index_or old k d) (slice_index_or new k e)
