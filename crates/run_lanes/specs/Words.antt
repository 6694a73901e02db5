-- The words of ports, as they are made and dealt.
use Rattle.std.specs.Prelude.{◌≡◌, ◌<◌, ℕ, List, [], length, slice_index_or}
use Rattle.port_words.specs.declared.busy.view.QueueLimits.{QueueLimits}
use Rattle.port_words.specs.busy.Views.{fresh_sender}
use Rattle.port_words.specs.busy.Known.{PortKnown, SendKnown, send_known, fresh_port, setup_of, AreSeatsOf}

-- the port's seat of new words with these limits and so many senders: it made no mark, and has taken in no sender's seat
pub record IsPortSeat (limits : QueueLimits) (senders : ℕ) (seat : PortKnown) : Type 0 where
  pub known : seat.known ≡ fresh_port (setup_of limits senders) []

-- the seat of the sender of this number, of the words that have this port's seat: it found nothing and added nothing
abbrev pub new_seat : PortKnown → ℕ → SendKnown
new_seat port sender = send_known port.table port.known.setup (fresh_sender sender)

-- of each of so many ports the seat of the sender of this number, in the order of the ports
pub record AreSeatsWith (ports : ℕ) (seat : ℕ → PortKnown) (sender : ℕ) (mine : List SendKnown) : Type 0 where
  pub many : length mine ≡ ports
  pub each : (port : ℕ) (d : SendKnown) → port < ports → slice_index_or mine port d ≡ new_seat (seat port) sender

-- The words of ports with these limits: of each the port's seat, and the seats of so many senders
pub record AreTables (limits : List QueueLimits) (senders : ℕ) (seats : List PortKnown) (rows : List (List SendKnown)) : Type 0 where
  pub many : length seats ≡ length limits
  pub rows_many : length rows ≡ length limits
  pub each : (port : ℕ) (l : QueueLimits) (s : PortKnown) (r : List SendKnown) → port < length limits
      → AreSeatsOf (setup_of (slice_index_or limits port l) senders) (slice_index_or seats port s) (slice_index_or rows port r)

-- The same, dealt: of each port the port's seat, and for each sender a seat of each port
pub record AreWords (limits : List QueueLimits) (senders : ℕ) (seats : List PortKnown) (columns : List (List SendKnown)) : Type 0 where
  pub many : length seats ≡ length limits
  pub senders_many : length columns ≡ senders
  pub long : (sender : ℕ) (d : List SendKnown) → sender < senders → length (slice_index_or columns sender d) ≡ length limits
  pub ports : (port : ℕ) (l : QueueLimits) (s : PortKnown) → port < length limits → IsPortSeat (slice_index_or limits port l) senders (slice_index_or seats port s)
  pub each : (sender : ℕ) (s : PortKnown) (d : List SendKnown) → sender < senders → AreSeatsWith (length limits) (λ port. slice_index_or seats port s) sender (slice_index_or columns sender d)
