-- What looks at the words of a port do to a process, which have no receipt.
use Rattle.std.specs.Prelude.{◌≡◌, ℕ, List, [], ◌∷◌, slice_index_or}
use Rattle.port_words.specs.busy.Known.{SendKnown, send_known}
use Rattle.port_words.specs.busy.Views.{seat_view}
use Rattle.port_words.specs.busy.Steps.{heard, TellsQueue}
use Rattle.process_receipts.specs.Asks.{Asked}
use Rattle.process_end.specs.Views.{ProcView}
use Rattle.process_end.specs.Steps.{looked, Looks}
use Rattle.process_end.specs.Calls.{HasAsked, TouchesPort}

-- a load of the port's STAT found this word; the seats and lanes of the other ports are the same
pub record HasLookedAt (port : ℕ) (old new : ProcView) (stat : ℕ) : Type 0 where
  pub rest : new ≡ record old { seats = new.seats }
  pub touched : TouchesPort port old.lanes new.lanes old.seats new.seats
  pub seat : (d : SendKnown) → slice_index_or new.seats port d ≡ looked (slice_index_or old.seats port d) stat
  pub looks : (d : SendKnown) → Looks (slice_index_or old.seats port d) stat
  pub asked : (asks : List Asked) → HasAsked asks old → HasAsked asks new

-- the seat after a load of MSGQ that found this word
abbrev pub told_queue : SendKnown → ℕ → SendKnown
told_queue seat msgq = send_known seat.table seat.setup (heard seat.sender (msgq ∷ []))

-- a load of MSGQ by this seat, and then one of STAT, found these words
pub record FindsWords (seat new : SendKnown) (msgq stat : ℕ) : Type 0 where
  pub step : new ≡ looked (told_queue seat msgq) stat
  pub queue : TellsQueue (seat_view seat.setup (heard seat.sender (msgq ∷ [])) []) msgq
  pub looks : Looks seat stat

-- the same of the seat of this port; those of the others are the same
pub record HasFoundWords (port : ℕ) (old new : ProcView) (msgq stat : ℕ) : Type 0 where
  pub rest : new ≡ record old { seats = new.seats }
  pub touched : TouchesPort port old.lanes new.lanes old.seats new.seats
  pub finds : (d : SendKnown) → FindsWords (slice_index_or old.seats port d) (slice_index_or new.seats port d) msgq stat
  pub asked : (asks : List Asked) → HasAsked asks old → HasAsked asks new
