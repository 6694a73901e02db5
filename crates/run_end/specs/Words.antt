-- The words of a port whose senders' seats were all taken in.
use Rattle.std.specs.Prelude.{◌≡◌, ℕ, List, [], ◌∷◌, ◌++◌, map}
use Rattle.port_words.specs.busy.Known.{PortKnown, SendKnown}
use Rattle.port_words.specs.busy.Stat.{EachRises}
use Rattle.port_words.specs.busy.Steps.{TellsQueue, port_heard}
use Rattle.port_words.specs.declared.busy.view.BusyView.{BusyView}

-- a seat of the same words
abbrev pub IsOfTable : PortKnown → SendKnown → Type 0
IsOfTable port seat = seat.table ≡ port.table

-- with the views of these senders behind its own
abbrev pub with_senders : BusyView → List SendKnown → BusyView
with_senders v seats = record v { senders = v.senders ++ map (λ s. s.sender) seats }

-- The seats were taken in, and MSGQ was found with this word last. So each STAT word that a sender found is that of a beginning of the marks, these beginnings rise along each
-- sender, and the last word tells the whole queue
pub record HasJoined (old : PortKnown) (seats : List SendKnown) (new : PortKnown) : Type 0 where
  pub last : ℕ
  pub table : new.table ≡ old.table
  pub known : new.known ≡ port_heard (with_senders old.known seats) (last ∷ [])
  pub stats : EachRises new.known.marks new.known.senders
  pub queue : TellsQueue new.known last
