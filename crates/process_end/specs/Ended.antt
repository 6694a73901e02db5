-- What a process leaves that has ended.
use Rattle.std.specs.Prelude.{◌≡◌, ℕ, ◌+◌, ◌<◌, List, [], ◌∷◌, ◌++◌, length, reverse}
use Rattle.std.proofs.Common.{zero, suc}
use Rattle.port_words.specs.busy.Known.{SendKnown}
use Rattle.port_model.specs.declared.signal.Signal.TheVariants as signal
use Rattle.process_receipts.specs.declared.how.How.TheVariants.{Plain}
use Rattle.process_receipts.specs.declared.receipt.Receipt.{Receipt}
use Rattle.process_receipts.specs.Asks.{Asked, asked}
use Rattle.process_end.specs.Views.{LaneEnd, ProcView}
use Rattle.process_end.specs.Mailbox.{Mailbox}
use Rattle.process_end.specs.Calls.{HasAsked, HasMade, HasMissed}
use Rattle.process_end.specs.Ports.{ArePorts}

-- the call by which a port is told that the process has ended for this reason
abbrev pub gone_ask : List ℕ → ℕ → Asked
gone_ask reason port = asked 0 port (signal.Gone reason) Plain

-- the calls for so many ports by rising number, from this port on, newest first
abbrev pub gone_asks : List ℕ → ℕ → ℕ → List Asked
gone_asks reason from zero = []
gone_asks reason from (suc count) = gone_ask reason (from + count) ∷ gone_asks reason from count

-- one port was told, with this receipt; the next one is told next
pub record HasToldPort (reason : List ℕ) (old new : ProcView) (receipt : Receipt) : Type 0 where
  pub made : HasMade old (gone_ask reason old.told) (record new { told = old.told }) receipt
  pub counts : new.told ≡ old.told + 1

-- one port after the other was told, with these receipts, newest first
abbrev pub HasToldPorts : List ℕ → ProcView → List Receipt → ProcView → Type 0
HasToldPorts reason old [] new = new ≡ old
HasToldPorts reason old (receipt ∷ receipts) new = (between : ProcView) × HasToldPorts reason old receipts between × HasToldPort reason between new receipt

-- the same, with the calls that were made
pub record HasTold (reason : List ℕ) (old new : ProcView) : Type 0 where
  pub receipts : List Receipt
  pub told : HasToldPorts reason old receipts new
  pub counts : new.told ≡ old.told + length receipts
  pub undone : new.undone ≡ old.undone
  pub ports : length new.lanes ≡ length old.lanes
  pub asked : (asks : List Asked) → HasAsked asks old → HasAsked (gone_asks reason old.told (length receipts) ++ asks) new

-- Each port that wasn't told before is told, with a receipt: what is left of the process. The receipts are read oldest first
pub record HasEnded (reason : List ℕ) (old : ProcView) (receipts : List Receipt) (mailbox : Mailbox) (lanes : List LaneEnd) (seats : List SendKnown) : Type 0 where
  pub new : ProcView
  pub told : HasTold reason old new
  pub all : new.told ≡ length new.lanes
  pub receipts_are : receipts ≡ reverse new.receipts
  pub mailbox_is : mailbox ≡ new.mailbox
  pub lanes_are : lanes ≡ new.lanes
  pub seats_are : seats ≡ new.seats
  pub keeps : ArePorts new

-- No memory was found for a port, and the ports below it have their receipts. A second call goes on with this port
pub record HasLeftOff (reason : List ℕ) (old new : ProcView) : Type 0 where
  pub between : ProcView
  pub told : HasTold reason old between
  pub port : between.told < length between.lanes
  pub missed : HasMissed between (gone_ask reason between.told) new
