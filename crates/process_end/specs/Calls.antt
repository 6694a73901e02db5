-- What the calls of a process leave of it.
use Rattle.std.specs.Prelude.{◌≡◌, ◌≢◌, ◌⊎◌, ℕ, ◌+◌, ◌<◌, ◌≤◌, List, ◌∷◌, length, map, true, false, slice_index_or}
use Rattle.port_words.specs.busy.Known.{SendKnown}
use Rattle.port_model.specs.Signals.{data_size, is_command}
use Rattle.process_receipts.specs.declared.receipt.Receipt.{Receipt}
use Rattle.process_receipts.specs.Asks.{Asked}
use Rattle.process_receipts.specs.Receipts.{accepted, adds_shown, stats_shown, words_shown, soft_at, AreReceipts, IsReceiptOf, IsSublist}
use Rattle.process_receipts.specs.Ledgers.{kept_adds, shown_add}
use Rattle.process_end.specs.Views.{LaneEnd, ProcView, calls_of}
use Rattle.process_end.specs.Steps.{sent_to, tasks_of, looked, Looks, HasSent, HasStepped, HasUndone}

-- A process made these calls, newest first, and got a receipt for each. Of each port: the tasks that it put into the lane are those that were accepted of it, in
-- the order sent, each once; its seat took back at most as many adds as there were such calls, and the adds that it didn't take back are those of the accepted
-- commands; and the words in the receipts are words that its seat found or left, in their order. The receipts have the outcomes that their calls have for a process that took no add back
pub record HasAsked (asks : List Asked) (p : ProcView) : Type 0 where
  pub receipts : p.undone ≡ 0 → AreReceipts p.soft asks p.receipts
  pub sent : (k : ℕ) (d : LaneEnd) → k < length p.lanes → tasks_of (slice_index_or p.lanes k d) ≡ accepted k asks p.receipts
  pub undone : (k : ℕ) (d : SendKnown) → k < length p.lanes → length (slice_index_or p.seats k d).sender.ledger.undone ≤ p.undone
  pub adds : (k : ℕ) (d : SendKnown) → k < length p.lanes → map shown_add (kept_adds (slice_index_or p.seats k d).sender.ledger) ≡ adds_shown k asks p.receipts
  pub stats : (k : ℕ) (d : SendKnown) → k < length p.lanes → IsSublist (stats_shown k p.receipts) (slice_index_or p.seats k d).sender.stats
  pub words : (k : ℕ) (d : SendKnown) → k < length p.lanes → IsSublist (words_shown k p.receipts) (slice_index_or p.seats k d).sender.words

-- a call touches the lane's end and the seat of its own port alone
pub record TouchesPort (port : ℕ) (lanes new_lanes : List LaneEnd) (seats new_seats : List SendKnown) : Type 0 where
  pub lanes_same : (k : ℕ) (d : LaneEnd) → k ≢ port → slice_index_or new_lanes k d ≡ slice_index_or lanes k d
  pub seats_same : (k : ℕ) (d : SendKnown) → k ≢ port → slice_index_or new_seats k d ≡ slice_index_or seats k d
  pub many : (length new_lanes ≡ length lanes) × (length new_seats ≡ length seats)

-- What a call that has a receipt leaves. The receipt's words are those that the call's own steps found or left; its number is the place of the task in the lane's end
pub record HasMade (old : ProcView) (ask : Asked) (new : ProcView) (receipt : Receipt) : Type 0 where
  pub is_receipt : IsReceiptOf (calls_of old) (soft_at ask.port old.soft) (sent_to ask.port old.lanes) ask receipt
  pub rest : new ≡ record old { lanes = new.lanes; seats = new.seats; receipts = receipt ∷ old.receipts }
  pub touched : TouchesPort ask.port old.lanes new.lanes old.seats new.seats
  pub sent : (d : LaneEnd) → HasSent ask (slice_index_or old.lanes ask.port d) (slice_index_or new.lanes ask.port d) receipt.outcome
  pub steps : (d : SendKnown) → HasStepped ask (slice_index_or old.seats ask.port d) (slice_index_or new.seats ask.port d) receipt.outcome receipt.stat receipt.msgq
  pub asked : (asks : List Asked) → HasAsked asks old → HasAsked (ask ∷ asks) new

-- a call found no memory after its look: the bytes of a command were added and taken back
pub record HasLooked (ask : Asked) (stat : ℕ) (seat new : SendKnown) : Type 0 where
  pub looks : Looks seat stat
  pub command : is_command ask.signal ≡ true → HasUndone ask.how (data_size ask.signal) (looked seat stat) new
  pub other : is_command ask.signal ≡ false → new ≡ looked seat stat

-- What a call leaves that found no memory, and has no receipt: it did nothing, or it looked. A command whose add was taken back counts as a call
pub record HasMissed (old : ProcView) (ask : Asked) (new : ProcView) : Type 0 where
  pub rest : new ≡ record old { seats = new.seats; undone = new.undone }
  pub touched : TouchesPort ask.port old.lanes new.lanes old.seats new.seats
  pub steps : (new ≡ old) ⊎ ((stat : ℕ) × ((d : SendKnown) → HasLooked ask stat (slice_index_or old.seats ask.port d) (slice_index_or new.seats ask.port d))
      × (is_command ask.signal ≡ true → new.undone ≡ old.undone + 1) × (is_command ask.signal ≡ false → new.undone ≡ old.undone))
  pub asked : (asks : List Asked) → HasAsked asks old → HasAsked asks new
