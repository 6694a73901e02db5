-- What the words in the receipts of a run's processes say of one port, once all their seats were joined.
use Rattle.std.specs.Prelude.{◌≡◌, ℕ, ◌*◌, ◌%◌, ◌≤◌, ◌==◌, List, [], ◌∷◌, map, sum_by, length, All, true, false, nat_le}
use Rattle.port_words.specs.sums.Counts.{one_if}
use Rattle.port_words.specs.declared.busy.view.QueueLimits.{QueueLimits}
use Rattle.port_words.specs.declared.busy.view.StatMark.{StatMark}
use Rattle.port_words.specs.busy.Known.{PortKnown, SendKnown}
use Rattle.port_words.specs.busy.Queue.{period_of, bytes_of}
use Rattle.port_words.specs.busy.Stat.{Rises}
use Rattle.process_end.specs.Bounds.{queue_bound}
use Rattle.process_end.specs.process_receipts.declared.receipt.Receipt.{Receipt}
use Rattle.process_end.specs.process_receipts.Asks.{Asked}
use Rattle.process_end.specs.process_receipts.Ledgers.{kept_adds, shown_add, OncePlain}
use Rattle.process_end.specs.process_receipts.Receipts.{ShownAdd, adds_shown, stats_shown, words_shown, IsSublist}
use Rattle.run_end.specs.Words.{HasJoined}

-- the calls of a process and their receipts, both newest first
pub record Calls : Type 0 where
  pub asks : List Asked
  pub receipts : List Receipt

-- the receipts show words that this seat of the port found or left, and its adds. It took none back
pub record SeatShown (port : ℕ) (c : Calls) (seat : SendKnown) : Type 0 where
  pub stats : IsSublist (stats_shown port c.receipts) seat.sender.stats
  pub words : IsSublist (words_shown port c.receipts) seat.sender.words
  pub adds : map shown_add (kept_adds seat.sender.ledger) ≡ adds_shown port c.asks c.receipts
  pub undone : seat.sender.ledger.undone ≡ []
  pub once : OncePlain seat.sender.ledger

-- each process shows its own seat of the port
abbrev pub AreShown : ℕ → List Calls → List SendKnown → Type 0
AreShown port [] [] = Unit {0}
AreShown port (c ∷ calls) (seat ∷ seats) = SeatShown port c seat × AreShown port calls seats
AreShown port calls seats = ⊥

-- the adds to the port's queue that the receipts of each process show
abbrev pub adds_of : ℕ → List Calls → List (List ShownAdd)
adds_of port calls = map (λ c. adds_shown port c.asks c.receipts) calls

-- how many of the adds left this period with at least so many bytes, and how many bytes all added
abbrev pub filled_by : ℕ → ℕ → ShownAdd → ℕ
filled_by high period a = one_if (period_of a.word == period) * one_if (nat_le high (bytes_of a.word))

abbrev pub times_filled : ℕ → ℕ → List (List ShownAdd) → ℕ
times_filled high period all = sum_by (sum_by (filled_by high period)) all

abbrev pub bytes_added : List (List ShownAdd) → ℕ
bytes_added all = sum_by (sum_by (λ (a : ShownAdd). a.size)) all

-- a word that shows the queue busy has a cause: some command that was put left its period with at least so many bytes, and all that were put have so many together
pub record HasCause (high : ℕ) (all : List (List ShownAdd)) (word : ℕ) : Type 0 where
  pub filled : period_of word % 2 ≡ 1 → 1 ≤ times_filled high (period_of word) all
  pub heavy : period_of word % 2 ≡ 1 → high ≤ bytes_added all

-- Of a port with these limits and marks, to which `all` calls were made: the STAT words in the receipts of a process are those of beginnings of the marks, which rise. With limits on
-- each MSGQ word has bytes within the bound, and is busy only with a cause; with limits off none is busy
pub record WordsHold (port : ℕ) (limits : QueueLimits) (marks : List StatMark) (all : List Calls) (c : Calls) : Type 0 where
  pub rise : Rises marks 0 (stats_shown port c.receipts)
  pub bounded : limits.on ≡ true → All (λ w. bytes_of w ≤ queue_bound limits.high (adds_of port all)) (words_shown port c.receipts)
  pub caused : limits.on ≡ true → All (HasCause limits.high (adds_of port all)) (words_shown port c.receipts)
  pub free : limits.on ≡ false → All (λ w. period_of w ≡ 0) (words_shown port c.receipts)

-- with limits on, each of these words of the port's message queue has bytes within the bound, and is busy only with a cause; with limits off none is busy
pub record QueueWordsHold (port : ℕ) (limits : QueueLimits) (all : List Calls) (words : List ℕ) : Type 0 where
  pub bounded : limits.on ≡ true → All (λ w. bytes_of w ≤ queue_bound limits.high (adds_of port all)) words
  pub caused : limits.on ≡ true → All (HasCause limits.high (adds_of port all)) words
  pub free : limits.on ≡ false → All (λ w. period_of w ≡ 0) words

-- all seats of the port's senders were joined, of which none was joined before
pub record AllSeatsJoined (old : PortKnown) (seats : List SendKnown) (new : PortKnown) : Type 0 where
  pub joined : HasJoined old seats new
  pub none_before : old.known.senders ≡ []
  pub many : length seats ≡ old.known.setup.senders

-- so the words in all receipts hold
abbrev pub ShownWordsHold : Type 0
ShownWordsHold = (port : ℕ) (old new : PortKnown) (seats : List SendKnown) (calls : List Calls) → AllSeatsJoined old seats new → AreShown port calls seats
    → All (WordsHold port old.known.setup.limits old.known.marks calls) calls

-- and so do the words that the port itself found or left
abbrev pub OwnWordsHold : Type 0
OwnWordsHold = (port : ℕ) (old new : PortKnown) (seats : List SendKnown) (calls : List Calls) → AllSeatsJoined old seats new → AreShown port calls seats
    → QueueWordsHold port old.known.setup.limits calls old.known.words
