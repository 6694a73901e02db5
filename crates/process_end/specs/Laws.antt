-- What follows of what a process keeps, for who joins the seats at the end of a run.
use Rattle.std.specs.Prelude.{◌≡◌, ℕ, List, false, ◌&&◌}
use Rattle.port_words.specs.declared.busy.view.AddHow.{AddHow}
use Rattle.port_words.specs.declared.busy.view.StatMark.{StatMark}
use Rattle.port_words.specs.declared.busy.view.SenderView.{SenderView}
use Rattle.port_words.specs.busy.Queue.{period_of, Climbs}
use Rattle.port_words.specs.busy.Stat.{Rises}
use Rattle.port_words.specs.busy.Steps.{adding, heard}
use Rattle.port_lanes.specs.port_history.Suspension.{is_queue_busy}
use Rattle.process_receipts.specs.Receipts.{IsSublist}
use Rattle.process_receipts.specs.Ledgers.{saw_closed, is_plain, ArePlaced, IsFree, IsWaiting, OncePlain}

-- STAT words that a seat found of these marks, and the receipts show: they are those of beginnings of the marks, which rise
abbrev pub ShownStatsRise : Type 0
ShownStatsRise = (marks : List StatMark) (shown stats : List ℕ) → IsSublist shown stats → Rises marks 0 stats → Rises marks 0 shown

-- a sender that is free makes at most one plain add for each odd period that it doesn't take back
abbrev pub AddKeepsOnce : Type 0
AddKeepsOnce = (s : SenderView) (found : List ℕ) (how : AddHow) (size word : ℕ) → ArePlaced s.ledger → IsFree s → saw_closed s.stats ≡ false
    → Climbs 0 (adding (heard s found) how size word).words (period_of word) → OncePlain s.ledger → OncePlain (adding (heard s found) how size word).ledger

-- it stays free after an add that isn't plain or left the queue free, and waits after any other
abbrev pub AddFreesOrStops : Type 0
AddFreesOrStops = (s : SenderView) (found : List ℕ) (how : AddHow) (size word : ℕ) → ArePlaced s.ledger → IsFree s
    → ((is_plain how && is_queue_busy word) ≡ false → IsFree (adding (heard s found) how size word)) × IsWaiting word (adding (heard s found) how size word)
