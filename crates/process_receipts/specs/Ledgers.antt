-- What a sender's seat tells of its adds: those that it didn't take back, and which of them the queue has left behind.
use Rattle.std.specs.Prelude.{◌≡◌, ℕ, ◌*◌, ◌%◌, ◌<◌, ◌≤◌, ◌==◌, List, filter, length, Bool, true, false, ◌&&◌, ◌||◌, not, nat_lt, sum_by, All, Contains}
use Rattle.std.specs.List.{list_any}
use Rattle.port_words.specs.sums.Counts.{one_if}
use Rattle.port_words.specs.declared.busy.view.AddHow.{AddHow}
use Rattle.port_words.specs.declared.busy.view.AddHow.TheVariants.{Plain}
use Rattle.port_words.specs.declared.busy.view.AddName.{AddName}
use Rattle.port_words.specs.declared.busy.view.QueueAdd.{QueueAdd}
use Rattle.port_words.specs.declared.busy.view.SenderLedger.{SenderLedger}
use Rattle.port_words.specs.declared.busy.view.SenderView.{SenderView}
use Rattle.port_words.specs.busy.Queue.{period_of, is_left_at}
use Rattle.port_words.specs.busy.Stat.{tells_closed}
use Rattle.port_history.specs.Suspension.{is_queue_busy}
use Rattle.process_receipts.specs.Receipts.{ShownAdd}

-- the add was taken back
abbrev pub is_undone : List AddName → QueueAdd → Bool
is_undone undone a = list_any (λ n. n.place == a.name.place) undone

-- the adds that weren't taken back
abbrev pub kept_adds : SenderLedger → List QueueAdd
kept_adds l = filter (λ a. not (is_undone l.undone a)) l.adds

abbrev pub shown_add : QueueAdd → ShownAdd
shown_add a = record { how = a.how; size = a.name.size; word = a.word }

abbrev pub is_plain : AddHow → Bool
is_plain Plain = true
is_plain how = false

-- 1 of a plain add that left this period
abbrev pub plain_in : ℕ → QueueAdd → ℕ
plain_in period a = is_left_at period a * one_if (is_plain a.how)

-- of the plain adds that left one and the same odd period, at most one wasn't taken back
abbrev pub OncePlain : SenderLedger → Type 0
OncePlain l = (period : ℕ) → period % 2 ≡ 1 → sum_by (plain_in period) (kept_adds l) ≤ 1

-- each add has a place below their count
abbrev pub ArePlaced : SenderLedger → Type 0
ArePlaced l = All (λ a. a.name.place < length l.adds) l.adds × All (λ n. n.place < length l.adds) l.undone

-- the sender saw its port closed, and saw a word of a later period
abbrev pub saw_closed : List ℕ → Bool
saw_closed stats = list_any tells_closed stats

abbrev pub saw_later : ℕ → List ℕ → Bool
saw_later period words = list_any (λ w. nat_lt period (period_of w)) words

-- a plain add that left the queue busy
abbrev pub is_stopping_add : QueueAdd → Bool
is_stopping_add a = is_plain a.how && is_queue_busy a.word

-- its busy period is over, as the sender saw
abbrev pub IsOver : SenderView → QueueAdd → Type 0
IsOver s a = is_stopping_add a ≡ true → (saw_closed s.stats || saw_later (period_of a.word) s.words) ≡ true

-- the sender may add again: each busy period that it made with a plain add is over
abbrev pub IsFree : SenderView → Type 0
IsFree s = All (IsOver s) (kept_adds s.ledger)

-- the same but for the period of this word, which the sender heard
pub record IsWaiting (word : ℕ) (s : SenderView) : Type 0 where
  pub heard : Contains s.words word
  pub free : All (λ a. is_stopping_add a ≡ true → (period_of a.word == period_of word) ≡ false → IsOver s a) (kept_adds s.ledger)
