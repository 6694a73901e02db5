-- The rule of a table, in parts over the setup, a word and the views. Each part is kept by each kind of step for reasons of its own, and `IsBusyTable` joins them.
use Rattle.std.specs.Prelude.{◌≡◌, ℕ, ◌+◌, ◌*◌, ◌%◌, ◌<◌, ◌≤◌, true, false, List, [], length, sum_by, All, slice_index}
use Rattle.atomic_table.specs.Table.{State}
use Rattle.port_words.specs.sums.Counts.{once_below}
use Rattle.port_words.specs.declared.busy.view.QueueLimits.{QueueLimits}
use Rattle.port_words.specs.declared.busy.view.BusySetup.{BusySetup}
use Rattle.port_words.specs.declared.busy.view.AddName.{AddName}
use Rattle.port_words.specs.declared.busy.view.SenderLedger.{SenderLedger}
use Rattle.port_words.specs.declared.busy.view.BusyView.{BusyView}
use Rattle.port_words.specs.declared.busy.view.PlannedAdd.{PlannedAdd}
use Rattle.port_words.specs.busy.Views.{over_senders, over_adds, adds_weigh, undone_weigh, weights_weigh, removed_weigh, size_of, is_add, senders_in, is_numbered, adds_made_by, WordsIn}
use Rattle.port_words.specs.busy.Stat.{IsStat}
use Rattle.port_words.specs.busy.Queue.{period_of, bytes_of, Climbs, is_left_at, left_in, unsuspended_in, filled_in, add_size, IsWithin}

-- limits that are on lie in order, and there are at most 32 senders
pub record IsSetup (setup : BusySetup) : Type 0 where
  pub ordered : setup.limits.on ≡ true → (setup.limits.low ≤ setup.limits.high) × (0 < setup.limits.high)
  pub few : setup.senders ≤ 32

-- a sender has made at most 131,072 adds, of at most 262,143 bytes each, and takes back its own
pub record IsLedger (l : SenderLedger) : Type 0 where
  pub few : length l.adds ≤ 131072
  pub small : All (λ a. a.name.size ≤ 262143) l.adds
  pub own : All (λ n. n.sender ≡ l.number) l.undone

-- The bytes are the weights that are out. The adds are the weights that are out, the adds taken back and the weights removed, however they are weighed. Each sender
-- has one view, and the adds of a sender are numbered by their places
pub record IsLedgered (setup : BusySetup) (word : ℕ) (views : List BusyView) : Type 0 where
  pub bytes : bytes_of word ≡ sum_by (weights_weigh size_of) views
  pub account : (h : AddName → ℕ) → sum_by (adds_weigh h) views ≡ sum_by (weights_weigh h) views + sum_by (undone_weigh h) views + sum_by (removed_weigh h) views
  pub numbers : (n : ℕ) → over_senders (is_numbered n) views ≡ once_below setup.senders n
  pub senders : sum_by senders_in views ≡ setup.senders
  pub places : (n place : ℕ) → sum_by (adds_weigh (is_add n place)) views ≡ once_below (over_senders (adds_made_by n) views) place
  pub each : All (λ v. All (λ s. IsLedger s.ledger) v.senders) views

-- the periods of the words in a view rise, none is above the present one, and that is at most twice the number of adds
pub record IsClimbing (word : ℕ) (views : List BusyView) : Type 0 where
  pub climbs : All (WordsIn (λ ws. Climbs 0 ws (period_of word))) views
  pub periods : period_of word + period_of word % 2 ≤ 2 * over_senders (λ l. length l.adds) views
  pub later : (period : ℕ) → period_of word < period → over_adds (is_left_at period) views ≡ 0

-- with limits on an even period has bytes below high, and an odd one at least low
pub record IsLevel (limits : QueueLimits) (word : ℕ) : Type 0 where
  pub off : limits.on ≡ false → period_of word ≡ 0
  pub even : limits.on ≡ true → period_of word % 2 ≡ 0 → bytes_of word < limits.high
  pub odd : limits.on ≡ true → period_of word % 2 ≡ 1 → limits.low ≤ bytes_of word

-- with limits on, the present word and every word in a view are within the bound, and at most one add that left an odd period is without suspension
pub record IsBounded (limits : QueueLimits) (word : ℕ) (views : List BusyView) : Type 0 where
  pub now : limits.on ≡ true → IsWithin limits (λ period. over_adds (left_in period) views) word
  pub words : limits.on ≡ true → All (WordsIn (All (IsWithin limits (λ period. over_adds (left_in period) views)))) views
  pub unsuspended : (period : ℕ) → period % 2 ≡ 1 → over_adds (unsuspended_in period) views ≤ 1

-- with limits on, an add left each odd period up to the present one with at least high bytes, and where there was one the adds have at least high bytes together
pub record IsFilled (limits : QueueLimits) (word : ℕ) (views : List BusyView) : Type 0 where
  pub filled : limits.on ≡ true → (period : ℕ) → period % 2 ≡ 1 → period ≤ period_of word → 1 ≤ over_adds (filled_in limits.high period) views
  pub heavy : limits.on ≡ true → 0 < period_of word → limits.high ≤ over_adds add_size views

-- a seat that isn't the port's removed nothing
abbrev pub RemovesAsPort : BusyView → Type 0
RemovesAsPort v = v.port ≡ false → v.removed ≡ []

-- STAT is word 0, and MSGQ is word 1
pub record IsBusyTable (setup : BusySetup) (s : State PlannedAdd BusyView) : Type 0 where
  pub two_words : length s.words ≡ 2
  pub set_up : IsSetup setup
  pub stat : IsStat (slice_index s.words 0) s.views
  pub ledgered : IsLedgered setup (slice_index s.words 1) s.views
  pub removers : All RemovesAsPort s.views
  pub climbing : IsClimbing (slice_index s.words 1) s.views
  pub level : IsLevel setup.limits (slice_index s.words 1)
  pub bounded : IsBounded setup.limits (slice_index s.words 1) s.views
  pub filled : IsFilled setup.limits (slice_index s.words 1) s.views
