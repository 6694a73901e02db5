-- What holds of every table, whatever its threads do and in whatever order.
use Rattle.std.specs.Prelude.{◌≡◌, ℕ, ◌+◌, ◌*◌, ◌%◌, ◌<◌, ◌≤◌, true, false, List, [], ◌∷◌, ◌++◌, ◌==◌, length, sum_by, All, slice_index}
use mathlib.Core.Option.{some}
use lib.ListN.{get_elem?}
use prog.Atomic.{either}
use Rattle.atomic_table.specs.Table.{State, Me, Allows, Splits, Joins, opening}
use Rattle.port_words.specs.declared.busy.view.AddName.{AddName}
use Rattle.port_words.specs.declared.busy.view.BusySetup.{BusySetup}
use Rattle.port_words.specs.declared.busy.view.BusyView.{BusyView}
use Rattle.port_words.specs.declared.busy.view.PlannedAdd.{PlannedAdd}
use Rattle.port_words.specs.declared.busy.view.SenderView.{SenderView}
use Rattle.port_words.specs.declared.busy.view.StatMark.{StatMark}
use Rattle.port_words.specs.busy.Views.{over_adds, over_senders, WordsIn, adds_weigh, undone_weigh, weights_weigh, removed_weigh, size_of, is_add, seat_view}
use Rattle.port_words.specs.busy.Stat.{stat_of, EachRises}
use Rattle.port_words.specs.busy.Queue.{period_of, bytes_of, Climbs, IsWithin, left_in, unsuspended_in, filled_in, add_size, added, taken, is_nosuspend}
use Rattle.port_words.specs.busy.Parts.{IsSetup, IsBusyTable}
use Rattle.port_words.specs.busy.Steps.{first_sender, other_senders, its_weights, no_weights, joined, spent, FindsStat, Marks, Learns, SenderHears, PortHears, Adds, Undoes, Removes}
use Rattle.port_words.specs.busy.Known.{fresh_port, fresh_senders}

-- of a table with this setup, at a moment at which the rule holds
abbrev pub Always : ((setup : BusySetup) → State PlannedAdd BusyView → Type 0) → Type 0
Always P = (setup : BusySetup) (s : State PlannedAdd BusyView) → IsBusyTable setup s → P setup s

-- STAT is that of the port's marks, and each STAT word that a sender found is that of a beginning of them
abbrev pub StatTellsMarks : Type 0
StatTellsMarks = Always (λ setup s.
    (i : ℕ) (v : BusyView) → get_elem? s.views i ≡ some v → v.port ≡ true → (slice_index s.words 0 ≡ stat_of v.marks) × All (λ u. EachRises v.marks u.senders) s.views)

-- the bytes of MSGQ are the sizes of all adds that were neither taken back nor removed
abbrev pub BytesAreAdds : Type 0
BytesAreAdds = Always (λ setup s.
    bytes_of (slice_index s.words 1) + sum_by (undone_weigh size_of) s.views + sum_by (removed_weigh size_of) s.views ≡ sum_by (adds_weigh size_of) s.views)

-- each add is out, was taken back, or was removed, at most once in all
abbrev pub AddsDiffer : Type 0
AddsDiffer = Always (λ setup s. (sender place : ℕ) →
    sum_by (weights_weigh (is_add sender place)) s.views + sum_by (undone_weigh (is_add sender place)) s.views + sum_by (removed_weigh (is_add sender place)) s.views ≤ 1)

-- With limits on, the bytes stay below high, and below high and the sizes of the adds that left the present period where it is odd, of which one at most is without
-- suspension
abbrev pub BytesAreBounded : Type 0
BytesAreBounded = Always (λ setup s. setup.limits.on ≡ true →
    (bytes_of (slice_index s.words 1) < setup.limits.high + over_adds (left_in (period_of (slice_index s.words 1))) s.views)
    × (period_of (slice_index s.words 1) % 2 ≡ 0 → bytes_of (slice_index s.words 1) < setup.limits.high)
    × ((period : ℕ) → period % 2 ≡ 1 → over_adds (unsuspended_in period) s.views ≤ 1))

-- with limits on, a queue was busy only where the adds were at least high bytes together, and is busy only with at least low bytes
abbrev pub BusyHasCause : Type 0
BusyHasCause = Always (λ setup s. setup.limits.on ≡ true →
    (0 < period_of (slice_index s.words 1) → setup.limits.high ≤ over_adds add_size s.views)
    × (period_of (slice_index s.words 1) % 2 ≡ 1 → setup.limits.low ≤ bytes_of (slice_index s.words 1)))

-- the periods of the MSGQ words in a view rise, none is above the present one, and that is at most twice the number of adds
abbrev pub PeriodsClimb : Type 0
PeriodsClimb = Always (λ setup s.
    All (WordsIn (λ words. Climbs 0 words (period_of (slice_index s.words 1)))) s.views × (period_of (slice_index s.words 1) ≤ 2 * over_senders (λ l. length l.adds) s.views))

-- with limits on, every MSGQ word in a view is within the bound of its period
abbrev pub WordsAreBounded : Type 0
WordsAreBounded = Always (λ setup s. setup.limits.on ≡ true → All (WordsIn (All (IsWithin setup.limits (λ period. over_adds (left_in period) s.views)))) s.views)

-- with limits on, an add left each odd period so far with at least high bytes
abbrev pub PeriodsAreFilled : Type 0
PeriodsAreFilled = Always (λ setup s. setup.limits.on ≡ true →
    (period : ℕ) → period % 2 ≡ 1 → period ≤ period_of (slice_index s.words 1) → 1 ≤ over_adds (filled_in setup.limits.high period) s.views)

-- with limits off the queue is never busy
abbrev pub NeverBusyOff : Type 0
NeverBusyOff = Always (λ setup s. setup.limits.on ≡ false → period_of (slice_index s.words 1) ≡ 0)

-- a new table meets the rule
abbrev pub NewTableKept : Type 0
NewTableKept = (setup : BusySetup) → IsSetup setup → IsBusyTable setup (opening (0 ∷ 0 ∷ []) [] (fresh_port setup (fresh_senders 0 setup.senders)))

-- a sender's seat is split off, the weights are, and a seat that isn't the port's is joined into another
abbrev pub SenderSplitKept : Type 0
SenderSplitKept = (setup : BusySetup) (id : ℕ) (v : BusyView) → v.setup ≡ setup → Splits (IsBusyTable setup) id v (other_senders v) (first_sender v)

abbrev pub WeightSplitKept : Type 0
WeightSplitKept = (setup : BusySetup) (id : ℕ) (v : BusyView) → v.setup ≡ setup → Splits (IsBusyTable setup) id v (no_weights v) (its_weights v)

abbrev pub SeatJoinKept : Type 0
SeatJoinKept = (setup : BusySetup) (id other : ℕ) (v w : BusyView) → v.setup ≡ setup → w.removed ≡ [] → Joins (IsBusyTable setup) id v other w (joined v w) spent

-- a sender looks at STAT, and the port marks it
abbrev pub StatLookKept : Type 0
StatLookKept = (setup : BusySetup) (slots id : ℕ) (s : SenderView) (ws : List AddName) (c : List (ℕ × PlannedAdd)) → Allows (IsBusyTable setup) slots id (seat_view setup s ws, c) 0 (λ n. n) (FindsStat (seat_view setup s ws, c))

abbrev pub MarkKept : Type 0
MarkKept = (setup : BusySetup) (slots id : ℕ) (me : Me PlannedAdd BusyView) (m : StatMark) → me.0.setup ≡ setup → me.0.port ≡ true → Allows (IsBusyTable setup) slots id me 0 (λ n. stat_of (me.0.marks ++ m ∷ [])) (Marks m me)

-- a sender and the port look at MSGQ, and the port learns
abbrev pub SenderLookKept : Type 0
SenderLookKept = (setup : BusySetup) (slots id : ℕ) (s : SenderView) (ws : List AddName) (c : List (ℕ × PlannedAdd)) → Allows (IsBusyTable setup) slots id (seat_view setup s ws, c) 1 (λ n. n) (SenderHears (seat_view setup s ws, c))

abbrev pub PortLookKept : Type 0
PortLookKept = (setup : BusySetup) (slots id : ℕ) (me : Me PlannedAdd BusyView) → me.0.setup ≡ setup → me.0.port ≡ true
    → Allows (IsBusyTable setup) slots id me 1 (λ n. n) (PortHears me) × Allows (IsBusyTable setup) slots id me 1 (λ n. n) (Learns me)

-- a sender adds and takes back, and the port removes
abbrev pub AddKept : Type 0
AddKept = (setup : BusySetup) (slots id : ℕ) (s : SenderView) (t : PlannedAdd) (expected new : ℕ) → new ≡ added setup.limits expected t.size → length s.ledger.adds < 131072 → t.size ≤ 262143
    → (is_nosuspend t.how ≡ true → period_of expected % 2 ≡ 0)
    → Allows (IsBusyTable setup) slots id (seat_view setup s [], []) 1 (λ n. either (n == expected) new n) (Adds expected new (some t) (seat_view setup s [], []))

abbrev pub UndoKept : Type 0
UndoKept = (setup : BusySetup) (slots id : ℕ) (s : SenderView) (ws : List AddName) (expected new : ℕ) → new ≡ taken setup.limits expected (sum_by size_of ws) → All (λ n. n.sender ≡ s.ledger.number) ws
    → Allows (IsBusyTable setup) slots id (seat_view setup s ws, []) 1 (λ n. either (n == expected) new n) (Undoes expected new (seat_view setup s ws, []))

abbrev pub RemovalKept : Type 0
RemovalKept = (setup : BusySetup) (slots id : ℕ) (v : BusyView) (expected new : ℕ) → v.setup ≡ setup → v.port ≡ true → new ≡ taken setup.limits expected (weights_weigh size_of v)
    → Allows (IsBusyTable setup) slots id (v, []) 1 (λ n. either (n == expected) new n) (Removes expected new (v, []))
