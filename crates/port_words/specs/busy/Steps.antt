-- What the steps do to a seat's view, and what they tell.
use Rattle.std.specs.Prelude.{◌≡◌, ◌≢◌, ℕ, ◌+◌, ◌%◌, ◌<◌, ◌≤◌, true, false, List, [], ◌∷◌, ◌++◌, length, take, drop, All}
use mathlib.Core.Option.{Option, none, some}
use Rattle.atomic_table.specs.Table.{Me}
use Rattle.port_words.specs.declared.busy.view.AddHow.{AddHow}
use Rattle.port_words.specs.declared.busy.view.BusySetup.{BusySetup}
use Rattle.port_words.specs.declared.busy.view.StatMark.{StatMark}
use Rattle.port_words.specs.declared.busy.view.AddName.{AddName}
use Rattle.port_words.specs.declared.busy.view.QueueAdd.{QueueAdd}
use Rattle.port_words.specs.declared.busy.view.SenderLedger.{SenderLedger}
use Rattle.port_words.specs.declared.busy.view.SenderView.{SenderView}
use Rattle.port_words.specs.declared.busy.view.BusyView.{BusyView}
use Rattle.port_words.specs.declared.busy.view.PlannedAdd.{PlannedAdd}
use Rattle.port_words.specs.busy.Views.{adds_by, adds_weigh, weights_weigh, undone_weigh, removed_weigh, size_of, is_add, WordsIn, fresh_sender, view_of, seat_view, weight_view}
use Rattle.port_words.specs.busy.Stat.{stat_of, Rises, EachRises}
use Rattle.port_words.specs.busy.Queue.{period_of, bytes_of, Climbs, left_in, unsuspended_in, filled_in, add_size, IsWithin, IsQueueWord}

-- What MSGQ, found or left by a step, tells a seat that then knows v. A view with every sender's seat has the whole of the bounds in itself, and the port with
-- every sender's seat has all bytes: what was added is there, was taken back or was removed
pub record TellsQueue (v : BusyView) (word : ℕ) : Type 0 where
  pub is_word : IsQueueWord v.setup.limits word
  pub weights : weights_weigh size_of v ≤ bytes_of word
  pub bytes : v.port ≡ true → length v.senders ≡ v.setup.senders → bytes_of word + undone_weigh size_of v + removed_weigh size_of v ≡ adds_weigh size_of v
  pub once : (n place : ℕ) → weights_weigh (is_add n place) v + undone_weigh (is_add n place) v + removed_weigh (is_add n place) v ≤ 1
  pub climbs : WordsIn (λ ws. Climbs 0 ws (period_of word)) v
  pub off : v.setup.limits.on ≡ false → WordsIn (All (λ w. period_of w ≡ 0)) v
  pub unsuspended : (period : ℕ) → period % 2 ≡ 1 → adds_by (unsuspended_in period) v ≤ 1
  pub bounded : length v.senders ≡ v.setup.senders → v.setup.limits.on ≡ true
      → IsWithin v.setup.limits (λ period. adds_by (left_in period) v) word × WordsIn (All (IsWithin v.setup.limits (λ period. adds_by (left_in period) v))) v
  pub filled : length v.senders ≡ v.setup.senders → v.setup.limits.on ≡ true → (period : ℕ) → period % 2 ≡ 1 → period ≤ period_of word → 1 ≤ adds_by (filled_in v.setup.limits.high period) v
  pub heavy : length v.senders ≡ v.setup.senders → v.setup.limits.on ≡ true → 0 < period_of word → v.setup.limits.high ≤ adds_by add_size v

abbrev pub first_of : List SenderView → SenderView
first_of [] = fresh_sender 0
first_of (s ∷ ss) = s

-- the one sender of a sender's seat
abbrev pub own : BusyView → SenderView
own v = first_of v.senders

-- the sender after it found a STAT word, and after it found or left MSGQ words
abbrev pub saw : SenderView → ℕ → SenderView
saw s word = record s { stats = s.stats ++ word ∷ [] }

abbrev pub heard : SenderView → List ℕ → SenderView
heard s words = record s { words = s.words ++ words }

-- the next add of a sender
abbrev pub next_name : SenderLedger → ℕ → AddName
next_name l size = record { sender = l.number; place = length l.adds; size = size }

abbrev pub next_add : SenderLedger → AddHow → ℕ → ℕ → QueueAdd
next_add l how size word = record { name = next_name l size; how = how; word = word }

-- the sender after an add that left this word
abbrev pub adding : SenderView → AddHow → ℕ → ℕ → SenderView
adding s how size word = record {
  stats = s.stats;
  ledger = record { number = s.ledger.number; adds = s.ledger.adds ++ next_add s.ledger how size word ∷ []; undone = s.ledger.undone };
  words = s.words ++ word ∷ [];
}

-- the sender after it took adds back and left this word
abbrev pub undoing : SenderView → List AddName → ℕ → SenderView
undoing s names word = record {
  stats = s.stats;
  ledger = record { number = s.ledger.number; adds = s.ledger.adds; undone = s.ledger.undone ++ names };
  words = s.words ++ word ∷ [];
}

-- the port after it found or left a word, after a mark, and after it removed its weights and left this word
abbrev pub port_heard : BusyView → List ℕ → BusyView
port_heard v words = record v { words = v.words ++ words }

abbrev pub marked : BusyView → StatMark → BusyView
marked v m = record v { marks = v.marks ++ m ∷ [] }

abbrev pub removing : BusyView → ℕ → BusyView
removing v word = record v { weights = []; removed = v.removed ++ v.weights; words = v.words ++ word ∷ [] }

-- the first sender is cut off, and the weights are
abbrev pub first_sender : BusyView → BusyView
first_sender v = view_of v.setup false [] (take 1 v.senders) [] [] []

abbrev pub other_senders : BusyView → BusyView
other_senders v = record v { senders = drop 1 v.senders }

abbrev pub its_weights : BusyView → BusyView
its_weights v = weight_view v.setup v.weights

abbrev pub no_weights : BusyView → BusyView
no_weights v = record v { weights = [] }

-- the view of a seat that took in another's, which is not the port's
abbrev pub joined : BusyView → BusyView → BusyView
joined v w = record v { senders = v.senders ++ w.senders; weights = v.weights ++ w.weights }

abbrev pub no_setup : BusySetup
no_setup = record { limits = record { on = false; low = 0; high = 0 }; senders = 0 }

abbrev pub spent : BusyView
spent = weight_view no_setup []

-- what a sender's look at STAT tells: the STAT of a beginning of the marks, after all beginnings that it saw before
abbrev pub FindsStat : Me PlannedAdd BusyView → ℕ → Me PlannedAdd BusyView → Type 0
FindsStat me word after =
    (after ≡ (seat_view me.0.setup (saw (own me.0) word) me.0.weights, me.1)) × ((marks : List StatMark) × (word ≡ stat_of marks) × Rises marks 0 (saw (own me.0) word).stats)

abbrev pub Marks : StatMark → Me PlannedAdd BusyView → ℕ → Me PlannedAdd BusyView → Type 0
Marks m me word after = (after ≡ (marked me.0 m, me.1)) × (word ≡ stat_of me.0.marks)

-- what a load tells that changes no view
abbrev pub Learns : Me PlannedAdd BusyView → ℕ → Me PlannedAdd BusyView → Type 0
Learns me word after = (after ≡ me) × TellsQueue me.0 word × EachRises me.0.marks me.0.senders

abbrev pub SenderHears : Me PlannedAdd BusyView → ℕ → Me PlannedAdd BusyView → Type 0
SenderHears me word after = let w = seat_view me.0.setup (heard (own me.0) (word ∷ [])) me.0.weights in (after ≡ (w, me.1)) × TellsQueue w word

abbrev pub PortHears : Me PlannedAdd BusyView → ℕ → Me PlannedAdd BusyView → Type 0
PortHears me word after = let w = port_heard me.0 (word ∷ []) in (after ≡ (w, me.1)) × TellsQueue w word × EachRises me.0.marks me.0.senders

-- an exchange that finds what it expects leaves the new word, and else it is a load
abbrev pub Exchanges : ℕ → ℕ → BusyView → (Me PlannedAdd BusyView → ℕ → Me PlannedAdd BusyView → Type 0) → Me PlannedAdd BusyView → ℕ → Me PlannedAdd BusyView → Type 0
Exchanges expected new w Misses me word after = (word ≡ expected → (after ≡ (w, me.1)) × TellsQueue w new) × (word ≢ expected → Misses me word after)

abbrev pub Adds : ℕ → ℕ → Option PlannedAdd → Me PlannedAdd BusyView → ℕ → Me PlannedAdd BusyView → Type 0
Adds expected new none me word after = Unit {0}
Adds expected new (some t) me word after = Exchanges expected new (seat_view me.0.setup (adding (own me.0) t.how t.size new) (me.0.weights ++ next_name (own me.0).ledger t.size ∷ [])) SenderHears me word after

abbrev pub Undoes : ℕ → ℕ → Me PlannedAdd BusyView → ℕ → Me PlannedAdd BusyView → Type 0
Undoes expected new me word after = Exchanges expected new (seat_view me.0.setup (undoing (own me.0) me.0.weights new) []) SenderHears me word after

abbrev pub Removes : ℕ → ℕ → Me PlannedAdd BusyView → ℕ → Me PlannedAdd BusyView → Type 0
Removes expected new me word after = Exchanges expected new (removing me.0 new) PortHears me word after
