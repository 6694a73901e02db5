-- The seats of a table as contracts see them.
use Rattle.std.specs.Prelude.{◌≡◌, ◌≢◌, ℕ, ◌+◌, ◌%◌, ◌≤◌, Bool, true, List, [], ◌∷◌, ◌++◌, All}
use Rattle.std.proofs.Common.{zero, suc}
use Rattle.atomic_table.specs.Seated.{TableId}
use Rattle.port_words.specs.declared.busy.view.AddHow.{AddHow}
use Rattle.port_words.specs.declared.busy.view.BusySetup.{BusySetup}
use Rattle.port_words.specs.declared.busy.view.QueueLimits.{QueueLimits}
use Rattle.port_words.specs.declared.busy.view.AddName.{AddName}
use Rattle.port_words.specs.declared.busy.view.SenderView.{SenderView}
use Rattle.port_words.specs.declared.busy.view.BusyView.{BusyView}
use Rattle.port_words.specs.busy.Views.{fresh_sender, view_of, seat_view}
use Rattle.port_words.specs.busy.Queue.{period_of, added, taken, is_nosuspend}
use Rattle.port_words.specs.busy.Steps.{TellsQueue, heard, adding, undoing, next_name}

-- a sender's seat, the port's seat, and a weight
pub record SendKnown : Type 0 where
  pub table : TableId
  pub setup : BusySetup
  pub sender : SenderView

pub record PortKnown : Type 0 where
  pub table : TableId
  pub known : BusyView

pub record WeightKnown : Type 0 where
  pub table : TableId
  pub name : AddName

abbrev pub send_known : TableId → BusySetup → SenderView → SendKnown
send_known table setup sender = record { table = table; setup = setup; sender = sender }

abbrev pub port_known : TableId → BusyView → PortKnown
port_known table known = record { table = table; known = known }

abbrev pub weight_known : TableId → AddName → WeightKnown
weight_known table name = record { table = table; name = name }

abbrev pub no_name : AddName
no_name = record { sender = 0; place = 0; size = 0 }

-- the one add that a weight names
abbrev pub name_of : List AddName → AddName
name_of [] = no_name
name_of (n ∷ ns) = n

-- a seat after it took in a weight of this name
abbrev pub with_weight : BusyView → AddName → BusyView
with_weight v name = record v { senders = v.senders ++ []; weights = v.weights ++ name ∷ [] }

-- the port after it took in the seat of this sender
abbrev pub with_sender : BusyView → SenderView → BusyView
with_sender v s = record v { senders = v.senders ++ s ∷ [] }

-- Each word differs from the one before it. A call that loads a word, and then tries with each word that it finds, finds these: an exchange that expected a word
-- and failed found another one
abbrev pub ChangedFrom : ℕ → List ℕ → Type 0
ChangedFrom word [] = Unit {0}
ChangedFrom word (n ∷ ns) = (n ≢ word) × ChangedFrom n ns

abbrev pub EachChanged : List ℕ → Type 0
EachChanged [] = Unit {0}
EachChanged (word ∷ ns) = ChangedFrom word ns

-- what an add without suspension found before: words that let it try
abbrev pub LetsAdd : AddHow → List ℕ → Type 0
LetsAdd how words = is_nosuspend how ≡ true → All (λ w. period_of w % 2 ≡ 0) words

-- An add that left this word from the last one that it found, and whose weight is the next of the sender. It tried again only where the word had changed
pub record AddsTo (old new : SendKnown) (how : AddHow) (size word : ℕ) (weight : WeightKnown) : Type 0 where
  pub found : List ℕ
  pub last : ℕ
  pub tries : EachChanged (found ++ last ∷ [])
  pub left : word ≡ added old.setup.limits last size
  pub permitted : LetsAdd how (found ++ last ∷ [])
  pub seat : new ≡ send_known old.table old.setup (adding (heard old.sender (found ++ last ∷ [])) how size word)
  pub tells : TellsQueue (seat_view new.setup new.sender []) word
  pub weight_is : weight ≡ weight_known old.table (next_name old.sender.ledger size)

-- A refused add: the last word that it found, and no earlier one, has an odd period, and nothing was added
pub record FindsBusy (old new : SendKnown) (how : AddHow) (word : ℕ) : Type 0 where
  pub found : List ℕ
  pub tries : EachChanged (found ++ word ∷ [])
  pub refused : is_nosuspend how ≡ true
  pub permitted : LetsAdd how found
  pub busy : period_of word % 2 ≡ 1
  pub seat : new ≡ send_known old.table old.setup (heard old.sender (found ++ word ∷ []))
  pub tells : TellsQueue (seat_view new.setup new.sender []) word

-- an add taken back, which left this word from the last one found, and tried again only where the word had changed
pub record TakesBack (old new : SendKnown) (name : AddName) (word : ℕ) : Type 0 where
  pub found : List ℕ
  pub last : ℕ
  pub tries : EachChanged (found ++ last ∷ [])
  pub left : word ≡ taken old.setup.limits last name.size
  pub seat : new ≡ send_known old.table old.setup (undoing (heard old.sender (found ++ last ∷ [])) (name ∷ []) word)
  pub tells : TellsQueue (seat_view new.setup new.sender []) word

-- the view of the port after it removed this weight and left this word
abbrev pub removed_view : BusyView → AddName → List ℕ → ℕ → BusyView
removed_view v name found word = record v { removed = v.removed ++ name ∷ []; words = v.words ++ found ++ word ∷ [] }

-- a weight removed by the port, which left this word from the last one found, and tried again only where the word had changed
pub record TakesAway (old new : PortKnown) (name : AddName) (word : ℕ) : Type 0 where
  pub found : List ℕ
  pub last : ℕ
  pub tries : EachChanged (found ++ last ∷ [])
  pub left : word ≡ taken old.known.setup.limits last name.size
  pub seat : new ≡ port_known old.table (removed_view old.known name (found ++ last ∷ []) word)
  pub tells : TellsQueue new.known word

abbrev pub setup_of : QueueLimits → ℕ → BusySetup
setup_of limits senders = record { limits = limits; senders = senders }

-- the port's seat of a new table
abbrev pub fresh_port : BusySetup → List SenderView → BusyView
fresh_port setup senders = view_of setup true [] senders [] [] []

-- limits that are on lie in range, and in order
abbrev pub InRange : Bool → ℕ → ℕ → Type 0
InRange on low high = on ≡ true → (1 ≤ low) × (low ≤ high) × (high ≤ 1073741824)

-- senders that did nothing yet, from the number n on
abbrev pub fresh_senders : ℕ → ℕ → List SenderView
fresh_senders n zero = []
fresh_senders n (suc count) = fresh_sender n ∷ fresh_senders (n + 1) count

-- the seats of the senders of a new table, from the number n on
abbrev pub fresh_seats : TableId → BusySetup → ℕ → ℕ → List SendKnown
fresh_seats table setup n zero = []
fresh_seats table setup n (suc count) = send_known table setup (fresh_sender n) ∷ fresh_seats table setup (n + 1) count

-- the seats of a new table: the port's, and one for each sender
pub record AreSeatsOf (setup : BusySetup) (port : PortKnown) (senders : List SendKnown) : Type 0 where
  pub port_is : port ≡ port_known port.table (fresh_port setup [])
  pub senders_are : senders ≡ fresh_seats port.table setup 0 setup.senders
