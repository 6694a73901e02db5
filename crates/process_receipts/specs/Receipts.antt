-- The receipts of a process beside the calls that it made. Both lists are read newest first.
use Rattle.std.specs.Prelude.{◌≡◌, ℕ, ◌==◌, ◌<◌, ◌≤◌, List, [], ◌∷◌, ◌++◌, length, Bool, true, false, ◌&&◌, ◌||◌, Option, Some, None, if◌then◌else◌, slice_index_or}
use Rattle.port_words.specs.declared.busy.view.AddHow.{AddHow}
use Rattle.port_words.specs.busy.Stat.{tells_closed, tells_busy}
use Rattle.port_history.specs.port_model.Signals.{data_size, is_command}
use Rattle.port_history.specs.port_model.Tasks.{TaskView}
use Rattle.port_history.specs.Suspension.{is_queue_busy}
use Rattle.process_receipts.specs.declared.receipt.Outcome.{Outcome}
use Rattle.process_receipts.specs.declared.receipt.Outcome.TheVariants.{Accepted, Suspended, Dropped, Closed, NotSupported, TooLong, SentOut}
use Rattle.process_receipts.specs.declared.receipt.Receipt.{Receipt}
use Rattle.process_receipts.specs.Asks.{Asked, add_how, is_dropping, is_forcing, is_gone, is_long, may_stop, task_of}

-- the signal was put into the port's lane
abbrev pub is_put : Outcome → Bool
is_put Accepted = true
is_put Suspended = true
is_put outcome = false

-- the task that a call put, if it is for this port and put one
abbrev pub task_put : ℕ → Asked → Receipt → List TaskView
task_put port ask receipt = if (ask.port == port) && is_put receipt.outcome then task_of ask receipt.outcome ∷ [] else []

-- the tasks that were put into a port's lane, oldest first
abbrev pub accepted : ℕ → List Asked → List Receipt → List TaskView
accepted port [] receipts = []
accepted port (ask ∷ asks) [] = []
accepted port (ask ∷ asks) (receipt ∷ receipts) = accepted port asks receipts ++ task_put port ask receipt

-- No refusal holds that needs no look at the port. So many calls were made before, of which the last of a process, which tell its end, are not refused;
-- `soft` says whether the port's driver takes forced commands while the port is busy
pub record MayLook (calls : ℕ) (soft : Bool) (ask : Asked) : Type 0 where
  pub few : is_gone ask.signal ≡ false → calls < 131072
  pub short : is_long ask.signal ≡ false
  pub supported : is_forcing ask.how ≡ true → soft ≡ true

-- the call looked at its port, and found it open by this word
pub record FoundOpen (calls : ℕ) (soft : Bool) (ask : Asked) (stat : ℕ) : Type 0 where
  pub looked : MayLook calls soft ask
  pub opened : tells_closed stat ≡ false

-- by these words of the port it or its message queue was busy
abbrev pub shows_busy : ℕ → ℕ → Bool
shows_busy stat msgq = tells_busy stat || is_queue_busy msgq

-- For which cause a call had its outcome, with the words STAT and MSGQ that its own steps found or left. The causes exclude one another, so each outcome
-- comes exactly where its cause holds, but for want of memory, which has no receipt
abbrev pub HasCause : ℕ → Bool → Asked → Outcome → Option ℕ → Option ℕ → Type 0
HasCause calls soft ask SentOut None None = (is_gone ask.signal ≡ false) × (131072 ≤ calls)
HasCause calls soft ask TooLong None None = (is_gone ask.signal ≡ false → calls < 131072) × (is_long ask.signal ≡ true)
HasCause calls soft ask NotSupported None None =
    (is_gone ask.signal ≡ false → calls < 131072) × (is_long ask.signal ≡ false) × (is_forcing ask.how ≡ true) × (soft ≡ false)
HasCause calls soft ask Closed (Some stat) None = MayLook calls soft ask × (tells_closed stat ≡ true)
HasCause calls soft ask Dropped (Some stat) None = FoundOpen calls soft ask stat × (is_command ask.signal ≡ true) × (is_dropping ask.how ≡ true) × (tells_busy stat ≡ true)
HasCause calls soft ask Dropped (Some stat) (Some msgq) = FoundOpen calls soft ask stat
    × (is_command ask.signal ≡ true) × (is_dropping ask.how ≡ true) × (tells_busy stat ≡ false) × (is_queue_busy msgq ≡ true)
HasCause calls soft ask Suspended (Some stat) (Some msgq) = FoundOpen calls soft ask stat × (may_stop ask ≡ true) × (shows_busy stat msgq ≡ true)
HasCause calls soft ask Accepted (Some stat) (Some msgq) = FoundOpen calls soft ask stat
    × (is_command ask.signal ≡ true) × (is_dropping ask.how ≡ true → tells_busy stat ≡ false) × (may_stop ask ≡ true → shows_busy stat msgq ≡ false)
HasCause calls soft ask Accepted (Some stat) None = FoundOpen calls soft ask stat × (is_command ask.signal ≡ false)
HasCause calls soft ask outcome stat msgq = ⊥

-- the receipt of a call, made after so many others; `number` tasks were put into the port's lane before
pub record IsReceiptOf (calls : ℕ) (soft : Bool) (number : ℕ) (ask : Asked) (receipt : Receipt) : Type 0 where
  pub line : receipt.line ≡ ask.line
  pub port : receipt.port ≡ ask.port
  pub seq : receipt.seq ≡ (if is_put receipt.outcome then Some number else None)
  pub cause : HasCause calls soft ask receipt.outcome receipt.stat receipt.msgq

-- whether the driver of a port takes forced commands while the port is busy
abbrev pub soft_at : ℕ → List Bool → Bool
soft_at port soft = slice_index_or soft port false

-- there is one receipt for each call, in their order
abbrev pub AreReceipts : List Bool → List Asked → List Receipt → Type 0
AreReceipts soft [] [] = Unit {0}
AreReceipts soft [] (receipt ∷ receipts) = ⊥
AreReceipts soft (ask ∷ asks) [] = ⊥
AreReceipts soft (ask ∷ asks) (receipt ∷ receipts) =
    IsReceiptOf (length receipts) (soft_at ask.port soft) (length (accepted ask.port asks receipts)) ask receipt × AreReceipts soft asks receipts

-- the word, if there is one
abbrev pub word_list : Option ℕ → List ℕ
word_list None = []
word_list (Some word) = word ∷ []

-- the STAT and the MSGQ words that the receipts for a port show, oldest first
abbrev pub stats_shown : ℕ → List Receipt → List ℕ
stats_shown port [] = []
stats_shown port (receipt ∷ receipts) = stats_shown port receipts ++ (if receipt.port == port then word_list receipt.stat else [])

abbrev pub words_shown : ℕ → List Receipt → List ℕ
words_shown port [] = []
words_shown port (receipt ∷ receipts) = words_shown port receipts ++ (if receipt.port == port then word_list receipt.msgq else [])

-- an add to a port's word MSGQ as a receipt shows it: how, how many bytes, and the word that it left
pub record ShownAdd : Type 0 where
  pub how : AddHow
  pub size : ℕ
  pub word : ℕ

abbrev pub shown_by : Asked → Option ℕ → List ShownAdd
shown_by ask None = []
shown_by ask (Some word) = record { how = add_how ask.how; size = data_size ask.signal; word = word } ∷ []

abbrev pub add_put : ℕ → Asked → Receipt → List ShownAdd
add_put port ask receipt = if (ask.port == port) && is_put receipt.outcome then shown_by ask receipt.msgq else []

-- the adds of the commands that were put into a port's lane, oldest first
abbrev pub adds_shown : ℕ → List Asked → List Receipt → List ShownAdd
adds_shown port [] receipts = []
adds_shown port (ask ∷ asks) [] = []
adds_shown port (ask ∷ asks) (receipt ∷ receipts) = adds_shown port asks receipts ++ add_put port ask receipt

-- the elements of a list that are picked, in order
abbrev pub picked : List Bool → List ℕ → List ℕ
picked [] ws = []
picked (p ∷ picks) [] = []
picked (true ∷ picks) (w ∷ ws) = w ∷ picked picks ws
picked (false ∷ picks) (w ∷ ws) = picked picks ws

-- one list is the other without some of its elements
pub record IsSublist (ws all : List ℕ) : Type 0 where
  pub picks : List Bool
  pub as_many : length picks ≡ length all
  pub are : picked picks all ≡ ws
