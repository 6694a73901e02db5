-- The bound on the bytes of a message queue, from the commands that its senders put. What follows for who joins the seats at the end of a run.
use Rattle.std.specs.Prelude.{◌≡◌, ℕ, ◌+◌, ◌-◌, ◌≤◌, Bool, true, false, List, [], ◌∷◌, length, map, sum_by, All, nat_lt, if◌then◌else◌}
use Rattle.port_words.specs.declared.busy.view.AddHow.{AddHow}
use Rattle.port_words.specs.declared.busy.view.AddHow.TheVariants.{Forced}
use Rattle.port_words.specs.declared.busy.view.BusyView.{BusyView}
use Rattle.port_words.specs.declared.busy.view.SenderLedger.{SenderLedger}
use Rattle.port_words.specs.busy.Queue.{bytes_of, is_nosuspend}
use Rattle.port_words.specs.busy.Steps.{TellsQueue}
use Rattle.port_words.specs.busy.Views.{WordsIn}
use Rattle.process_receipts.specs.Receipts.{ShownAdd}
use Rattle.process_receipts.specs.Ledgers.{kept_adds, shown_add, OncePlain}

abbrev pub is_forced : AddHow → Bool
is_forced Forced = true
is_forced how = false

abbrev pub larger : ℕ → ℕ → ℕ
larger n m = if nat_lt n m then m else n

module _ {X : Type 0} where
  -- the greatest of the elements' sizes
  abbrev pub greatest : (X → ℕ) → List X → ℕ
  greatest size [] = 0
  greatest size (x ∷ xs) = larger (size x) (greatest size xs)

-- the size of an add that isn't forced, of one that is refused in place of suspending its sender, and of a forced one
abbrev pub unforced_size : ShownAdd → ℕ
unforced_size a = if is_forced a.how then 0 else a.size

abbrev pub unsuspended_size : ShownAdd → ℕ
unsuspended_size a = if is_nosuspend a.how then a.size else 0

abbrev pub forced_size : ShownAdd → ℕ
forced_size a = if is_forced a.how then a.size else 0

-- Less than the high limit, and on top of that the greatest command that is refused in place of suspending, for each sender its greatest command that isn't forced,
-- and all forced commands
abbrev pub queue_bound : ℕ → List (List ShownAdd) → ℕ
queue_bound high senders = high - 1 + greatest (greatest unsuspended_size) senders + sum_by (greatest unforced_size) senders + sum_by (sum_by forced_size) senders

-- The port with limits that are on took in the seat of every sender; of each one's plain adds that left one and the same odd period there was at most one, and it
-- took no add back
pub record AllJoined (v : BusyView) : Type 0 where
  pub limited : v.setup.limits.on ≡ true
  pub all : length v.senders ≡ v.setup.senders
  pub senders : All (λ s. OncePlain s.ledger × (s.ledger.undone ≡ [])) v.senders

-- the adds of each sender
abbrev pub adds_joined : BusyView → List (List ShownAdd)
adds_joined v = map (λ s. map shown_add s.ledger.adds) v.senders

-- every word that the port or a sender found or left has bytes within the bound
abbrev pub WordsKeepBound : Type 0
WordsKeepBound = (v : BusyView) (word : ℕ) → AllJoined v → TellsQueue v word → WordsIn (All (λ w. bytes_of w ≤ queue_bound v.setup.limits.high (adds_joined v))) v

-- where no add was taken back, those that weren't are all
abbrev pub KeptAreAll : Type 0
KeptAreAll = (l : SenderLedger) → l.undone ≡ [] → kept_adds l ≡ l.adds
