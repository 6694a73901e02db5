-- Who is suspended: the tasks that have a Listed row and no Resumed row yet, in the order of their Listed rows.
use Rattle.std.specs.Prelude.{ℕ, ◌==◌, ◌/◌, ◌%◌, ◌^◌, List, [], ◌∷◌, Bool, false, ◌&&◌, not, filter}
use Rattle.std.specs.List.{list_any}
use Rattle.driver_model.specs.port_model.declared.signal.Sender.{Sender}
use Rattle.port_history.specs.Opening.{same_sender}

-- a task by its sender and its place in that sender's order
pub record Entry : Type 0 where
  pub from : Sender
  pub seq : ℕ

abbrev pub entry : Sender → ℕ → Entry
entry from seq = record { from = from; seq = seq }

abbrev pub same_entry : Entry → Entry → Bool
same_entry e other = same_sender e.from other.from && e.seq == other.seq

abbrev pub has_entry : Entry → List Entry → Bool
has_entry e entries = list_any (same_entry e) entries

abbrev pub without_entry : Entry → List Entry → List Entry
without_entry e entries = filter (λ other. not (same_entry e other)) entries

-- a task of this sender is among these
abbrev pub has_sender : Sender → List Entry → Bool
has_sender from entries = list_any (λ e. same_sender from e.from) entries

-- it is the first of these
abbrev pub is_first : Entry → List Entry → Bool
is_first e [] = false
is_first e (first ∷ entries) = same_entry e first

-- the message queue is busy by its word MSGQ: its period, the word divided by 2^40, is odd
abbrev pub is_queue_busy : ℕ → Bool
is_queue_busy word = word / 2 ^ 40 % 2 == 1
