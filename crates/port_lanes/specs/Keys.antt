-- The ends of a port's lane: the processes by their numbers, then the poller, then the workers, and last the timer.
use Rattle.std.specs.Prelude.{◌≡◌, ◌≤◌, ℕ, ◌+◌, ◌-◌, ◌==◌, Bool, true, nat_lt, if◌then◌else◌}
use Rattle.atomic_table.specs.Seated.{TableId}
use Rattle.port_history.specs.port_model.declared.signal.Sender.{Sender}
use Rattle.port_history.specs.port_model.declared.signal.Sender.TheVariants.{Process, Poller, Worker, Timer}

-- how many processes and workers there are, and the table of the port's words
pub record Key : Type 0 where
  pub processes : ℕ
  pub workers : ℕ
  pub table : TableId

-- the number of a sender's end
abbrev pub end_of : Key → Sender → ℕ
end_of key (Process process) = process
end_of key Poller = key.processes
end_of key (Worker worker) = key.processes + 1 + worker
end_of key Timer = key.processes + 1 + key.workers

-- the sender that has the end of this number
abbrev pub sender_at : Key → ℕ → Sender
sender_at key number =
    if nat_lt number key.processes then Process number
    else (if number == key.processes then Poller
    else (if nat_lt (number - (key.processes + 1)) key.workers then Worker (number - (key.processes + 1)) else Timer))

-- the sender is one of the processes or workers of the key, the poller or the timer
abbrev pub is_within : Key → Sender → Bool
is_within key (Process process) = nat_lt process key.processes
is_within key Poller = true
is_within key (Worker worker) = nat_lt worker key.workers
is_within key Timer = true

-- each sender within the counts has the end of its number
abbrev pub EndsAreNumbered : Type 0
EndsAreNumbered = (key : Key) (sender : Sender) → is_within key sender ≡ true → sender_at key (end_of key sender) ≡ sender

-- each number up to the timer's is that of a sender within the counts
abbrev pub NumbersHaveSenders : Type 0
NumbersHaveSenders = (key : Key) (number : ℕ) → number ≤ end_of key Timer
    → (end_of key (sender_at key number) ≡ number) × (is_within key (sender_at key number) ≡ true)
