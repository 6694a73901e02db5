-- The processes that are linked to a port, and the monitors of it, as lists in rising order, each once.
use Rattle.std.specs.Prelude.{◌==◌, ℕ, List, [], ◌∷◌, Bool, false, not, ◌&&◌, ◌||◌, if◌then◌else◌, nat_lt, filter}
use Rattle.port_signal.specs.declared.monitor.Monitor.{Monitor}
use Rattle.port_signal.specs.Reasons.{is_normal}

-- the process is among these
abbrev pub has : ℕ → List ℕ → Bool
has process [] = false
has process (other ∷ others) = (other == process) || has process others

-- with this process, at its place
abbrev pub with_process : ℕ → List ℕ → List ℕ
with_process process [] = process ∷ []
with_process process (other ∷ others) =
    if nat_lt process other then process ∷ other ∷ others
    else (if other == process then other ∷ others else other ∷ with_process process others)

abbrev pub without_process : ℕ → List ℕ → List ℕ
without_process process others = filter (λ other. not (other == process)) others

-- monitors are ordered by process and number
abbrev pub is_before : Monitor → Monitor → Bool
is_before m other = nat_lt m.process other.process || (m.process == other.process && nat_lt m.number other.number)

abbrev pub is_same : Monitor → Monitor → Bool
is_same m other = m.process == other.process && m.number == other.number

-- the monitor is among these
abbrev pub has_monitor : Monitor → List Monitor → Bool
has_monitor m [] = false
has_monitor m (other ∷ others) = is_same m other || has_monitor m others

-- with this monitor, at its place
abbrev pub with_monitor : Monitor → List Monitor → List Monitor
with_monitor m [] = m ∷ []
with_monitor m (other ∷ others) =
    if is_before m other then m ∷ other ∷ others
    else (if is_same m other then other ∷ others else other ∷ with_monitor m others)

abbrev pub without_monitor : Monitor → List Monitor → List Monitor
without_monitor m others = filter (λ other. not (is_same m other)) others

-- without the monitors of a process
abbrev pub without_watcher : ℕ → List Monitor → List Monitor
without_watcher process others = filter (λ other. not (other.process == process)) others

-- an exit signal closes the port where its reason is a failure, or where the owner sends it
abbrev pub exit_closes : ℕ → ℕ → List ℕ → Bool
exit_closes owner process reason = not (is_normal reason) || (process == owner)

-- the end of a process closes the port where it is the owner, or where it is linked and its reason is a failure
abbrev pub end_closes : ℕ → List ℕ → ℕ → List ℕ → Bool
end_closes owner linked process reason = (process == owner) || (has process linked && not (is_normal reason))
