-- What a process has done in the steps so far: its monitors, and whether it has died.
use Rattle.std.specs.Prelude.{◌≡◌, ℕ, ◌<◌, ◌==◌, Bool, true, false, ◌&&◌, List, All, Option, Some, None, if◌then◌else◌, count_by, slice_get}
use Rattle.std.specs.List.{filter_map, list_any}
use Rattle.script_plan.specs.declared.step.Step.{Step}
use Rattle.script_plan.specs.declared.step.Act.{Act}
use Rattle.script_plan.specs.declared.step.Act.TheVariants.{Monitor, Demonitor, Die}

abbrev pub is_die : Act → Bool
is_die (Die reason) = true
is_die _ = false

abbrev pub is_monitor : Act → Bool
is_monitor (Monitor port number) = true
is_monitor _ = false

-- whether the act ends a monitor of this port
abbrev pub ends_monitor : ℕ → Act → Bool
ends_monitor port (Demonitor other number) = other == port
ends_monitor port _ = false

-- the number of the monitor of this port that the act begins
abbrev pub begun_monitor : ℕ → Act → Option ℕ
begun_monitor port (Monitor other number) = if other == port then Some number else None
begun_monitor port _ = None

-- whether the process has died
abbrev pub has_died : ℕ → List Step → Bool
has_died process steps = list_any (λ s. s.process == process && is_die s.act) steps

-- how many monitors the process has begun, whatever their ports
abbrev pub monitor_count : ℕ → List Step → ℕ
monitor_count process steps = count_by (λ s. s.process == process && is_monitor s.act) steps

-- the numbers of the process's monitors of this port, the oldest first
abbrev pub monitors_of : ℕ → ℕ → List Step → List ℕ
monitors_of process port steps = filter_map (λ s. if s.process == process then begun_monitor port s.act else None) steps

-- how many of them it has ended
abbrev pub ended : ℕ → ℕ → List Step → ℕ
ended process port steps = count_by (λ s. s.process == process && ends_monitor port s.act) steps

-- the oldest of them that it hasn't ended
abbrev pub oldest_monitor : ℕ → ℕ → List Step → Option ℕ
oldest_monitor process port steps = slice_get (monitors_of process port steps) (ended process port steps)

-- the monitor that the act begins or ends is among so many
abbrev pub NumberBelow : ℕ → Act → Type 0
NumberBelow count (Monitor port number) = number < count
NumberBelow count (Demonitor port number) = number < count
NumberBelow count _ = Unit {0}

-- each monitor that a step begins or ends is among those that its process begins
abbrev pub IsNumbered : List Step → Type 0
IsNumbered steps = All (λ s. NumberBelow (monitor_count s.process steps) s.act) steps

-- the monitor that the act begins comes behind so many, and the one that it ends is among them
abbrev pub NumberNext : ℕ → Act → Type 0
NumberNext count (Monitor port number) = number ≡ count
NumberNext count (Demonitor port number) = number < count
NumberNext count _ = Unit {0}
