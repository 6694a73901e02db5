-- Why a program was started, or wasn't.
use Rattle.std.specs.Prelude.{◌≡◌, ℕ, List}
use Rattle.outside.specs.Causes.{Rose}
use Rattle.outside.specs.Children.{ChildView, Starts}
use Rattle.outside.specs.declared.spawner.SpawnFault.{SpawnFault}
use Rattle.outside.specs.declared.spawner.SpawnFault.TheVariants.{Failed, NoMemory}

-- `start` answered a child of this count of faults that shows this
pub record Started (before after : ℕ) (command : List ℕ) (faults : ℕ) (child : ChildView) : Type 0 where
  pub kept : after ≡ before
  pub unharmed : faults ≡ 0
  pub starts : Starts command child

-- `start` answered this fault
abbrev pub StartErr : ℕ → ℕ → SpawnFault → Type 0
StartErr before after Failed = Rose before after
StartErr before after NoMemory = after ≡ before
