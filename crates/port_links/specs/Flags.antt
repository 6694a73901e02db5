-- How the table keeps the processes: a flag for each.
use Rattle.std.specs.Prelude.{◌≡◌, ℕ, ◌+◌, ◌<◌, ◌≤◌, ◌^◌, List, [], ◌∷◌, length, Bool, All, if◌then◌else◌}
use Rattle.port_history.specs.port_model.port_signal.declared.monitor.Monitor.{Monitor}

-- the numbers of the flags that are set, where the first flag has the number `first`
abbrev pub set_flags : ℕ → List Bool → List ℕ
set_flags first [] = []
set_flags first (flag ∷ flags) = if flag then first ∷ set_flags (first + 1) flags else set_flags (first + 1) flags

-- each process that the table names has its flags, whose numbers fit 32 bits
pub record IsKept (owner : ℕ) (linked ended : List Bool) (monitors : List Monitor) : Type 0 where
  pub within : owner < length ended
  pub few : length ended ≤ 2 ^ 32
  pub long : length linked ≡ length ended
  pub known : All (λ m. m.process < length ended) monitors
