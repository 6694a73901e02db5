-- The ties of a port, and the processes that its driver watches, as tables keep them.
use Rattle.std.specs.Prelude.{◌≡◌, ℕ, List}
use Rattle.std.specs.Ordering.{nat_cmp}
use Rattle.std.specs.BTreeSet.{contains}
use Rattle.port_signal.specs.Links.{has}
use Rattle.port_history.specs.Ties.{Ties}
use Rattle.history_tables.specs.declared.ties.PortTies.{PortTies}
use Rattle.history_tables.specs.declared.watched.WatchedProcesses.{WatchedProcesses}

-- the table has the owner, the linked processes and those that have ended
pub record Tied (table : PortTies) (ties : Ties) : Type 0 where
  pub owner : table.owner ≡ ties.owner
  pub linked : (process : ℕ) → contains nat_cmp table.linked process ≡ has process ties.linked
  pub ended : (process : ℕ) → contains nat_cmp table.ended process ≡ has process ties.ended

-- the table has these processes
pub record Watches (table : WatchedProcesses) (watched : List ℕ) : Type 0 where
  pub each : (process : ℕ) → contains nat_cmp table.processes process ≡ has process watched
