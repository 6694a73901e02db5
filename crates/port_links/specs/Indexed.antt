-- How the table keeps the monitors: in a slab, with an index that tells the key of each.
use Rattle.std.specs.Prelude.{◌≡◌, ℕ, Option, Some}
use Rattle.std.specs.declared.cmp.Ordering.{Ordering}
use Rattle.std.specs.BTreeMap.{BTreeMap, IsOrdered, get as key_at}
use Rattle.slab.specs.Slab.{Slab, get as monitor_at}
use Rattle.port_history.specs.port_model.port_signal.declared.monitor.Monitor.{Monitor}
use Rattle.port_history.specs.port_model.port_signal.contracts.monitor.MonitorOrd.TheImpl as ord

-- how the program compares monitors
abbrev pub monitor_cmp : Monitor → Monitor → Ordering
monitor_cmp = ord.ghosts.cmp

-- each key that is told for a monitor has that monitor, and each monitor that lies under a key is told that key
pub record Invert (monitor_of : ℕ → Option Monitor) (key_of : Monitor → Option ℕ) : Type 0 where
  pub kept : (m : Monitor) (key : ℕ) → key_of m ≡ Some key → monitor_of key ≡ Some m
  pub found : (m : Monitor) (key : ℕ) → monitor_of key ≡ Some m → key_of m ≡ Some key

-- the index is in order, and tells of each monitor of the slab, and of no other, the key that it lies under
pub record IsIndexed (slab : Slab Monitor) (index : BTreeMap Monitor ℕ) : Type 0 where
  pub rising : IsOrdered monitor_cmp index
  pub inverse : Invert (monitor_at slab) (key_at monitor_cmp index)
