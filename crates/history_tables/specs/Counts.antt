-- How many tasks of each sender have a row, as a table keeps it.
use Rattle.std.specs.Prelude.{◌≡◌, List}
use Rattle.std.specs.Map.{count_at}
use Rattle.std.specs.BTreeMap.{get}
use Rattle.port_model.specs.declared.signal.Sender.{Sender}
use Rattle.port_history.specs.Laws.{count_of}
use Rattle.history_tables.specs.declared.counts.SenderCounts.{SenderCounts}
use Rattle.history_tables.specs.Keys.{key_of, key_cmp}

-- the table counts the tasks of these senders
pub record Counts (table : SenderCounts) (senders : List Sender) : Type 0 where
  pub counts : (from : Sender) → count_at (get key_cmp table.counts) (key_of from) ≡ count_of from senders
