-- Who is suspended, as a table keeps it.
use Rattle.std.specs.Prelude.{◌≡◌, ℕ, List, [], ◌∷◌, map, false}
use Rattle.std.specs.BTreeSet.{contains}
use Rattle.port_model.specs.declared.signal.Sender.{Sender}
use Rattle.port_history.specs.Suspension.{Entry, entry, has_entry, has_sender}
use Rattle.history_tables.specs.declared.key.TaskKey.{TaskKey}
use Rattle.history_tables.specs.declared.listed.ListedTasks.{ListedTasks}
use Rattle.history_tables.specs.Keys.{key_of, key_cmp, task_key, task_cmp}

abbrev pub key_of_entry : Entry → TaskKey
key_of_entry e = task_key e.from e.seq

-- no two of these tasks are of one sender
abbrev pub AreApart : List Entry → Type 0
AreApart [] = Unit {0}
AreApart (e ∷ entries) = (has_sender e.from entries ≡ false) × AreApart entries

-- the table has the tasks that wait for a resume, in their order, each of another sender, and all that were listed
pub record Lists (table : ListedTasks) (listed entries : List Entry) : Type 0 where
  pub all : (from : Sender) (seq : ℕ) → contains task_cmp table.all (task_key from seq) ≡ has_entry (entry from seq) entries
  pub suspended : (from : Sender) → contains key_cmp table.suspended (key_of from) ≡ has_sender from listed
  pub waiting : table.waiting.items ≡ map key_of_entry listed
  pub apart : AreApart listed
