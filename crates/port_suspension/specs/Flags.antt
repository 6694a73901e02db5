-- A flag for each process, by its number: whether a task of it is listed.
use Rattle.std.specs.Prelude.{◌≡◌, ℕ, ◌<◌, List, length, Bool, false, slice_index_or}
use Rattle.suspend_list.specs.Entries.{Suspended, is_listed, EachOnce, AllBelow}

-- the flags tell which processes are listed, each of them once
pub record IsFlagged (flags : List Bool) (list : Suspended) : Type 0 where
  pub places : length flags ≡ list.places
  pub below : AllBelow list.places list.entries
  pub once : EachOnce list.entries
  pub told : (process : ℕ) → process < list.places → slice_index_or flags process false ≡ is_listed process list.entries
