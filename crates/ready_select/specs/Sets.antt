-- Sets of events, as lists in rising order.
use Rattle.std.specs.Prelude.{◌≡◌, ℕ, ◌==◌, ◌≤◌, Bool, true, false, ◌&&◌, ◌||◌, not, List, length}
use Rattle.std.specs.List.{list_any}
use Rattle.std.specs.List.Sorted.{IsStrictlySortedBy}
use Rattle.std.specs.Ordering.{nat_cmp}
use Rattle.port_model.specs.declared.event.Dir.{Dir}
use Rattle.port_model.specs.declared.event.Dir.TheVariants.{Read, Write}

-- whether an event is among these
abbrev pub has : ℕ → List ℕ → Bool
has event events = list_any (λ other. other == event) events

abbrev pub same_dir : Dir → Dir → Bool
same_dir Read Read = true
same_dir Write Write = true
same_dir _ _ = false

-- a set of events for each direction
pub record PerDir : Type 0 where
  pub read : List ℕ
  pub write : List ℕ

abbrev pub in_dir : Dir → PerDir → List ℕ
in_dir Read sets = sets.read
in_dir Write sets = sets.write

-- the events of a selector, each list in rising order: those that are held or wait, those that wait, and those that are selected and armed
pub record Events : Type 0 where
  pub listed : List ℕ
  pub waiting : List ℕ
  pub selected : PerDir
  pub armed : PerDir

-- a set whose events are all among these
pub record IsPartOf (events part : List ℕ) : Type 0 where
  pub rising : IsStrictlySortedBy nat_cmp part
  pub within : (event : ℕ) → has event part ≡ true → has event events ≡ true

-- at most 64 events are held or wait, every other set is a part of those, and no event that waits is selected
pub record IsKept (events : Events) : Type 0 where
  pub rising : IsStrictlySortedBy nat_cmp events.listed
  pub few : length events.listed ≤ 64
  pub waiting : IsPartOf events.listed events.waiting
  pub selected : (dir : Dir) → IsPartOf events.listed (in_dir dir events.selected)
  pub armed : (dir : Dir) → IsPartOf events.listed (in_dir dir events.armed)
  pub given_up : (event : ℕ) (dir : Dir) → has event events.waiting ≡ true → has event (in_dir dir events.selected) ≡ false

-- the new set is the old one with the event, where it was put in, and in order if the old one was
pub record IsWith (old new : List ℕ) (event : ℕ) (put : Bool) : Type 0 where
  pub has_lem : (other : ℕ) → has other new ≡ (((event == other) && put) || has other old)
  pub rising : IsStrictlySortedBy nat_cmp old → IsStrictlySortedBy nat_cmp new

-- and without it, where it was taken out
pub record IsWithout (old new : List ℕ) (event : ℕ) (taken : Bool) : Type 0 where
  pub has_lem : (other : ℕ) → has other new ≡ (has other old && not ((event == other) && taken))
  pub rising : IsStrictlySortedBy nat_cmp old → IsStrictlySortedBy nat_cmp new
