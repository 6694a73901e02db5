-- Tasks that wait, and which of them goes first.
use Rattle.std.specs.Prelude.{◌≡◌, ◌==◌, ℕ, List, ◌∷◌, ◌++◌, Bool, true, false, not, ◌&&◌}
use Rattle.std.specs.List.{list_any}
use Rattle.task_queue.specs.declared.item.Item.{Item}
use Rattle.port_lanes.specs.Parcels.{ParcelView}
use Rattle.port_lanes.specs.port_history.Laws.{waits_where_busy}

-- the tasks that wait, in the order in which they came, how many senders there are, and for how many more tasks there is a
-- place, whoever sends them
pub record Waiting : Type 0 where
  pub items : List (Item ParcelView)
  pub senders : ℕ
  pub room : ℕ

-- some task has this sender
abbrev pub has_sender : ℕ → List (Item ParcelView) → Bool
has_sender sender items = list_any (λ i. i.sender == sender) items

-- a task may go where no earlier one has its sender, and where it isn't a command, or is a forced one, or the port isn't busy
abbrev pub may_go : Bool → List (Item ParcelView) → Item ParcelView → Bool
may_go busy earlier x = not (has_sender x.sender earlier) && not (busy && waits_where_busy x.value.task)

-- x is the first task that may go, and the rest stays in its order
pub record GoesFirst (busy : Bool) (items : List (Item ParcelView)) (x : Item ParcelView) (rest : List (Item ParcelView)) : Type 0 where
  pub before : List (Item ParcelView)
  pub after : List (Item ParcelView)
  pub split : items ≡ before ++ x ∷ after
  pub left : rest ≡ before ++ after
  pub goes : may_go busy before x ≡ true
  pub first : (earlier : List (Item ParcelView)) (y : Item ParcelView) (later : List (Item ParcelView)) → before ≡ earlier ++ y ∷ later
      → may_go busy earlier y ≡ false

-- no task may go
abbrev pub NoneGoes : Bool → List (Item ParcelView) → Type 0
NoneGoes busy items = (earlier : List (Item ParcelView)) (y : Item ParcelView) (later : List (Item ParcelView)) → items ≡ earlier ++ y ∷ later
    → may_go busy earlier y ≡ false
