-- The numbers and the senders of tasks, behind those that went before them.
use Rattle.std.specs.Prelude.{ℕ, ◌<◌, ◌≡◌, List, [], ◌∷◌, ◌++◌, length}
use Rattle.task_queue.specs.declared.item.Item.{Item}
use Rattle.task_queue.specs.Items.{of}
use Rattle.port_lanes.specs.Parcels.{ParcelView}

-- the number of each task is its place among those of its sender, behind those before
abbrev pub InOrder : List (Item ParcelView) → List (Item ParcelView) → Type 0
InOrder before [] = Unit {0}
InOrder before (item ∷ later) = (item.seq ≡ length (of item.sender before)) × InOrder (before ++ item ∷ []) later

-- the sender of each task is one of so many
abbrev pub SendersBelow : ℕ → List (Item ParcelView) → Type 0
SendersBelow senders [] = Unit {0}
SendersBelow senders (item ∷ later) = (item.sender < senders) × SendersBelow senders later
