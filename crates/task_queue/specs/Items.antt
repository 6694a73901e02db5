-- What a list of items says of one sender.
use Rattle.std.specs.Prelude.{◌≡◌, ◌==◌, ℕ, List, map, filter, slice_index, EachIndex}
use Rattle.task_queue.specs.declared.item.Item.{Item}

module _ {T : Type 0} where
  -- the items of sender n, in order
  abbrev pub items_of : ℕ → List (Item T) → List (Item T)
  items_of n items = filter (λ x. x.sender == n) items

  -- the values of sender n, in order
  abbrev pub of : ℕ → List (Item T) → List T
  of n items = map (λ x. x.value) (items_of n items)

  -- the numbers of the items of sender n, in order
  abbrev pub numbers_of : ℕ → List (Item T) → List ℕ
  numbers_of n items = map (λ x. x.seq) (items_of n items)

  -- the numbers of each sender's items are 0, 1, 2 and so on
  abbrev pub IsNumbered : List (Item T) → Type 0
  IsNumbered items = (n : ℕ) → EachIndex (numbers_of n items) (λ k. slice_index (numbers_of n items) k ≡ k)
