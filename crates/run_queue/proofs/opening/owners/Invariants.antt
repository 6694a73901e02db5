use Rattle.std.proofs.Common.{◌≡◌, length}
use Rattle.std.specs.List.{All}
use Rattle.run_queue.specs.Account.{all_parts}
use Rattle.run_queue.specs.Ends.{IsFreshOwner}
use Rattle.run_queue.proofs.opening.owners.Given as goal

abbrev pub invariant-owners : goal.invariant-owners
invariant-owners l = (length l.all.items ≡ l.counter) × All (IsFreshOwner all_parts) l.all.items
