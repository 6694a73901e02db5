use Rattle.std.proofs.Common.{◌≡◌, length}
use Rattle.std.specs.List.{All}
use Rattle.sched_load.proofs.loading.tills.Given as goal

abbrev pub invariant-ports : goal.invariant-ports
invariant-ports l = (length l.all.items ≡ l.port) × (length l.firsts.items ≡ l.port) × All (λ e. e.number ≡ 0) l.firsts.items
