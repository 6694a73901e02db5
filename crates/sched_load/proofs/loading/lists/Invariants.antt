use Rattle.std.proofs.Common.{◌≡◌, length}
use Rattle.std.specs.List.{All}
use Rattle.sched_load.proofs.loading.lists.Given as goal

abbrev pub invariant-jobs : goal.invariant-jobs
invariant-jobs l = All (λ m. length m.items ≡ length l.fn.firsts.items) l.all.items × (length l.firsts.items ≡ length l.fn.firsts.items) × All (λ e. e.number ≡ 0) l.firsts.items
