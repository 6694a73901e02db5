use Rattle.std.proofs.Common.{◌≡◌, ◌<◌, ℕ, true}
use Rattle.std.specs.Ordering.{nat_cmp}
use Rattle.std.specs.BTreeSet.{contains}
use Rattle.history_tables.proofs.jobs.JobTable.are_done.Given as goal

-- each number so far was told done
abbrev pub invariant-loop-place : goal.invariant-loop-place
invariant-loop-place l = record { each : (m : ℕ) → m < l.place → contains nat_cmp l.self.told m ≡ true }
