use Rattle.std.proofs.Common.{◌≤◌, ◌<◌, ℕ, length, vec_len}
use Rattle.std.specs.Prelude.{slice_index_or}
use Rattle.run_lanes.specs.declared.parts.ProcessLanes.{ProcessLanes}
use Rattle.run_lanes.specs.Opened.{CanBegin}
use Rattle.port_bench.proofs.opening.peers.Given as goal

abbrev pub decreases-processes : goal.decreases-processes
decreases-processes l = vec_len l.all

abbrev pub invariant-processes : goal.invariant-processes
invariant-processes l =
    (length l.all.items ≤ 32)
    × ((process : ℕ) (d : ProcessLanes) → process < length l.all.items → CanBegin 1 process (slice_index_or l.all.items process d))
