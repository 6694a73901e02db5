use Rattle.std.proofs.Common.{◌≡◌, map}
use Rattle.closed_lanes.specs.Parts.{all_columns}
use Rattle.closed_lanes.proofs.columns.columns_of.Given as goal

-- the workers so far were parted
abbrev pub invariant-loop-worker : goal.invariant-loop-worker
invariant-loop-worker l = record {
  columns : map (λ c. c.items) l.columns.items ≡ all_columns (map (λ c. c.items) l.fn.processes.items) l.fn.poller.items (map (λ w. w.lanes.items) l.yielded);
  jobs : l.all_jobs.items ≡ map (λ w. w.jobs) l.yielded;
}
