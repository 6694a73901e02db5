use Rattle.std.proofs.Common.{◌≡◌, ℕ, ◌+◌, ◌<◌, [], length, vec_len, get_or}
use Rattle.lane_tests.specs.declared.lanes.PutJob.{PutJob}
use Rattle.lane_tests.proofs.lanes.jobs_of.Given as goal

-- each list so far has its job, whose end has the next number
abbrev pub invariant-loop-values : goal.invariant-loop-values
invariant-loop-values l = record {
  maker : l.maker ≡ record l.initial.maker { made = length l.yielded + 1 };
  count : vec_len l.jobs ≡ length l.yielded;
  ends : (n : ℕ) (j : PutJob) → n < length l.yielded → (get_or l.jobs.items n j).end ≡ record l.initial.maker { number = n + 1; made = 0; sent = [] };
  values : (n : ℕ) (j : PutJob) (v : _) → n < length l.yielded → (get_or l.jobs.items n j).values ≡ get_or l.yielded n v;
}
