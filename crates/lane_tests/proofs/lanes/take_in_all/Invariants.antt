use Rattle.std.proofs.Common.{◌≡◌, ℕ, ◌<◌, length, get_or, Contains, IsSomeAnd}
use Rattle.task_queue.specs.Ends.{ended_of}
use Rattle.lane_tests.proofs.lanes.take_in_all.Given as goal

-- each end so far is among the ended ones
abbrev pub invariant-loop-sender : goal.invariant-loop-sender
invariant-loop-sender l = record {
  same : l.end ≡ record l.initial.end { ended = l.end.ended };
  ended : (n : ℕ) (e : _) → n < length l.yielded → IsSomeAnd (get_or l.yielded n e) (λ s. Contains l.end.ended (ended_of s));
}
