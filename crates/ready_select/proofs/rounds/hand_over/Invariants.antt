use Rattle.std.proofs.Common.{◌≡◌, ◌+◌, ◌-◌, ◌≤◌, ◌++◌, map, filter, take, length, vec_len, vec_capacity}
use Rattle.ready_select.specs.Sets.{has}
use Rattle.ready_select.specs.Polling.{arm_ask}
use Rattle.ready_select.proofs.rounds.hand_over.Given as goal

abbrev pub invariant-loop-entry : goal.invariant-loop-entry
invariant-loop-entry l = record {
  found : l.found.items ≡ l.initial.found.items ++ map arm_ask (filter (λ a. has a.event l.events) (take l.entry-index l.entry-items));
  room : vec_len l.found + (length l.entry-items - l.entry-index) ≤ vec_capacity l.found;
}
