use Rattle.std.proofs.Common.{◌≡◌, ◌+◌, ◌≤◌, drop}
use Rattle.port_jobs.specs.Jobs.{are_next}
use Rattle.port_jobs.proofs.numbers.are_next.Given as goal

-- as many jobs as effects at most, and the rest decides
abbrev pub invariant-loop-effect : goal.invariant-loop-effect
invariant-loop-effect l = record {
  few : l.place ≤ l.effect-index;
  rest : are_next (l.first + l.place) (drop l.effect-index l.effects) ≡ are_next l.first l.effects;
}
