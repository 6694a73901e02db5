use Rattle.std.proofs.Common.{◌≡◌, length, All}
use Rattle.gateway_script.specs.Steps.{IsNone}
use Rattle.gateway_script.proofs.steps.no_pairs.Given as goal

-- a pair without monitors for each place so far
abbrev pub invariant-loop : goal.invariant-loop
invariant-loop l = (All IsNone l.pairs.items) × (length l.pairs.items ≡ l.counter)
