use Rattle.std.proofs.Common.{◌≡◌, ◌++◌, reverse}
use Rattle.std.specs.Int.Digits.{digits_of}
use Rattle.port_terms.proofs.integers.put_digits.Given as goal

abbrev pub invariant-loop-rest : goal.invariant-loop-rest
invariant-loop-rest l = l.out.items ++ reverse (digits_of 256 l.rest) ≡ l.fn.out.items ++ reverse (digits_of 256 l.number)

abbrev pub decreases-loop-rest : goal.decreases-loop-rest
decreases-loop-rest l = l.rest
