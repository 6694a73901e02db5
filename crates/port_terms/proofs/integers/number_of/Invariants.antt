use Rattle.std.proofs.Common.{◌≡◌, ◌<◌, ◌^◌, take, reverse}
use Rattle.std.specs.Int.Digits.{number_from_digits}
use Rattle.port_terms.proofs.integers.number_of.Given as goal

abbrev pub invariant-loop-i : goal.invariant-loop-i
invariant-loop-i l = record {
  fits : l.number < 2 ^ 64;
  so_far : l.number ≡ number_from_digits 256 (take l.i (reverse l.digits));
}
