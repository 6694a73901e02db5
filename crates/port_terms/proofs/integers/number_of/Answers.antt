use Rattle.std.proofs.Common.{◌≡◌, ◌+◌, ◌<◌, ◌^◌, take, reverse, ap, ◌∙◌, arith}
use Rattle.std.specs.Int.Digits.{number_from_digits}
use Rattle.std.proofs.lemmas.List.{take_all, length-reverse}
use Rattle.port_terms.specs.Spelling.{little_endian}
use Rattle.port_terms.proofs.Digits.{one_more_digit, front_le}
use Rattle.port_terms.proofs.integers.number_of.Goals as goal

pub returns-in_err-checked_mul : goal.returns-in_err-checked_mul
returns-in_err-checked_mul c =
    let digits = c.args.digits.now in
    let next = one_more_digit digits c.loop-i.i c.loop-i.number c.loop-i-test.true c.loop-i.invariant.so_far in
    let front = front_le digits (c.loop-i.i + 1) in
    rw c.from_residual.ensures (λ (lt : little_endian digits < 2 ^ 64). c.in_err-checked_mul.ensures (omega (arith, next, front)))

pub loop-i-preserved : goal.loop-i-preserved
loop-i-preserved c =
    let next = one_more_digit c.args.digits.now c.loop-i.i c.loop-i.number c.loop-i-test.true c.loop-i.invariant.so_far in
    record { fits = omega (arith, c.in_ok-number.ensures); so_far = omega (arith, next, c.in_ok-number.ensures, c.in_ok-checked_mul.ensures) }

pub returns : goal.returns
returns c =
    let whole : take c.loop-i.i (reverse c.args.digits.now) ≡ reverse c.args.digits.now = take_all c.loop-i.i (reverse c.args.digits.now) (omega (arith, length-reverse c.args.digits.now)) in
    let same : c.loop-i.number ≡ little_endian c.args.digits.now = c.loop-i.invariant.so_far ∙ ap (number_from_digits 256) whole in
    (omega (arith, same, c.loop-i.invariant.fits), same)
