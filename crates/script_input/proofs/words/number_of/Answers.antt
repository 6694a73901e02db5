use Rattle.std.proofs.Common.{◌+◌, ◌<◌, ◌^◌, arith}
use Rattle.script_text.specs.Tokens.{value_of}
use Rattle.script_text.proofs.Values.{value_more, front_le}
use Rattle.script_input.proofs.words.number_of.Goals as goal

pub returns-in_err-checked_mul : goal.returns-in_err-checked_mul
returns-in_err-checked_mul c =
    let text = c.args.digits.now in
    let next = value_more text c.loop-byte.byte-index c.loop-byte-test.true in
    let front = front_le text (c.loop-byte.byte-index + 1) in
    rw c.from_residual.ensures (λ (lt : value_of text < 2 ^ 64). c.in_err-checked_mul.ensures (omega (arith, next, front)))

pub returns-in_err-number : goal.returns-in_err-number
returns-in_err-number c =
    let text = c.args.digits.now in
    let next = value_more text c.loop-byte.byte-index c.loop-byte-test.true in
    let front = front_le text (c.loop-byte.byte-index + 1) in
    rw c.from_residual-in_err-number.ensures (λ (lt : value_of text < 2 ^ 64). c.in_err-number.ensures (omega (arith, next, front, c.in_ok-checked_mul.ensures)))

pub loop-byte-preserved : goal.loop-byte-preserved
loop-byte-preserved c =
    let next = value_more c.args.digits.now c.loop-byte.byte-index c.loop-byte-test.true in
    record { fits = omega (arith, c.in_ok-number.ensures); so_far = omega (arith, next, c.in_ok-number.ensures, c.in_ok-checked_mul.ensures) }
