use Rattle.std.proofs.Common.{ℕ, List, Some, None, subst}
use Rattle.memchr.specs.Find.{IsFirstByte, is_byte}
use Rattle.packet_framing.proofs.Steps.{no_end_before, no_end, range_to_end}
use Rattle.packet_framing.proofs.lines.line_end.Goals as goal

pub returns-in-Some-clause-before : goal.returns-in-Some-clause-before
returns-in-Some-clause-before c =
    let P : List ℕ → Type 0 = λ bytes. IsFirstByte (is_byte 10) bytes (Some c.in-Some.at) in
    no_end_before c.args.bytes.now c.args.from c.in-Some.at (subst P (range_to_end c.args.bytes.now c.args.from) c.in-Some.ensures)

pub returns-in-None-clause-before : goal.returns-in-None-clause-before
returns-in-None-clause-before c =
    let P : List ℕ → Type 0 = λ bytes. IsFirstByte (is_byte 10) bytes None in
    no_end c.args.bytes.now c.args.from (subst P (range_to_end c.args.bytes.now c.args.from) c.in-None.ensures)
