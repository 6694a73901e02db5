use Rattle.std.proofs.Common.{arith}
use Rattle.script_text.proofs.Plain.{plain_before}
use Rattle.script_text.proofs.texts.plain_len.Goals as goal

pub returns-in-Some-clause-plain : goal.returns-in-Some-clause-plain
returns-in-Some-clause-plain c = plain_before c.args.bytes.now c.in-Some.at (omega (arith, c.in-Some.ensures.0.high)) c.in-Some.ensures.0.before
