use Rattle.journal_text.proofs.LineSteps.{first_some}
use Rattle.journal_text.proofs.lines.first_line.Goals as goal

pub returns-in-len1-up-clause-line : goal.returns-in-len1-up-clause-line
returns-in-len1-up-clause-line c =
    first_some c.args.bytes.now c.split_line.result.0.now c.split_line.result.1.now c.split_line.ensures.line c.split_line.ensures.rest c.in-len1-up.len_at_least
