use Rattle.unframed_output.proofs.output_is_unframed.Goals as goal
use Rattle.unframed_output.proofs.Ended.{end-is-told}
use Rattle.unframed_output.proofs.Mails.{output-is-saved}
use Rattle.unframed_output.proofs.Rows.{output-is-unframed}
use Rattle.unframed_output.proofs.Taken.{output-is-taken}

pub returns-clause-taken : goal.returns-clause-taken
returns-clause-taken c = output-is-taken

pub returns-clause-ended : goal.returns-clause-ended
returns-clause-ended c = end-is-told

pub returns-clause-messages : goal.returns-clause-messages
returns-clause-messages c = output-is-unframed

pub returns-clause-saved : goal.returns-clause-saved
returns-clause-saved c = output-is-saved
