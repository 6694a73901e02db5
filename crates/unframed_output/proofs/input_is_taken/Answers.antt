use Rattle.unframed_output.proofs.input_is_taken.Goals as goal
use Rattle.unframed_output.proofs.Input.{input-is-taken}
use Rattle.unframed_output.proofs.Whole.{input-is-whole}

pub returns-clause-taken : goal.returns-clause-taken
returns-clause-taken c = input-is-taken

pub returns-clause-whole : goal.returns-clause-whole
returns-clause-whole c = input-is-whole
