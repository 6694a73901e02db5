use Rattle.unframed_output.proofs.messages_are_declared.Goals as goal
use Rattle.unframed_output.proofs.Declared.{messages-declared}

pub returns : goal.returns
returns c = messages-declared
