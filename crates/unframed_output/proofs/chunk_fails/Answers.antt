use Rattle.unframed_output.proofs.chunk_fails.Goals as goal
use Rattle.unframed_output.proofs.Only.{chunk-fails-so}

pub returns : goal.returns
returns c = chunk-fails-so
