use Rattle.process_end.proofs.Adds.{once-added, free-added, waiting-added}
use Rattle.process_end.proofs.laws.plain_adds_differ.Goals as goal

pub returns-clause-once : goal.returns-clause-once
returns-clause-once c = once-added

pub returns-clause-free : goal.returns-clause-free
returns-clause-free c s found how size word placed free = (free-added s found how size word placed free, waiting-added s found how size word placed free)
