use Rattle.process_end.proofs.Bounds.{kept-all, words-kept}
use Rattle.process_end.proofs.laws.words_keep_the_bound.Goals as goal

pub returns-clause-bound : goal.returns-clause-bound
returns-clause-bound c = words-kept

pub returns-clause-kept : goal.returns-clause-kept
returns-clause-kept c = kept-all
