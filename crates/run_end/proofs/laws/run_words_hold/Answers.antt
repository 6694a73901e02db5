use Rattle.run_end.proofs.Tells.{run_words}
use Rattle.run_end.proofs.laws.run_words_hold.Goals as goal

pub returns : goal.returns
returns c = run_words
