use Rattle.run_end.proofs.Shown.{shown-hold}
use Rattle.run_end.proofs.laws.shown_words_hold.Goals as goal

pub returns : goal.returns
returns c = shown-hold
