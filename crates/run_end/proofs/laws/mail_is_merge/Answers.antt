use Rattle.run_end.proofs.Merges.{is_merge}
use Rattle.run_end.proofs.laws.mail_is_merge.Goals as goal

pub returns : goal.returns
returns c = is_merge
