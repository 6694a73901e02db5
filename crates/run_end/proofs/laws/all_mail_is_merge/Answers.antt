use Rattle.run_end.proofs.TakingRests.{all_merge}
use Rattle.run_end.proofs.laws.all_mail_is_merge.Goals as goal

pub returns : goal.returns
returns c = all_merge
