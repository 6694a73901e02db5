use Rattle.run_report.proofs.Same.{same_counts}
use Rattle.run_report.proofs.laws.counts_ask_for_owner_and_processes_alone.Goals as goal

pub returns : goal.returns
returns c = same_counts
