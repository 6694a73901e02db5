use Rattle.async_jobs.proofs.Order.{submitted_by_key, taken_by_key, taken_once_ended, all_taken_by_key, answered_as_taken, answered_by_key, all_answered_by_key}
use Rattle.async_jobs.proofs.laws.jobs_of_one_key_in_order.Goals as goal

pub returns-clause-submitted : goal.returns-clause-submitted
returns-clause-submitted c = submitted_by_key

pub returns-clause-taken : goal.returns-clause-taken
returns-clause-taken c = taken_by_key

pub returns-clause-ended : goal.returns-clause-ended
returns-clause-ended c = taken_once_ended

pub returns-clause-all : goal.returns-clause-all
returns-clause-all c = all_taken_by_key

pub returns-clause-answered : goal.returns-clause-answered
returns-clause-answered c = answered_as_taken

pub returns-clause-by_key : goal.returns-clause-by_key
returns-clause-by_key c = answered_by_key

pub returns-clause-whole : goal.returns-clause-whole
returns-clause-whole c = all_answered_by_key
