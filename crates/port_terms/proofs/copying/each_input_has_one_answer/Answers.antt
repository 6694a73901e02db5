use Rattle.port_terms.proofs.Laws.{one_term, one_fault, not_both, one_of_both}
use Rattle.port_terms.proofs.copying.each_input_has_one_answer.Goals as goal

pub returns-clause-one_term : goal.returns-clause-one_term
returns-clause-one_term c = one_term

pub returns-clause-one_fault : goal.returns-clause-one_fault
returns-clause-one_fault c = one_fault

pub returns-clause-not_both : goal.returns-clause-not_both
returns-clause-not_both c = not_both

pub returns-clause-one_of_both : goal.returns-clause-one_of_both
returns-clause-one_of_both c = one_of_both
