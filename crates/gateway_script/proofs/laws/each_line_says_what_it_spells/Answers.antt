use Rattle.gateway_script.proofs.Found.{line_found}
use Rattle.gateway_script.proofs.Again.{line_again}
use Rattle.gateway_script.proofs.laws.each_line_says_what_it_spells.Goals as goal

pub returns-clause-found : goal.returns-clause-found
returns-clause-found c = line_found

pub returns-clause-only : goal.returns-clause-only
returns-clause-only c = line_again
