use Rattle.closed_ports.proofs.Columns.{columns-are-all-ends, columns-stay-of-bodies, no-column-yet, one-column-more}
use Rattle.closed_ports.proofs.laws.settled_ports_have_all_ends.Goals as goal

pub returns-clause-none : goal.returns-clause-none
returns-clause-none c = no-column-yet

pub returns-clause-more : goal.returns-clause-more
returns-clause-more c = one-column-more

pub returns-clause-fit : goal.returns-clause-fit
returns-clause-fit c = columns-stay-of-bodies

pub returns-clause-all : goal.returns-clause-all
returns-clause-all c = columns-are-all-ends
