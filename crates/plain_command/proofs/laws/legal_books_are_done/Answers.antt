use Rattle.plain_command.proofs.Legal.{legal-done}
use Rattle.plain_command.proofs.laws.legal_books_are_done.Goals as goal

pub returns : goal.returns
returns c = legal-done c.nothing_is_told_of_legal_ports_alone.ensures.right
