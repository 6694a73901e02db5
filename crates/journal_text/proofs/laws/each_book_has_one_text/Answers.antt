use Rattle.journal_text.proofs.BookLaws.{same_book}
use Rattle.journal_text.proofs.laws.each_book_has_one_text.Goals as goal

pub returns : goal.returns
returns c = same_book
