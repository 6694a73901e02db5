use Rattle.std.proofs.Common.{sym, ap, ◌∙◌}
use Rattle.journal_text.specs.Books.{journal_text}
use Rattle.journal_text.proofs.BookLaws.{text_found}
use Rattle.journal_text.proofs.TopLaws.{book_only}
use Rattle.journal_text.proofs.reader.read_journal.Goals as goal

pub new-requires : goal.new-requires
new-requires c = (text_found c.args.bytes.now _ c.in-Ok.ensures).1

pub returns-in-Ok-clause-found : goal.returns-in-Ok-clause-found
returns-in-Ok-clause-found c = (text_found c.args.bytes.now _ c.in-Ok.ensures).0 ∙ ap (journal_text 1) (sym c.new.ensures)

pub returns-in-Ok-clause-only : goal.returns-in-Ok-clause-only
returns-in-Ok-clause-only c = λ book within e. c.new.ensures ∙ book_only c.args.bytes.now _ book c.in-Ok.ensures within e
