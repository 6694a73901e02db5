use Rattle.std.proofs.Common.{subst, arith}
use Rattle.journal_text.specs.declared.fault.TextFault.{TextFault}
use Rattle.journal_text.specs.TextFault.{MissedText}
use Rattle.journal_text.specs.ReadingBooks.{lines_of, book_at}
use Rattle.journal_text.proofs.TopLaws.{bad_within, bad_place, bad_never}
use Rattle.journal_text.proofs.reader.told.Goals as goal

pub overflow_sub-result : goal.overflow_sub-result
overflow_sub-result c =
    let missed = subst (λ (f : TextFault). MissedText f (book_at (lines_of c.args.bytes.now))) c.in-Bad.is c.requires in
    omega (arith, bad_within c.args.bytes.now c.in-Bad.left missed)

pub returns-in-Bad-clause-only : goal.returns-in-Bad-clause-only
returns-in-Bad-clause-only c =
    let missed = subst (λ (f : TextFault). MissedText f (book_at (lines_of c.args.bytes.now))) c.in-Bad.is c.requires in
    λ book within e. bad_never c.args.bytes.now c.in-Bad.left book missed within e

pub returns-in-Bad-clause-place : goal.returns-in-Bad-clause-place
returns-in-Bad-clause-place c =
    let missed = subst (λ (f : TextFault). MissedText f (book_at (lines_of c.args.bytes.now))) c.in-Bad.is c.requires in
    bad_place c.args.bytes.now c.in-Bad.left missed
