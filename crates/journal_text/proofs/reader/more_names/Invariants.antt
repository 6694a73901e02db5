use Rattle.std.proofs.Common.{◌≡◌, ◌-◌, length}
use Rattle.journal_text.specs.ReadingBooks.{names_at}
use Rattle.journal_text.specs.declared.reader.TheConstants.{MAX_NAMES}
use Rattle.journal_text.proofs.NameSteps.{with_names_before}
use Rattle.journal_text.proofs.reader.more_names.Given as goal

abbrev pub invariant-loop : goal.invariant-loop
invariant-loop l = record {
  so_far : with_names_before l.names.items (names_at (MAX_NAMES - l.counter) l.rest) ≡ names_at MAX_NAMES l.bytes;
  len : length l.names.items ≡ l.counter;
}
