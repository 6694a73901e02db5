-- What a replay tells of a book whose histories are legal.
use Rattle.std.specs.Prelude.{◌≡◌, ◌⊎◌, length}
use Rattle.history_replay.specs.Laws.{AreLegal}
use Rattle.journal_text.specs.Books.{BookView}
use Rattle.run_report.specs.declared.cause.Cause.{Cause}
use Rattle.run_report.specs.declared.cause.Cause.TheVariants.{Done, NoMemory}
use Rattle.plain_command.specs.Command.{Command}
use Rattle.plain_command.specs.Ends.{IsReplay, PlainEnds}

-- it ends with `Done`, but for want of memory
abbrev pub LegalBooksAreDone : Type 0
LegalBooksAreDone = (command : Command) (cause : Cause) (book : BookView) → PlainEnds command cause → IsReplay command book → AreLegal 0 (length book.names) book.ports
    → (cause ≡ Done) ⊎ (cause ≡ NoMemory)
