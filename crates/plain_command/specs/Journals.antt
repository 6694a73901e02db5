-- The journal of a replay, as its file says it, and the verdict on it.
use Rattle.std.specs.Prelude.{◌≡◌, ℕ, ◌⊎◌, List, length, true}
use Rattle.history_replay.specs.declared.replaying.Verdict.{Verdict}
use Rattle.history_replay.specs.Verdicts.{Replays}
use Rattle.journal_text.specs.Books.{BookView, IsFirstBadLine, is_book, journal_text}
use Rattle.program_io.specs.declared.fault.InputFault.TheVariants as input
use Rattle.program_io.specs.Files.{FilesView, HasRead, NothingRead, ReadEnds}
use Rattle.run_report.specs.declared.cause.Cause.{Cause}
use Rattle.run_report.specs.declared.cause.Cause.TheVariants.{ReadFault, NoMemory, Limit, JournalText}

-- one read answered, of the file of this name, with at most 268,435,456 bytes, and they are the text of this book and of no other one, in version 1 of journals
pub record JournalRead (before after : FilesView) (name : List ℕ) (book : BookView) : Type 0 where
  pub bytes : List ℕ
  pub read : HasRead 268435456 before after name bytes
  pub says : journal_text 1 book ≡ bytes
  pub only : (other : BookView) → is_book other ≡ true → journal_text 1 other ≡ bytes → other ≡ book

-- one read answered, of the file of this name, and it is the text of no book: the first bad line begins at this byte
pub record NoJournalRead (before after : FilesView) (name : List ℕ) (at : ℕ) : Type 0 where
  pub bytes : List ℕ
  pub read : HasRead 268435456 before after name bytes
  pub none : (book : BookView) → is_book book ≡ true → journal_text 1 book ≡ bytes → ⊥
  pub first : IsFirstBadLine 1 bytes at

-- why there is no journal: what was read is none, or nothing was read. Memory may have been wanting before the read or behind it
abbrev pub JournalEnds : FilesView → FilesView → List ℕ → Cause → Type 0
JournalEnds before after name (ReadFault line) = ReadEnds 0 268435456 before after name (input.ReadFault line)
JournalEnds before after name NoMemory = NothingRead before after ⊎ ((bytes : List ℕ) × HasRead 268435456 before after name bytes)
JournalEnds before after name (Limit line) = ReadEnds 0 268435456 before after name (input.Limit line)
JournalEnds before after name (JournalText at) = NoJournalRead before after name at
JournalEnds before after name cause = ⊥

-- the replay of this book tells this verdict
abbrev pub HasVerdict : BookView → Verdict → Type 0
HasVerdict book told = Replays 0 (length book.names) book.ports told
