-- What reading a journal answers.
use Rattle.std.specs.Prelude.{◌≡◌, ℕ, List, Result, Ok, Err}
use Rattle.journal_text.specs.declared.fault.JournalFault.{JournalFault}
use Rattle.journal_text.specs.declared.fault.JournalFault.TheVariants.{NotAJournal, NoMemory}
use Rattle.journal_text.specs.Books.{BookView, IsFirstBadLine}

-- the answer is this book, unless memory runs out
abbrev pub Gives : Result BookView JournalFault → BookView → Type 0
Gives (Ok x) book = x ≡ book
Gives (Err (NotAJournal at)) book = ⊥
Gives (Err NoMemory) book = Unit {0}

-- what a fault tells of a text
abbrev pub Tells : List ℕ → JournalFault → Type 0
Tells text (NotAJournal at) = IsFirstBadLine 1 text at
Tells text NoMemory = Unit {0}
