-- What a command is given and what it leaves, and what it read.
use Rattle.std.specs.Prelude.{◌≡◌, ℕ, ◌⊎◌, List, Result, Ok, Err, true}
use Rattle.journal_text.specs.Books.{BookView, is_book}
use Rattle.program_io.specs.script_plan.declared.fault.ScriptFault.{ScriptFault}
use Rattle.program_io.specs.script_plan.Plan.{Plan}
use Rattle.program_io.specs.Files.{FilesView, HasRead, IsLonger, IsUnread, NothingRead}
use Rattle.program_io.specs.Script.{IsOfScript, ScriptRead}
use Rattle.program_io.specs.Sink.{SinkView}
use Rattle.plain_command.specs.Words.{PlainAsked, Check, Replay}
use Rattle.plain_command.specs.Journals.{JournalRead, NoJournalRead}

-- A command: what its words ask for, or the first word at which they go wrong; the files and the sink, as they were before it and as they are after it
pub record Command : Type 0 where
  pub words : Result PlainAsked ℕ
  pub files : FilesView
  pub files_after : FilesView
  pub sink : SinkView
  pub sink_after : SinkView

-- the file that a command reads
abbrev pub file_of : PlainAsked → List ℕ
file_of (Check script) = script
file_of (Replay journal) = journal

-- the most bytes that it may have
abbrev pub limit_of : PlainAsked → ℕ
limit_of (Check script) = 1048576
limit_of (Replay journal) = 268435456

-- the script that the words name was read, and it says this plan
pub record HasPlan (command : Command) (plan : Plan) : Type 0 where
  pub script : List ℕ
  pub named : command.words ≡ Ok (Check script)
  pub read : ScriptRead command.files command.files_after script (Ok plan)

-- the journal that the words name was read, and it is the text of this book
pub record HasBook (command : Command) (book : BookView) : Type 0 where
  pub journal : List ℕ
  pub named : command.words ≡ Ok (Replay journal)
  pub in_range : is_book book ≡ true
  pub read : JournalRead command.files command.files_after journal book

-- what the words name is no script, by this fault
pub record IsNoScript (command : Command) (fault : ScriptFault) : Type 0 where
  pub script : List ℕ
  pub named : command.words ≡ Ok (Check script)
  pub of_script : IsOfScript fault
  pub read : ScriptRead command.files command.files_after script (Err fault)

-- what the words name is no journal: its first bad line begins at this byte
pub record IsNoJournal (command : Command) (at : ℕ) : Type 0 where
  pub journal : List ℕ
  pub named : command.words ≡ Ok (Replay journal)
  pub read : NoJournalRead command.files command.files_after journal at

-- the script or the journal wasn't read
pub record InputUnread (command : Command) : Type 0 where
  pub asked : PlainAsked
  pub named : command.words ≡ Ok asked
  pub answered : command.files_after.answered ≡ command.files.answered
  pub unread : IsUnread command.files command.files_after (file_of asked)

-- the script or the journal is larger than is allowed
pub record InputOver (command : Command) : Type 0 where
  pub asked : PlainAsked
  pub named : command.words ≡ Ok asked
  pub nothing : NothingRead command.files command.files_after
  pub over : IsLonger (limit_of asked) command.files (file_of asked)

-- nothing was read but the script or the journal, if that, and no read failed
pub record ReadNoMore (command : Command) : Type 0 where
  pub asked : PlainAsked
  pub named : command.words ≡ Ok asked
  pub read : NothingRead command.files command.files_after
      ⊎ ((bytes : List ℕ) × HasRead (limit_of asked) command.files command.files_after (file_of asked) bytes)
