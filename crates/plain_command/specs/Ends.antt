-- Why a command ends as it does, and what it leaves.
use Rattle.std.specs.Prelude.{◌≡◌, ℕ, ◌≤◌, ◌⊎◌, List, length, Some, Ok, Err, IsSomeAnd, true}
use Rattle.history_replay.specs.declared.replaying.Verdict.{Verdict}
use Rattle.history_replay.specs.declared.replaying.Verdict.TheVariants as verdict
use Rattle.journal_text.specs.Books.{BookView, is_book, journal_text}
use Rattle.program_io.specs.gateway_script.Script.{script}
use Rattle.program_io.specs.outside.Causes.{Rose}
use Rattle.program_io.specs.outside.Log.{noted}
use Rattle.program_io.specs.script_plan.Plan.{Plan}
use Rattle.program_io.specs.Files.{FilesView, NothingRead, NothingWritten}
use Rattle.program_io.specs.Sink.{PutFailed, TookText}
use Rattle.run_report.specs.declared.cause.Cause.{Cause}
use Rattle.run_report.specs.declared.cause.Cause.TheVariants.{Done, Usage, Script, ReadFault, WriteFault, NoDriver, StartRefused, PollFault, NoMemory, Illegal, Limit, JournalText}
use Rattle.run_report.specs.Lines.{check_text_of, replay_text_of}
use Rattle.plain_command.specs.Words.{PlainAsked, Check, Replay}
use Rattle.plain_command.specs.Journals.{HasVerdict}
use Rattle.plain_command.specs.Command.{Command, HasPlan, HasBook, IsNoScript, IsNoJournal, InputUnread, InputOver, ReadNoMore, file_of, limit_of}

-- the script was read, and this is its line
pub record IsChecked (command : Command) (line : List ℕ) : Type 0 where
  pub plan : Plan
  pub has : HasPlan command plan
  pub text : line ≡ check_text_of plan

-- the journal was read and is legal, and this is its line
pub record IsLegal (command : Command) (line : List ℕ) : Type 0 where
  pub book : BookView
  pub has : HasBook command book
  pub legal : HasVerdict book verdict.Legal
  pub text : line ≡ replay_text_of book.ports

-- what the command has to put out
abbrev pub HasLine : Command → List ℕ → Type 0
HasLine command line = IsChecked command line ⊎ IsLegal command line

-- the journal was read, and this port is the first that breaks a law: this law, first at this row
pub record IsIllegal (command : Command) (port row law : ℕ) : Type 0 where
  pub book : BookView
  pub has : HasBook command book
  pub illegal : HasVerdict book (verdict.Illegal port row law)

-- nothing was put out
abbrev pub NothingPut : Command → Type 0
NothingPut command = command.sink_after ≡ command.sink

-- Each cause comes only where this holds. The line is put out with `Done` alone, and a front of it with `WriteFault`
abbrev pub CauseComes : Command → Cause → Type 0
CauseComes command Done = (line : List ℕ) × HasLine command line × TookText command.sink command.sink_after line
CauseComes command (Usage at) = (command.words ≡ Err at) × NothingRead command.files command.files_after × NothingPut command
CauseComes command (Script fault) = IsNoScript command fault × NothingPut command
CauseComes command (ReadFault line) = (line ≡ 0) × InputUnread command × NothingPut command
CauseComes command WriteFault = (line : List ℕ) × HasLine command line × PutFailed command.sink command.sink_after line
CauseComes command (NoDriver line handed) = ⊥
CauseComes command (StartRefused line refusal) = ⊥
CauseComes command PollFault = ⊥
CauseComes command NoMemory = ReadNoMore command × NothingPut command
CauseComes command (Illegal port row law) = IsIllegal command port row law × NothingPut command
CauseComes command (Limit line) = (line ≡ 0) × InputOver command × NothingPut command
CauseComes command (JournalText at) = IsNoJournal command at × NothingPut command

-- the file of this name is there: the files tell that they hold it, or a read answered it
abbrev pub IsThere : FilesView → FilesView → List ℕ → List ℕ → Type 0
IsThere before after name bytes = IsSomeAnd before.told (λ files. files name ≡ Some bytes) ⊎ (after.answered ≡ noted before.answered name bytes)

-- What the words ask for is there with these bytes, within the limit of its size, and no count of faults rose, or stood at its end
pub record IsGiven (command : Command) (asked : PlainAsked) (bytes : List ℕ) : Type 0 where
  pub named : command.words ≡ Ok asked
  pub there : IsThere command.files command.files_after (file_of asked) bytes
  pub fits : length bytes ≤ limit_of asked
  pub reads : Rose command.files.reads command.files_after.reads → ⊥
  pub puts : Rose command.sink.faults command.sink_after.faults → ⊥

-- a check of this plan
pub record IsCheck (command : Command) (plan : Plan) : Type 0 where
  pub name : List ℕ
  pub bytes : List ℕ
  pub given : IsGiven command (Check name) bytes
  pub says : script bytes ≡ Ok plan

-- a replay of the journal of this book
pub record IsReplay (command : Command) (book : BookView) : Type 0 where
  pub name : List ℕ
  pub bytes : List ℕ
  pub given : IsGiven command (Replay name) bytes
  pub in_range : is_book book ≡ true
  pub says : journal_text 1 book ≡ bytes

-- the cause that tells a verdict
abbrev pub cause_of : Verdict → Cause
cause_of verdict.Legal = Done
cause_of (verdict.Illegal port row law) = Illegal port row law

-- the cause tells the verdict on this book
abbrev pub TellsVerdict : BookView → Cause → Type 0
TellsVerdict book cause = (told : Verdict) × HasVerdict book told × (cause ≡ cause_of told)

-- How a command ends with this cause: why, and what it put out. It writes no file. A valid check does its work, and a valid replay tells its verdict, or memory is wanting
pub record PlainEnds (command : Command) (cause : Cause) : Type 0 where
  pub comes : CauseComes command cause
  pub unwritten : NothingWritten command.files command.files_after
  pub checks : (plan : Plan) → IsCheck command plan → (cause ≡ Done) ⊎ (cause ≡ NoMemory)
  pub replays : (book : BookView) → IsReplay command book → TellsVerdict book cause ⊎ (cause ≡ NoMemory)
