-- How the stages of a command end: a script or a journal is read, and its line is put out.
use Rattle.std.specs.Prelude.{◌≡◌, ℕ, ◌⊎◌, List, Ok, true}
use Rattle.history_replay.specs.declared.replaying.Verdict.TheVariants as verdict
use Rattle.journal_text.specs.Books.{BookView, is_book}
use Rattle.program_io.specs.Cause.{input_cause}
use Rattle.program_io.specs.declared.fault.InputFault.{InputFault}
use Rattle.program_io.specs.script_plan.Plan.{Plan}
use Rattle.program_io.specs.Files.{FilesView}
use Rattle.program_io.specs.Script.{ScriptEnds, ScriptRead}
use Rattle.program_io.specs.Sink.{SinkView, PutFailed, TookText}
use Rattle.run_report.specs.declared.cause.Cause.{Cause}
use Rattle.run_report.specs.declared.cause.Cause.TheVariants.{Done, WriteFault, NoMemory, Illegal}
use Rattle.run_report.specs.Lines.{check_text_of, replay_text_of}
use Rattle.plain_command.specs.Journals.{HasVerdict, JournalRead, JournalEnds}

-- how a line is put out: the sink took it, failed, or memory was wanting before
abbrev pub PrintEnds : List ℕ → SinkView → SinkView → Cause → Type 0
PrintEnds line old new Done = TookText old new line
PrintEnds line old new WriteFault = PutFailed old new line
PrintEnds line old new NoMemory = new ≡ old
PrintEnds line old new cause = ⊥

-- the script of this name was read, and its line was put out so
pub record Printed (name : List ℕ) (before after : FilesView) (old new : SinkView) (cause : Cause) : Type 0 where
  pub plan : Plan
  pub read : ScriptRead before after name (Ok plan)
  pub print : PrintEnds (check_text_of plan) old new cause

-- the script of this name wasn't read, by this fault, and nothing was put out
pub record Unprinted (name : List ℕ) (before after : FilesView) (old new : SinkView) (cause : Cause) : Type 0 where
  pub fault : InputFault
  pub ends : ScriptEnds before after name fault
  pub told : cause ≡ input_cause fault
  pub nothing : new ≡ old

-- how the check of the script of this name ends
abbrev pub CheckEnds : List ℕ → FilesView → FilesView → SinkView → SinkView → Cause → Type 0
CheckEnds name before after old new cause = Printed name before after old new cause ⊎ Unprinted name before after old new cause

-- how a book is judged: it is legal, and its line was put out or the sink failed; it is illegal; or memory was wanting
abbrev pub JudgeEnds : BookView → SinkView → SinkView → Cause → Type 0
JudgeEnds book old new Done = HasVerdict book verdict.Legal × TookText old new (replay_text_of book.ports)
JudgeEnds book old new WriteFault = HasVerdict book verdict.Legal × PutFailed old new (replay_text_of book.ports)
JudgeEnds book old new NoMemory = new ≡ old
JudgeEnds book old new (Illegal port row law) = HasVerdict book (verdict.Illegal port row law) × (new ≡ old)
JudgeEnds book old new cause = ⊥

-- the journal of this name was read, and its book was judged so
pub record Judged (name : List ℕ) (before after : FilesView) (old new : SinkView) (cause : Cause) : Type 0 where
  pub book : BookView
  pub in_range : is_book book ≡ true
  pub read : JournalRead before after name book
  pub ends : JudgeEnds book old new cause

-- the journal of this name wasn't read, and nothing was put out
pub record Unjudged (name : List ℕ) (before after : FilesView) (old new : SinkView) (cause : Cause) : Type 0 where
  pub ends : JournalEnds before after name cause
  pub nothing : new ≡ old

-- how the replay of the journal of this name ends
abbrev pub ReplayEnds : List ℕ → FilesView → FilesView → SinkView → SinkView → Cause → Type 0
ReplayEnds name before after old new cause = Judged name before after old new cause ⊎ Unjudged name before after old new cause
