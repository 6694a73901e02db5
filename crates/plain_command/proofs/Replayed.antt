-- A replay: what its stages left is what it promises.
use Rattle.std.proofs.Common.{inl, inr, ◌≡◌, ℕ, ◌⊎◌, List, Result, Ok, refl, sym, subst, ◌∙◌}
use Rattle.history_replay.specs.declared.replaying.Verdict.TheVariants as verdict
use Rattle.journal_text.specs.Books.{BookView}
use Rattle.program_io.specs.Files.{NothingWritten}
use Rattle.program_io.specs.outside.Causes.{Rose}
use Rattle.run_report.specs.declared.cause.Cause.{Cause}
use Rattle.run_report.specs.declared.cause.Cause.TheVariants.{Done, Usage, Script, ReadFault, WriteFault, NoDriver, StartRefused, PollFault, NoMemory, Illegal, Limit, JournalText}
use Rattle.run_report.specs.Lines.{replay_text_of}
use Rattle.plain_command.specs.Words.{PlainAsked, Check, Replay}
use Rattle.plain_command.specs.Journals.{JournalEnds}
use Rattle.plain_command.specs.Command.{Command, HasBook}
use Rattle.plain_command.specs.Stages.{JudgeEnds, ReplayEnds}
use Rattle.plain_command.specs.Ends.{CauseComes, IsReplay, TellsVerdict, PlainEnds}
use Rattle.plain_command.proofs.Given.{same-bytes, not-unread, not-over}

-- ---- the words

same-name : (words : Result PlainAsked ℕ) (a b : List ℕ) → words ≡ Ok (Replay a) → words ≡ Ok (Replay b) → a ≡ b
same-name words a b e f = cc

no-check : (words : Result PlainAsked ℕ) (a b : List ℕ) → words ≡ Ok (Replay a) → words ≡ Ok (Check b) → ⊥
no-check words a b e f = cc

-- ---- why it ends so

judged-comes : (command : Command) (cause : Cause) (book : BookView) → HasBook command book → JudgeEnds book command.sink command.sink_after cause
    → CauseComes command cause
judged-comes command Done book has ends = (replay_text_of book.ports, inr (record { book = book; has = has; legal = ends.0; text = refl }), ends.1)
judged-comes command (Usage at) book has ends = absurd ends
judged-comes command (Script fault) book has ends = absurd ends
judged-comes command (ReadFault line) book has ends = absurd ends
judged-comes command WriteFault book has ends = (replay_text_of book.ports, inr (record { book = book; has = has; legal = ends.0; text = refl }), ends.1)
judged-comes command (NoDriver line handed) book has ends = absurd ends
judged-comes command (StartRefused line refusal) book has ends = absurd ends
judged-comes command PollFault book has ends = absurd ends
judged-comes command NoMemory book has ends = (record { asked = Replay has.journal; named = has.named; read = inr (has.read.bytes, has.read.read) }, ends)
judged-comes command (Illegal port row law) book has ends = (record { book = book; has = has; illegal = ends.0 }, ends.1)
judged-comes command (Limit line) book has ends = absurd ends
judged-comes command (JournalText at) book has ends = absurd ends

unjudged-comes : (command : Command) (cause : Cause) (name : List ℕ) → command.words ≡ Ok (Replay name) → JournalEnds command.files command.files_after name cause
    → command.sink_after ≡ command.sink → CauseComes command cause
unjudged-comes command Done name named ends nothing = absurd ends
unjudged-comes command (Usage at) name named ends nothing = absurd ends
unjudged-comes command (Script fault) name named ends nothing = absurd ends
unjudged-comes command (ReadFault line) name named ends nothing =
    (ends.0, record { asked = Replay name; named = named; answered = ends.1; unread = ends.2 }, nothing)
unjudged-comes command WriteFault name named ends nothing = absurd ends
unjudged-comes command (NoDriver line handed) name named ends nothing = absurd ends
unjudged-comes command (StartRefused line refusal) name named ends nothing = absurd ends
unjudged-comes command PollFault name named ends nothing = absurd ends
unjudged-comes command NoMemory name named ends nothing = (record { asked = Replay name; named = named; read = ends }, nothing)
unjudged-comes command (Illegal port row law) name named ends nothing = absurd ends
unjudged-comes command (Limit line) name named ends nothing =
    (ends.0, record { asked = Replay name; named = named; nothing = ends.1; over = ends.2 }, nothing)
unjudged-comes command (JournalText at) name named ends nothing = (record { journal = name; named = named; read = ends }, nothing)

-- ---- a valid replay

judged-tells : (command : Command) (cause : Cause) (book : BookView) → JudgeEnds book command.sink command.sink_after cause
    → (Rose command.sink.faults command.sink_after.faults → ⊥) → TellsVerdict book cause ⊎ (cause ≡ NoMemory)
judged-tells command Done book ends sound = inl (verdict.Legal, ends.0, refl)
judged-tells command (Usage at) book ends sound = absurd ends
judged-tells command (Script fault) book ends sound = absurd ends
judged-tells command (ReadFault line) book ends sound = absurd ends
judged-tells command WriteFault book ends sound = absurd (sound ends.1.rose)
judged-tells command (NoDriver line handed) book ends sound = absurd ends
judged-tells command (StartRefused line refusal) book ends sound = absurd ends
judged-tells command PollFault book ends sound = absurd ends
judged-tells command NoMemory book ends sound = inr refl
judged-tells command (Illegal port row law) book ends sound = inl (verdict.Illegal port row law, ends.0, refl)
judged-tells command (Limit line) book ends sound = absurd ends
judged-tells command (JournalText at) book ends sound = absurd ends

unjudged-tells : (command : Command) (cause : Cause) (book : BookView) (is : IsReplay command book) → JournalEnds command.files command.files_after is.name cause
    → TellsVerdict book cause ⊎ (cause ≡ NoMemory)
unjudged-tells command Done book is ends = absurd ends
unjudged-tells command (Usage at) book is ends = absurd ends
unjudged-tells command (Script fault) book is ends = absurd ends
unjudged-tells command (ReadFault line) book is ends =
    absurd (not-unread command.files command.files_after is.name is.bytes is.given.there ends.1 ends.2 is.given.reads)
unjudged-tells command WriteFault book is ends = absurd ends
unjudged-tells command (NoDriver line handed) book is ends = absurd ends
unjudged-tells command (StartRefused line refusal) book is ends = absurd ends
unjudged-tells command PollFault book is ends = absurd ends
unjudged-tells command NoMemory book is ends = inr refl
unjudged-tells command (Illegal port row law) book is ends = absurd ends
unjudged-tells command (Limit line) book is ends =
    absurd (not-over 268435456 command.files command.files_after is.name is.bytes is.given.there is.given.fits ends.1 ends.2)
unjudged-tells command (JournalText at) book is ends =
    absurd (ends.none book is.in_range (is.says ∙ sym (same-bytes 268435456 command.files command.files_after is.name ends.bytes is.bytes is.given.there ends.read)))

tells : (command : Command) (cause : Cause) (book : BookView) (is : IsReplay command book) → ReplayEnds is.name command.files command.files_after command.sink command.sink_after cause
    → TellsVerdict book cause ⊎ (cause ≡ NoMemory)
tells command cause book is (inl judged) =
    let same : judged.read.bytes ≡ is.bytes = same-bytes 268435456 command.files command.files_after is.name judged.read.bytes is.bytes is.given.there judged.read.read in
    let one : book ≡ judged.book = judged.read.only book is.in_range (is.says ∙ sym same) in
    subst (λ (b : BookView). TellsVerdict b cause ⊎ (cause ≡ NoMemory)) (sym one) (judged-tells command cause judged.book judged.ends is.given.puts)
tells command cause book is (inr unjudged) = unjudged-tells command cause book is unjudged.ends

comes : (command : Command) (cause : Cause) (name : List ℕ) → command.words ≡ Ok (Replay name) → ReplayEnds name command.files command.files_after command.sink command.sink_after cause
    → CauseComes command cause
comes command cause name named (inl judged) =
    judged-comes command cause judged.book (record { journal = name; named = named; in_range = judged.in_range; read = judged.read }) judged.ends
comes command cause name named (inr unjudged) = unjudged-comes command cause name named unjudged.ends unjudged.nothing

pub replay_ends : (command : Command) (cause told : Cause) (name : List ℕ) → told ≡ cause → command.words ≡ Ok (Replay name) → NothingWritten command.files command.files_after
    → ReplayEnds name command.files command.files_after command.sink command.sink_after cause → PlainEnds command told
replay_ends command cause told name e named unwritten ends = subst (λ (c : Cause). PlainEnds command c) (sym e) (record {
  comes = comes command cause name named ends;
  unwritten = unwritten;
  checks = λ plan is. absurd (no-check command.words name is.name named is.given.named);
  replays = λ book is. tells command cause book is
      (subst (λ (n : List ℕ). ReplayEnds n command.files command.files_after command.sink command.sink_after cause) (same-name command.words name is.name named is.given.named) ends);
})
