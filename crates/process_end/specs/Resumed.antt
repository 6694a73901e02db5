-- When a suspended process goes on.
use Rattle.std.specs.Prelude.{◌≡◌, ℕ, ◌==◌, ◌&&◌, Bool, true, false, Result, Ok, Err}
use Rattle.port_model.specs.declared.mail.Mail.{Mail}
use Rattle.port_model.specs.declared.mail.Mail.TheVariants as mail
use Rattle.suspend_list.specs.declared.note.StopNote.{StopNote}
use Rattle.suspend_list.specs.Notes.{MustWait}
use Rattle.process_end.specs.declared.answers.NotYet.{NotYet}
use Rattle.process_end.specs.declared.answers.NotYet.TheVariants as notyet
use Rattle.process_end.specs.Views.{ProcView, StoppedView}
use Rattle.process_end.specs.Mailbox.{Mailbox, FoundNone, TookMail}
use Rattle.process_end.specs.Looked.{HasFoundWords}

-- the mail that resumes the command of this note
abbrev pub is_resume : StopNote → Mail → Bool
is_resume note (mail.Resume port seq word closed) = (port == note.port) && (seq == note.seq)
is_resume note other = false

-- the process with this mailbox
abbrev pub with_mailbox : ProcView → Mailbox → ProcView
with_mailbox p mailbox = record p { mailbox = mailbox }

-- The resume of the suspended command has come: it was there before, and no mail was taken, or it was the one mail that was taken
pub record GotResume (s : StoppedView) (mailbox : Mailbox) : Type 0 where
  pub before : s.resumed ≡ true → mailbox ≡ s.proc.mailbox
  pub taken : s.resumed ≡ false → (got : Mail) × TookMail s.proc.mailbox mailbox got × (is_resume s.note got ≡ true)

-- the resume has come, and the words that were loaded let the process go on
pub record GoesOn (s : StoppedView) (new : ProcView) : Type 0 where
  pub msgq : ℕ
  pub stat : ℕ
  pub found : HasFoundWords s.note.port s.proc new msgq stat
  pub goes : MustWait s.note msgq stat → ⊥

-- the same, and the words that were loaded don't let it
pub record WaitsOn (s new : StoppedView) (msgq : ℕ) : Type 0 where
  pub stat : ℕ
  pub rest : new ≡ record s { proc = new.proc }
  pub found : HasFoundWords s.note.port s.proc new.proc msgq stat
  pub waits : MustWait s.note msgq stat

-- a suspended process with this mailbox, to which the resume has come
abbrev pub resumed : StoppedView → Mailbox → StoppedView
resumed s mailbox = record { proc = with_mailbox s.proc mailbox; note = s.note; resumed = true }

-- What a suspended process is after it tried to go on, and didn't. Its mailbox was empty; or another mail than the resume came, which is handed over; or the resume has
-- come, and it waits on by this MSGQ word
abbrev pub HasWaited : StoppedView → StoppedView → NotYet → Type 0
HasWaited old new notyet.Empty = (old.resumed ≡ false) × (new ≡ old) × FoundNone old.proc.mailbox new.proc.mailbox
HasWaited old new (notyet.Other other) = (old.resumed ≡ false) × (new ≡ record old { proc = with_mailbox old.proc new.proc.mailbox })
    × TookMail old.proc.mailbox new.proc.mailbox other × (is_resume old.note other ≡ false)
HasWaited old new (notyet.SamePeriod word) = GotResume old new.proc.mailbox × WaitsOn (resumed old new.proc.mailbox) new word

abbrev pub HasTried : StoppedView → Result ProcView (StoppedView × NotYet) → Type 0
HasTried old (Ok new) = GotResume old new.mailbox × GoesOn (resumed old new.mailbox) new
HasTried old (Err e) = HasWaited old e.0 e.1

-- what a look for the resumed process leaves of it, by its answer
abbrev pub HasGoneOn : StoppedView → Result ProcView (StoppedView × NotYet) → Type 0
HasGoneOn s (Ok new) = GoesOn s new
HasGoneOn s (Err e) = (word : ℕ) × (e.1 ≡ notyet.SamePeriod word) × WaitsOn s e.0 word

-- the process that is there afterwards
abbrev pub proc_after : Result ProcView (StoppedView × NotYet) → ProcView
proc_after (Ok new) = new
proc_after (Err e) = e.0.proc
