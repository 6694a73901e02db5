-- What a wait leaves.
use Rattle.std.specs.Prelude.{List, [], ◌∷◌, Result, Ok, Err}
use Rattle.port_model.specs.declared.mail.Mail.{Mail}
use Rattle.port_words.specs.over.Over.{OverKnown}
use Rattle.port_sched.specs.Running.{Looked}
use Rattle.process_end.specs.declared.answers.NotYet.{NotYet}
use Rattle.process_end.specs.declared.answers.NotYet.TheVariants as notyet
use Rattle.process_end.specs.Views.{ProcView}
use Rattle.process_job.specs.declared.halt.Halt.{Halt}
use Rattle.process_job.specs.declared.halt.Halt.TheVariants as halt
use Rattle.process_job.specs.declared.waiting.Resuming.{Resuming}
use Rattle.process_job.specs.declared.waiting.Resuming.TheVariants as resuming
use Rattle.process_job.specs.Seats.{SawStop}
use Rattle.process_job.specs.Going.{state, Waits}

-- where a wait halts for a stop, the last look at OVER found it
abbrev pub HaltedAs : Halt → OverKnown → Type 0
HaltedAs halt.Stopped over = SawStop over
HaltedAs halt.NoMemory over = Unit {0}

-- OVER was looked at
abbrev pub OverAfter : {A : Type 0} → Result A Halt → OverKnown → OverKnown → Type 0
OverAfter (Ok answer) old new = Looked old new
OverAfter (Err halt) old new = Looked old new × HaltedAs halt new

-- a suspended process goes on, or waits on
abbrev pub GoesFrom : ProcView → List Mail → Resuming → List Mail → Type 0
GoesFrom old mails (resuming.GoesOn new) new_mails = Waits (state old mails) (state new new_mails)
GoesFrom old mails (resuming.Waits stopped took_mail) new_mails = Waits (state old mails) (state stopped.proc new_mails)

-- the mail that a suspended process was handed over
abbrev pub handed_over : NotYet → List Mail
handed_over (notyet.Other mail) = mail ∷ []
handed_over _ = []
