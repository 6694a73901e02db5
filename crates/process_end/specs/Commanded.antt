-- What the calls of a process answer.
use Rattle.std.specs.Prelude.{◌≡◌, ◌⊎◌, ℕ, Bool, true, false, List, Option, Some, None, Result, Ok, Err, unwrap_or}
use Rattle.port_words.specs.busy.Stat.{marks_told}
use Rattle.port_model.specs.declared.signal.Signal.{Signal}
use Rattle.port_model.specs.declared.signal.Signal.TheVariants as signal
use Rattle.port_model.specs.Signals.{data_size}
use Rattle.suspend_list.specs.declared.note.StopNote.{StopNote}
use Rattle.process_receipts.specs.declared.how.How.{How}
use Rattle.process_receipts.specs.declared.how.How.TheVariants as how
use Rattle.process_receipts.specs.declared.receipt.Outcome.{Outcome}
use Rattle.process_receipts.specs.declared.receipt.Outcome.TheVariants as outcome
use Rattle.process_receipts.specs.declared.receipt.Receipt.{Receipt}
use Rattle.process_receipts.specs.Asks.{Asked}
use Rattle.process_end.specs.declared.answers.Ask.{Ask}
use Rattle.process_end.specs.declared.answers.Ask.TheVariants as ask
use Rattle.process_end.specs.declared.answers.Commanded.{Commanded}
use Rattle.process_end.specs.declared.answers.Commanded.TheVariants as commanded
use Rattle.process_end.specs.declared.answers.SendRefusal.{SendRefusal}
use Rattle.process_end.specs.declared.answers.SendRefusal.TheVariants as refused
use Rattle.process_end.specs.declared.answers.Shown.{Shown}
use Rattle.process_end.specs.declared.answers.Shown.TheVariants as shown
use Rattle.process_end.specs.Views.{ProcView}
use Rattle.process_end.specs.Calls.{HasMade, HasMissed}

-- the signal of a command in this form
abbrev pub command_of : How → List (List ℕ) → Signal
command_of how.Owner payload = signal.OwnerCommand payload
command_of how payload = signal.Command payload

-- the signal of an ask
abbrev pub signal_of : Ask → Signal
signal_of (ask.Control op bytes) = signal.Control op bytes
signal_of (ask.Call op bytes) = signal.Call op bytes
signal_of ask.Close = signal.Close
signal_of ask.OwnerClose = signal.OwnerClose
signal_of (ask.Connect process) = signal.Connect process
signal_of (ask.OwnerConnect process) = signal.OwnerConnect process
signal_of ask.Link = signal.Link
signal_of ask.Unlink = signal.Unlink
signal_of (ask.Monitor number) = signal.Monitor number
signal_of (ask.Demonitor number) = signal.Demonitor number
signal_of (ask.Exit reason) = signal.Exit reason

-- the refusal that a receipt with this outcome is told by, with the words that it shows; `len` is the number of bytes of the signal's data
abbrev pub IsRefusal : Receipt → ℕ → SendRefusal → Type 0
IsRefusal receipt len (refused.Closed mark) = (receipt.outcome ≡ outcome.Closed) × (mark ≡ marks_told (unwrap_or receipt.stat 0))
IsRefusal receipt len refused.NotSupported = receipt.outcome ≡ outcome.NotSupported
IsRefusal receipt len (refused.TooLong told) = (receipt.outcome ≡ outcome.TooLong) × (told ≡ len)
IsRefusal receipt len refused.SentOut = receipt.outcome ≡ outcome.SentOut
IsRefusal receipt len refused.NoMemory = ⊥

-- the word by which a command was dropped: MSGQ where the receipt has it, and else STAT
abbrev pub shown_of : Option ℕ → Option ℕ → Shown
shown_of stat (Some msgq) = shown.Msgq msgq
shown_of stat None = shown.Stat (unwrap_or stat 0)

-- the note of a command that suspended its sender
abbrev pub note_of : Receipt → StopNote
note_of receipt = record { port = receipt.port; seq = unwrap_or receipt.seq 0; msgq = unwrap_or receipt.msgq 0 }

-- A signal that is no command was put at this place, or it was refused
abbrev pub IsAnswered : Receipt → ℕ → Result ℕ SendRefusal → Type 0
IsAnswered receipt len (Ok seq) = (receipt.outcome ≡ outcome.Accepted) × (seq ≡ unwrap_or receipt.seq 0)
IsAnswered receipt len (Err refusal) = IsRefusal receipt len refusal

-- what a call of a signal that is no command leaves and answers: it has its receipt, or found no memory
abbrev pub HasSignalled : ProcView → Asked → ProcView → Result ℕ SendRefusal → Type 0
HasSignalled old asked new answer = ((receipt : Receipt) × HasMade old asked new receipt × IsAnswered receipt (data_size asked.signal) answer)
    ⊎ (HasMissed old asked new × (answer ≡ Err refused.NoMemory))

-- a signal that is no command neither suspends its sender nor is dropped
abbrev pub is_answered : Outcome → Bool
is_answered outcome.Suspended = false
is_answered outcome.Dropped = false
is_answered other = true

-- the process that a command gives back
abbrev pub proc_in : Commanded → ProcView
proc_in (commanded.Accepted new number) = new
proc_in (commanded.Suspended stopped) = stopped.proc
proc_in (commanded.Dropped new shown) = new
proc_in (commanded.Refused new refusal) = new

-- the answer that a command with this receipt gets
abbrev pub IsCommanded : Receipt → ℕ → Commanded → Type 0
IsCommanded receipt len (commanded.Accepted new number) = (receipt.outcome ≡ outcome.Accepted) × (number ≡ unwrap_or receipt.seq 0)
IsCommanded receipt len (commanded.Suspended stopped) = (receipt.outcome ≡ outcome.Suspended) × (stopped.resumed ≡ false) × (stopped.note ≡ note_of receipt)
IsCommanded receipt len (commanded.Dropped new shown) = (receipt.outcome ≡ outcome.Dropped) × (shown ≡ shown_of receipt.stat receipt.msgq)
IsCommanded receipt len (commanded.Refused new refusal) = IsRefusal receipt len refusal

-- what a command leaves and answers: it has its receipt, or found no memory
abbrev pub HasCommanded : ProcView → Asked → Commanded → Type 0
HasCommanded old asked answer = ((receipt : Receipt) × HasMade old asked (proc_in answer) receipt × IsCommanded receipt (data_size asked.signal) answer)
    ⊎ (HasMissed old asked (proc_in answer) × (answer ≡ commanded.Refused (proc_in answer) refused.NoMemory))
