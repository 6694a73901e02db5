-- What a process has done once it made steps, and once it made all of them and ended.
use Rattle.std.specs.Prelude.{◌≡◌, ℕ, List, [], ◌∷◌, ◌++◌, Bool, not, length, map, reverse, None}
use Rattle.port_model.specs.declared.mail.Mail.{Mail}
use Rattle.process_end.specs.process_receipts.declared.receipt.Receipt.{Receipt}
use Rattle.process_end.specs.process_receipts.Asks.{Asked}
use Rattle.process_end.specs.declared.answers.ProcEnd.{ProcEnd}
use Rattle.process_end.specs.Views.{ProcView}
use Rattle.process_end.specs.Ports.{ArePorts}
use Rattle.process_end.specs.Calls.{HasAsked}
use Rattle.process_end.specs.Mailbox.{Mailbox}
use Rattle.script_plan.specs.declared.step.Step.{Step}
use Rattle.script_plan.specs.declared.step.Act.{Act}
use Rattle.process_job.specs.Asks.{asks_of, calls_of, end_reason, ends_file, made_asks, made_of, made_of_step}
use Rattle.process_job.specs.Mails.{Came, mail_from, own_mails, AreReplied}
use Rattle.process_job.specs.Waits.{FoundClosed, HasWaited, StaysClosed, WaitsAreShown}
use Rattle.process_job.specs.Going.{ProcessState, AreSamePorts, HasHeard, MakesCalls}

-- of the calls of a step these were made, with these receipts, both newest first, whatever receipts come later
abbrev pub AreMadeOf : List Asked → List Asked → List Receipt → Type 0
AreMadeOf calls asks receipts = (later : List Receipt) → made_of_step calls (reverse receipts ++ later) ≡ reverse asks

-- a process made the calls of one step, or as many of them as are made
pub record MakesCallsOf (calls : List Asked) (old new : ProcessState) : Type 0 where
  pub asks : List Asked
  pub receipts : List Receipt
  pub came : List Came
  pub makes : MakesCalls asks receipts came old new
  pub made : AreMadeOf calls asks receipts

-- a process made this command, and `more` says whether the next one of its file follows
pub record MakesCommand (ask : Asked) (old new : ProcessState) (more : Bool) : Type 0 where
  pub receipt : Receipt
  pub came : List Came
  pub makes : MakesCalls (ask ∷ []) (receipt ∷ []) came old new
  pub more_is : more ≡ not (ends_file receipt.outcome)

-- a process made one step
pub record MakesStep (line : ℕ) (act : Act) (content : List ℕ) (old new : ProcessState) : Type 0 where
  pub calls : MakesCallsOf (asks_of line act content) old new
  pub waited : HasWaited new.mails new.proc.seats act

-- there may be more mail, and what was found closed is so by the receipts that come later, which are read oldest first
pub record IsLater (now : ProcessState) (mails : List Mail) (later : List Receipt) : Type 0 where
  pub more : List Mail
  pub mails_are : mails ≡ now.mails ++ more
  pub closed : (k : ℕ) → FoundClosed k now.proc.seats → StaysClosed k later

-- a process made the first of these steps, and has the rest to make
pub record HasComeTo (steps : List Step) (files : List (List ℕ)) (old : ProcessState) (rest : List Step) (rest_files : List (List ℕ)) (new : ProcessState) : Type 0 where
  pub asks : List Asked
  pub receipts : List Receipt
  pub came : List Came
  pub makes : MakesCalls asks receipts came old new
  pub made : (later : List Receipt) → made_of (calls_of steps files) (reverse receipts ++ later) ≡ reverse asks ++ made_of (calls_of rest rest_files) later
  pub reason : end_reason steps ≡ end_reason rest
  pub waited : (mails : List Mail) (later : List Receipt) → IsLater new mails later → WaitsAreShown mails later rest rest_files → WaitsAreShown mails (reverse receipts ++ later) steps files

-- nothing was taken of the mailbox, and no mail came
abbrev pub HasTakenNone : Mailbox → List Mail → Mailbox → List Mail → Type 0
HasTakenNone old mails new new_mails = (new ≡ old) × (new_mails ≡ mails)

-- a process made all these steps, and ends for this reason
pub record HasMadeSteps (steps : List Step) (files : List (List ℕ)) (old new : ProcessState) (reason : List ℕ) : Type 0 where
  pub asks : List Asked
  pub receipts : List Receipt
  pub came : List Came
  pub makes : MakesCalls asks receipts came old new
  pub made : (later : List Receipt) → made_of (calls_of steps files) (reverse receipts ++ later) ≡ reverse asks
  pub reason_is : reason ≡ end_reason steps
  pub waited : (mails : List Mail) (later : List Receipt) → IsLater new mails later → WaitsAreShown mails (reverse receipts ++ later) steps files

-- A process made all its steps and ended; `old` is what it had to begin with. The calls are read oldest first: those of the steps that were made, by the receipts, and one
-- for each port. The mail came from the mailbox, each that is to be read once and in the order of its port, and from the process itself, where a closed port refused
-- a link or a monitor. A process without ports has no mail, and takes nothing of its mailbox. It has the data for which each of its steps waited, or the port is closed by the receipts behind that step
pub record HasRunToEnd (steps : List Step) (files : List (List ℕ)) (old : ProcView) (end : ProcEnd) (mails : List Mail) : Type 0 where
  pub asks : List Asked
  pub asks_are : asks ≡ made_asks (length old.lanes) steps files end.receipts
  pub last : ProcView
  pub asked : HasAsked (reverse asks) last
  pub undone : last.undone ≡ old.undone
  pub soft : last.soft ≡ old.soft
  pub number : last.number ≡ old.number
  pub keeps : ArePorts last
  pub same : AreSamePorts old.lanes last.lanes old.seats last.seats
  pub receipts_are : end.receipts ≡ reverse last.receipts
  pub mailbox_is : end.mailbox ≡ last.mailbox
  pub lanes_are : end.lanes.items ≡ last.lanes
  pub seats_are : end.seats.items ≡ last.seats
  pub came : List Came
  pub mails_are : mails ≡ map (λ c. c.mail) came
  pub heard : HasHeard came old.mailbox last.mailbox
  pub silent : length old.lanes ≡ 0 → HasTakenNone old.mailbox [] last.mailbox mails
  pub own : mail_from None came ≡ own_mails (reverse asks) last.receipts
  pub waited : WaitsAreShown mails end.receipts steps files
  pub replied : AreReplied (reverse asks) last.receipts mails
