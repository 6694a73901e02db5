-- A process of a run that has ended, and its calls.
use Rattle.std.specs.Prelude.{ℕ, List, length, reverse}
use Rattle.port_model.specs.declared.mail.Mail.{Mail}
use Rattle.process_end.specs.process_receipts.Asks.{Asked}
use Rattle.process_end.specs.declared.answers.ProcEnd.{ProcEnd}
use Rattle.process_end.specs.Views.{ProcView}
use Rattle.process_job.specs.script_plan.declared.step.Step.{Step}
use Rattle.process_job.specs.Asks.{made_asks}
use Rattle.process_job.specs.Jobs.{IsFreshProcess}
use Rattle.process_job.specs.Steps.{HasRunToEnd}
use Rattle.run_end.specs.Shown.{Calls}

-- what a process had to begin with, its steps and the contents of their files, what is left of it, and the mail that it took or added itself
pub record RanProcess : Type 0 where
  pub old : ProcView
  pub steps : List Step
  pub files : List (List ℕ)
  pub end : ProcEnd
  pub mails : List Mail

-- it had made no call before, made its steps and ended
pub record HasRunWhole (p : RanProcess) : Type 0 where
  pub fresh : IsFreshProcess p.old
  pub ran : HasRunToEnd p.steps p.files p.old p.end p.mails

-- the calls that it made, oldest first: those of its steps that were made, by the receipts, and one for each port
abbrev pub asks_made : RanProcess → List Asked
asks_made p = made_asks (length p.old.lanes) p.steps p.files p.end.receipts

-- the same and their receipts, both newest first
abbrev pub calls_made : RanProcess → Calls
calls_made p = record { asks = reverse (asks_made p); receipts = reverse p.end.receipts }
