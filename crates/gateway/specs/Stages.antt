-- How the stages of a run end: what it needs is read, the script is run, and what it left is written.
use Rattle.std.specs.Prelude.{◌≡◌, ℕ, ◌⊎◌, List, Option, Some, None, Result, Ok, Err}
use Rattle.driver_model.specs.Calls.{Kind}
use Rattle.port_driver.specs.declared.life.Life.{Life}
use Rattle.driver_hosts.specs.declared.hosted.Hosted.{Hosted}
use Rattle.run_laws.specs.run_output.run_opening.Faults.{LacksAt}
use Rattle.run_laws.specs.run_output.declared.writing.OutputFault.TheVariants as output
use Rattle.run_laws.specs.run_output.Ends.{SinkView}
use Rattle.run_report.specs.declared.cause.Cause.{Cause}
use Rattle.run_report.specs.declared.cause.Cause.TheVariants.{Done, Usage, Script, ReadFault, WriteFault, NoDriver, StartRefused, PollFault, NoMemory, Limit}
use Rattle.run_report.specs.declared.report.Report.{Report}
use Rattle.script_input.specs.program_io.declared.fault.InputFault.{InputFault}
use Rattle.script_input.specs.program_io.declared.fault.InputFault.TheVariants as input
use Rattle.script_input.specs.declared.input.RunWrites.{RunWrites}
use Rattle.script_input.specs.Files.{FilesView, NothingRead}
use Rattle.script_input.specs.Script.{ScriptEnds}
use Rattle.script_input.specs.Words.{AskedRun, Source, FromFile, FromLoad}
use Rattle.script_plan.specs.declared.decl.PortDecl.{PortDecl}
use Rattle.script_plan.specs.Plan.{Plan}
use Rattle.run_laws.specs.run_output.script_run.declared.running.RunFault.{RunFault}
use Rattle.run_laws.specs.run_output.script_run.declared.running.RunFault.TheVariants as ran
use Rattle.gateway.specs.Run.{PlanFound}
use Rattle.gateway.specs.Ran.{PutOut}
use Rattle.gateway.specs.Causes.{IsNoScript, ScriptUnread, ScriptOver, StepUnread, StepOver}

-- the cause of a run that wasn't made
abbrev pub run_cause : RunFault → Cause
run_cause (ran.NoDriver line handed) = NoDriver line handed
run_cause (ran.StartRefused line refusal) = StartRefused line refusal
run_cause ran.PollFault = PollFault
run_cause ran.NoMemory = NoMemory

-- why there is no script of this source. That of the load generator is wanting for memory alone
abbrev pub SourceEnds : Source → FilesView → FilesView → InputFault → Type 0
SourceEnds (FromFile name) before after fault = ScriptEnds before after name fault
SourceEnds (FromLoad number) before after fault = (after ≡ before) × (fault ≡ input.NoMemory)

module _ {D : Type 0} (kind : D → Kind) (stage : D → Life) (faults : D → ℕ) where
  -- why not each port has a driver
  abbrev pub DriversEnd : List PortDecl → List (Hosted D) → Cause → Type 0
  DriversEnd ports hosts (NoDriver line handed) = LacksAt kind stage faults ports hosts line handed
  DriversEnd ports hosts NoMemory = Unit {0}
  DriversEnd ports hosts cause = ⊥

  -- why there is nothing to run
  abbrev pub InputEnds : Result AskedRun ℕ → List (Hosted D) → FilesView → FilesView → Cause → Type 0
  InputEnds words hosts before after (Usage at) = (words ≡ Err at) × NothingRead before after
  InputEnds words hosts before after (Script fault) = IsNoScript words before after fault
  InputEnds words hosts before after (ReadFault line) = ((line ≡ 0) × ScriptUnread words before after) ⊎ StepUnread kind hosts words before after line
  InputEnds words hosts before after (NoDriver line handed) = (plan : Plan) × PlanFound words before after plan × LacksAt kind stage faults plan.ports hosts line handed
  InputEnds words hosts before after NoMemory = after.reads ≡ before.reads
  InputEnds words hosts before after (Limit line) = ((line ≡ 0) × ScriptOver words before after) ⊎ StepOver kind hosts words before after line
  InputEnds words hosts before after cause = ⊥

-- how what is put out of this report was written, and whether it is there
abbrev pub WriteEnds : Source → RunWrites → Report → FilesView → FilesView → SinkView → SinkView → Cause → Option Report → Type 0
WriteEnds source writes report files files' sink sink' Done told = (told ≡ Some report) × PutOut source writes report files files' sink sink' (Ok tt)
WriteEnds source writes report files files' sink sink' WriteFault told = (told ≡ Some report) × PutOut source writes report files files' sink sink' (Err output.WriteFault)
WriteEnds source writes report files files' sink sink' NoMemory told = (told ≡ None)
    × (((files' ≡ files) × (sink' ≡ sink)) ⊎ PutOut source writes report files files' sink sink' (Err output.NoMemory))
WriteEnds source writes report files files' sink sink' cause told = ⊥
