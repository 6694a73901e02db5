-- When a run was made, and what is reported and written of it.
use Rattle.std.specs.Prelude.{◌≡◌, ℕ, Option, Result}
use Rattle.driver_model.specs.Calls.{Kind, Own}
use Rattle.driver_model.specs.Programs.{ToldProgram}
use Rattle.port_driver.specs.declared.life.Life.{Life}
use Rattle.run_laws.specs.run_output.declared.writing.OutputFault.{OutputFault}
use Rattle.run_laws.specs.run_output.Ends.{OutputEnds, SinkView, TextEnds}
use Rattle.run_laws.specs.run_output.Reported.{report_of}
use Rattle.run_laws.specs.run_output.Writes.{writes_of}
use Rattle.run_report.specs.declared.report.Report.{Report}
use Rattle.run_report.specs.Report.{summary_of, text_of}
use Rattle.script_input.specs.declared.input.RunInput.{RunInput}
use Rattle.script_input.specs.declared.input.RunWrites.{RunWrites}
use Rattle.script_input.specs.Files.{FilesView, NothingWritten}
use Rattle.script_input.specs.Words.{Source, FromFile, FromLoad}
use Rattle.script_plan.specs.Plan.{Plan}
use Rattle.run_laws.specs.run_output.script_run.declared.running.ScriptRan.{ScriptRan}
use Rattle.run_laws.specs.run_output.script_run.Ran.{HasRun}
use Rattle.run_laws.specs.Counted.{CommandsAreCounted}
use Rattle.run_laws.specs.Journals.{IsReplayed}
use Rattle.run_laws.specs.Served.{ProgramsServed}
use Rattle.gateway.specs.Fixed.{AnswersAreFixed, IsSummaryOf}
use Rattle.gateway.specs.Run.{Run, HasInput}

-- how what a run left is put out: of the script of a file its saves, its journal and the report, to the files first and then to the sink; of a load its summary alone, to the sink, and no file is touched
abbrev pub PutOut : Source → RunWrites → Report → FilesView → FilesView → SinkView → SinkView → Result (Unit {0}) OutputFault → Type 0
PutOut (FromFile name) writes report files files' sink sink' ended = OutputEnds (writes_of writes report) (text_of report) files files' sink sink' ended
PutOut (FromLoad number) writes report files files' sink sink' ended = (files' ≡ files) × TextEnds (summary_of number report) sink sink' ended

module _ {D : Type 0} where
  -- What the words ask for was read and run; what of it is the same in each run was so, and programs took and gave what each run promises of them. This is the report of what the ports and the processes of that
  -- run left; it counts for each process the commands that the process's receipts show put; its histories are those that a replay finds legal; and what it says was put out, or how that ended
  pub record Ran (kind : D → Kind) (stage : D → Life) (faults : D → ℕ) (own : D → Own) (program : D → Option ToldProgram) (run : Run D) (ended : Result (Unit {0}) OutputFault) (report : Report) : Type 0 where
    pub plan : Plan
    pub input : RunInput
    pub read : FilesView
    pub unwritten : NothingWritten run.files read
    pub has_input : HasInput run.words run.files read plan input
    pub left : ScriptRan
    pub has_run : HasRun kind stage faults own program input.script run.hosts run.hosts_after run.answered run.answered_after left
    pub fixed : AnswersAreFixed input.script left
    pub programs : ProgramsServed kind program input.script has_run.places run.hosts_after left
    pub report_is : report ≡ report_of input.names left
    pub summary : IsSummaryOf has_input.loaded.script.asked.source report
    pub counted : CommandsAreCounted input.script left report
    pub journal : IsReplayed report
    pub written : PutOut has_input.loaded.script.asked.source input.writes report read run.files_after run.sink run.sink_after ended
