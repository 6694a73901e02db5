-- Why a run ends as it does, and what it leaves.
use Rattle.std.specs.Prelude.{◌≡◌, ℕ, ◌<◌, ◌≤◌, ◌⊎◌, List, ◌++◌, length, map, Option, Some, None, Result, Ok, Err, IfSome, IsSomeAnd, slice_index_or}
use Rattle.outside.specs.Causes.{Rose}
use Rattle.outside.specs.Log.{noted}
use Rattle.driver_model.specs.Calls.{Kind, Own}
use Rattle.driver_model.specs.Drivers.{kind_name, refusal_of}
use Rattle.driver_model.specs.Programs.{ToldProgram}
use Rattle.port_driver.specs.declared.life.Life.{Life}
use Rattle.port_driver.specs.declared.life.StartRefusal.{StartRefusal}
use Rattle.port_driver.specs.Starting as driver
use Rattle.driver_hosts.specs.declared.hosted.Hosted.{Hosted}
use Rattle.driver_hosts.specs.Back.{AllCameBack}
use Rattle.driver_hosts.specs.Finding.{Found, HasDrivers}
use Rattle.gateway_script.specs.Script.{script}
use Rattle.run_laws.specs.run_output.run_opening.Faults.{LacksAt, RefusedAt}
use Rattle.run_laws.specs.run_output.declared.writing.OutputFault.TheVariants as output
use Rattle.run_laws.specs.run_output.script_run.Ends.{HaveAllServed}
use Rattle.run_report.specs.declared.cause.Cause.{Cause}
use Rattle.run_report.specs.declared.cause.Cause.TheVariants.{Done, Usage, Script, ReadFault, WriteFault, NoDriver, StartRefused, PollFault, NoMemory, Illegal, Limit, JournalText}
use Rattle.run_report.specs.declared.report.Report.{Report}
use Rattle.script_input.specs.Contents.{file_names, named as named_files, total, FileUnread, FilesOver}
use Rattle.script_input.specs.Files.{FilesView, IsLonger, IsUnread, NothingRead, NothingWritten}
use Rattle.script_input.specs.Script.{IsOfScript, ScriptRead}
use Rattle.script_input.specs.Words.{AskedRun, Source, FromFile, FromLoad}
use Rattle.script_load.specs.Load.{load_plan}
use Rattle.script_plan.specs.declared.decl.PortDecl.{PortDecl}
use Rattle.script_plan.specs.declared.fault.ScriptFault.{ScriptFault}
use Rattle.script_plan.specs.Plan.{Plan}
use Rattle.gateway.specs.Run.{Run, AskFor, PlanRead, PlanFound, Loaded}
use Rattle.gateway.specs.Ran.{Ran}

-- The five below are of the script of a file alone: a load has none of them

-- what the words name is no script, by this fault
pub record IsNoScript (words : Result AskedRun ℕ) (before after : FilesView) (fault : ScriptFault) : Type 0 where
  pub name : List ℕ
  pub named : AskFor words (FromFile name)
  pub of_script : IsOfScript fault
  pub read : ScriptRead before after name (Err fault)

-- the script wasn't read
pub record ScriptUnread (words : Result AskedRun ℕ) (before after : FilesView) : Type 0 where
  pub name : List ℕ
  pub named : AskFor words (FromFile name)
  pub answered : after.answered ≡ before.answered
  pub unread : IsUnread before after name

-- the script is larger than is allowed
pub record ScriptOver (words : Result AskedRun ℕ) (before after : FilesView) : Type 0 where
  pub name : List ℕ
  pub named : AskFor words (FromFile name)
  pub nothing : NothingRead before after
  pub over : IsLonger 1048576 before name

-- each port has a driver
abbrev pub AllFound : {D : Type 0} → (D → Kind) → List (Hosted D) → List PortDecl → Type 0
AllFound kind hosts ports = (places : List ℕ) × Found kind hosts ports places

module _ {D : Type 0} (kind : D → Kind) (hosts : List (Hosted D)) where
  -- the script was read and a driver was found for each of its ports, and the file that this line names wasn't read
  pub record StepUnread (words : Result AskedRun ℕ) (before after : FilesView) (line : ℕ) : Type 0 where
    pub name : List ℕ
    pub named : AskFor words (FromFile name)
    pub plan : Plan
    pub mid : FilesView
    pub script : PlanRead words before mid plan
    pub drivers : AllFound kind hosts plan.ports
    pub file : FileUnread plan.steps mid after line

  -- the script was read and a driver was found for each of its ports, and its files up to that of this line are larger than is allowed
  pub record StepOver (words : Result AskedRun ℕ) (before after : FilesView) (line : ℕ) : Type 0 where
    pub name : List ℕ
    pub named : AskFor words (FromFile name)
    pub plan : Plan
    pub mid : FilesView
    pub script : PlanRead words before mid plan
    pub drivers : AllFound kind hosts plan.ports
    pub files : FilesOver plan.steps mid after line

module _ {D : Type 0} where
  -- each driver is as it was handed in
  abbrev pub NoneTouched : Run D → Type 0
  NoneTouched run = run.hosts_after ≡ run.hosts

  -- nothing was written
  abbrev pub Unwritten : Run D → Type 0
  Unwritten run = NothingWritten run.files run.files_after × (run.sink_after ≡ run.sink)

  -- no count of failed reads, writes, puts or waits rose. Those of drivers may have risen: a call of a program that fails ends its port, and not the run
  pub record NoneRose (run : Run D) : Type 0 where
    pub reads : run.files_after.reads ≡ run.files.reads
    pub writes : run.files_after.writes ≡ run.files.writes
    pub puts : run.sink_after.faults ≡ run.sink.faults
    pub waits : run.waits_after ≡ Some run.waits

  module _ (kind : D → Kind) (stage : D → Life) (faults : D → ℕ) (own : D → Own) (program : D → Option ToldProgram) where
    -- no driver is left for a port of the script that was read
    pub record PortLacks (run : Run D) (line handed : ℕ) : Type 0 where
      pub plan : Plan
      pub found : PlanFound run.words run.files run.files_after plan
      pub lacks : LacksAt kind stage faults plan.ports run.hosts line handed

    -- all was read, and the driver of a port of the script refused
    pub record PortRefused (run : Run D) (line : ℕ) (refusal : StartRefusal) : Type 0 where
      pub plan : Plan
      pub contents : List (List ℕ)
      pub loaded : Loaded run.words run.files run.files_after plan contents
      pub refused : RefusedAt kind stage faults plan.ports run.hosts run.hosts_after line refusal

    -- all was read, and a wait failed in the run of the script; the drivers of its ports are back with their ports, and the others are as they were handed in
    pub record WaitFailed (run : Run D) : Type 0 where
      pub plan : Plan
      pub contents : List (List ℕ)
      pub loaded : Loaded run.words run.files run.files_after plan contents
      pub served : HaveAllServed kind stage faults plan.ports run.hosts run.hosts_after
      pub rose : IsSomeAnd run.waits_after (λ waits. Rose run.waits waits)

    -- Each cause comes only where this holds. Where memory ran out no read failed, and what was written, if anything, is a front of what a run that was made writes
    abbrev pub CauseComes : Run D → Cause → Type 0
    CauseComes run Done = NoneRose run
    CauseComes run (Usage at) = (run.words ≡ Err at) × NothingRead run.files run.files_after × NoneTouched run × Unwritten run
    CauseComes run (Script fault) = IsNoScript run.words run.files run.files_after fault × NoneTouched run × Unwritten run
    CauseComes run (ReadFault line) =
        (((line ≡ 0) × ScriptUnread run.words run.files run.files_after) ⊎ StepUnread kind run.hosts run.words run.files run.files_after line) × NoneTouched run × Unwritten run
    CauseComes run WriteFault = Rose run.files.writes run.files_after.writes ⊎ Rose run.sink.faults run.sink_after.faults
    CauseComes run (NoDriver line handed) = PortLacks run line handed × NoneTouched run × Unwritten run
    CauseComes run (StartRefused line refusal) = PortRefused run line refusal × Unwritten run
    CauseComes run PollFault = WaitFailed run × Unwritten run
    CauseComes run NoMemory = (run.files_after.reads ≡ run.files.reads) × (Unwritten run ⊎ ((report : Report) × Ran kind stage faults own program run (Err output.NoMemory) report))
    CauseComes run (Illegal port row law) = ⊥
    CauseComes run (Limit line) =
        (((line ≡ 0) × ScriptOver run.words run.files run.files_after) ⊎ StepOver kind run.hosts run.words run.files run.files_after line) × NoneTouched run × Unwritten run
    CauseComes run (JournalText at) = ⊥

    -- a report is there exactly where the run was made and memory was found to report it, also where it wasn't written
    abbrev pub IsReported : Run D → Cause → Option Report → Type 0
    IsReported run Done report = IsSomeAnd report (Ran kind stage faults own program run (Ok tt))
    IsReported run WriteFault report = IsSomeAnd report (Ran kind stage faults own program run (Err output.WriteFault))
    IsReported run cause report = report ≡ None

-- how the poll set comes back: as it was handed in, but where the run was made or a wait failed; only where memory was wanting it may be gone
abbrev pub PollEnds : {S : Type 0} → (S → ℕ) → S → Cause → Option S → Type 0
PollEnds faults old Done new = IsSomeAnd new (λ poll. faults poll ≡ faults old)
PollEnds faults old WriteFault new = IsSomeAnd new (λ poll. faults poll ≡ faults old)
PollEnds faults old PollFault new = IsSomeAnd new (λ poll. Rose (faults old) (faults poll))
PollEnds faults old NoMemory new = Unit {0}
PollEnds faults old cause new = new ≡ Some old

-- no port wants a driver of a kind that refuses to start with the port's options
abbrev pub AllStart : Plan → Type 0
AllStart plan = (at : ℕ) (d : PortDecl) (kind : Kind) → at < length plan.ports → kind_name kind ≡ (slice_index_or plan.ports at d).driver
    → refusal_of kind (slice_index_or plan.ports at d).config ≡ None

-- the script and the files of its steps are there: the files tell that they hold them, or reads answered them
abbrev pub AreThere : FilesView → FilesView → List ℕ → List ℕ → List (List ℕ) → List (List ℕ) → Type 0
AreThere before after name bytes names contents =
    IsSomeAnd before.told (λ files. (files name ≡ Some bytes) × (map files names ≡ map Some contents))
    ⊎ (after.answered ≡ noted before.answered name bytes ++ named_files names contents)

-- the script of the file of this name says this plan. It and the files of its steps are there, within the limits of their size, and no driver refuses to start with the options of its ports
pub record FilesThere (before after : FilesView) (name : List ℕ) (plan : Plan) : Type 0 where
  pub bytes : List ℕ
  pub contents : List (List ℕ)
  pub many : length contents ≡ length (file_names plan.steps)
  pub there : AreThere before after name bytes (file_names plan.steps) contents
  pub fits : length bytes ≤ 1048576
  pub files_fit : total contents ≤ 33554432
  pub says : script bytes ≡ Ok plan
  pub starts : AllStart plan

-- the script of this source is there, and says this plan. That of the load generator always is
abbrev pub ScriptThere : Source → FilesView → FilesView → Plan → Type 0
ScriptThere (FromFile name) before after plan = FilesThere before after name plan
ScriptThere (FromLoad number) before after plan = plan ≡ load_plan number

module _ {D : Type 0} where
  -- the count of the faults of no driver that is back without a port rose, or stood at its end: no start failed
  abbrev pub NoStartFailed : (D → ℕ) → List (Hosted D) → List (Hosted D) → Type 0
  NoStartFailed faults old new = (at : ℕ) (d : Hosted D) (before after : D) → at < length old → (slice_index_or old at d).driver ≡ Some before
      → slice_index_or new at d ≡ record { port = None; driver = Some after } → driver.Rose (faults before) (faults after) → ⊥

  -- What the words ask for is there and valid, within the limits of its size. A driver is there for each of its ports, and no start failed; and no count of failed reads, writes, puts or waits rose, or stood
  -- at its end
  pub record IsValid (kind : D → Kind) (faults : D → ℕ) (run : Run D) : Type 0 where
    pub asked : AskedRun
    pub plan : Plan
    pub named : run.words ≡ Ok asked
    pub there : ScriptThere asked.source run.files run.files_after plan
    pub drivers : HasDrivers kind run.hosts plan.ports
    pub reads : Rose run.files.reads run.files_after.reads → ⊥
    pub writes : Rose run.files.writes run.files_after.writes → ⊥
    pub puts : Rose run.sink.faults run.sink_after.faults → ⊥
    pub waits : IfSome run.waits_after (λ waits. Rose run.waits waits → ⊥)
    pub starts : NoStartFailed faults run.hosts run.hosts_after

  -- How a run ends with this cause and this report: why, what was written, and how the drivers come back. A load reads and writes no file. A valid run is made and its report or its summary is written,
  -- or memory is wanting
  pub record Ends (kind : D → Kind) (stage : D → Life) (faults : D → ℕ) (own : D → Own) (program : D → Option ToldProgram) (run : Run D) (cause : Cause) (report : Option Report) : Type 0 where
    pub comes : CauseComes kind stage faults own program run cause
    pub reported : IsReported kind stage faults own program run cause report
    pub back : AllCameBack kind stage faults run.hosts run.hosts_after
    pub load : (number : ℕ) → AskFor run.words (FromLoad number) → run.files_after ≡ run.files
    pub complete : IsValid kind faults run → (cause ≡ Done) ⊎ (cause ≡ NoMemory)
