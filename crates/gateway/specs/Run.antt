-- What a run is given and what it leaves, and what it read.
use Rattle.std.specs.Prelude.{◌≡◌, ℕ, List, Option, Result, Ok}
use Rattle.driver_hosts.specs.declared.hosted.Hosted.{Hosted}
use Rattle.script_plan.specs.Plan.{Plan, IsPlan}
use Rattle.run_laws.specs.run_output.Ends.{SinkView}
use Rattle.script_input.specs.declared.input.RunInput.{RunInput}
use Rattle.script_input.specs.Contents.{HaveRead, SomeRead}
use Rattle.script_input.specs.Files.{FilesView}
use Rattle.script_input.specs.Input.{IsRunOf}
use Rattle.script_input.specs.Names.{AreNamesOf, AreWritesOf}
use Rattle.script_input.specs.Script.{ScriptRead}
use Rattle.script_input.specs.Words.{AskedRun, Source, FromFile, FromLoad}
use Rattle.script_load.specs.Load.{load_plan}

-- A run: what its words ask for, or the first word at which they go wrong; the files, the sink, the drivers, the count of failed waits and all events that waits answered, as they were before it and as
-- they are after it. The last two are gone with the poll set
pub record Run (D : Type 0) : Type 0 where
  pub words : Result AskedRun ℕ
  pub files : FilesView
  pub files_after : FilesView
  pub sink : SinkView
  pub sink_after : SinkView
  pub hosts : List (Hosted D)
  pub hosts_after : List (Hosted D)
  pub waits : ℕ
  pub waits_after : Option ℕ
  pub answered : List ℕ
  pub answered_after : Option (List ℕ)

-- the words ask for the script of this source
pub record AskFor (words : Result AskedRun ℕ) (source : Source) : Type 0 where
  pub asked : AskedRun
  pub named : words ≡ Ok asked
  pub source_is : asked.source ≡ source

-- the script of this source says this plan: a read answered the file of that name, and it says it; or it is the one of the load generator, and no file was touched
abbrev pub SaysPlan : Source → FilesView → FilesView → Plan → Type 0
SaysPlan (FromFile name) before mid plan = ScriptRead before mid name (Ok plan)
SaysPlan (FromLoad number) before mid plan = (mid ≡ before) × (plan ≡ load_plan number)

-- what the words ask for: the script of that source says this plan. Behind it the files stood so
pub record PlanRead (words : Result AskedRun ℕ) (before mid : FilesView) (plan : Plan) : Type 0 where
  pub asked : AskedRun
  pub named : words ≡ Ok asked
  pub read : SaysPlan asked.source before mid plan
  pub told : mid.told ≡ before.told
  pub is_plan : IsPlan plan

-- behind the script nothing was read but the files of some of the first steps
pub record PlanFound (words : Result AskedRun ℕ) (before after : FilesView) (plan : Plan) : Type 0 where
  pub mid : FilesView
  pub script : PlanRead words before mid plan
  pub files : SomeRead plan.steps mid after

-- behind the script the files of all steps were read, with these contents
pub record Loaded (words : Result AskedRun ℕ) (before after : FilesView) (plan : Plan) (contents : List (List ℕ)) : Type 0 where
  pub mid : FilesView
  pub script : PlanRead words before mid plan
  pub files : HaveRead mid after plan.steps contents

-- all is read that the words ask for, and this is what is run of it, with the names and the writes of the script
pub record HasInput (words : Result AskedRun ℕ) (before after : FilesView) (plan : Plan) (input : RunInput) : Type 0 where
  pub contents : List (List ℕ)
  pub loaded : Loaded words before after plan contents
  pub run : IsRunOf plan contents loaded.script.asked.schedulers loaded.script.asked.workers input.script
  pub names : AreNamesOf plan input.names
  pub writes : AreWritesOf plan input.writes
