-- What a run needs, as its stages read it.
use Rattle.std.proofs.Common.{inl, inr, ◌≡◌, ℕ, List, [], Result, Ok, Err, refl, sym, ap, subst, ◌∙◌}
use Rattle.std.specs.Prelude.{IfErr}
use Rattle.std.specs.Result.{IsErrAnd}
use Rattle.driver_model.specs.Calls.{Kind}
use Rattle.port_driver.specs.declared.life.Life.{Life}
use Rattle.driver_hosts.specs.declared.hosted.Hosted.{Hosted}
use Rattle.run_laws.specs.run_output.run_opening.Faults.{LacksAt}
use Rattle.run_report.specs.declared.cause.Cause.{Cause}
use Rattle.run_report.specs.declared.cause.Cause.TheVariants.{Done, Usage, Script, ReadFault, WriteFault, NoDriver, StartRefused, PollFault, NoMemory, Illegal, Limit, JournalText}
use Rattle.script_input.specs.program_io.Cause.{input_cause}
use Rattle.script_input.specs.program_io.declared.fault.InputFault.{InputFault}
use Rattle.script_input.specs.program_io.declared.fault.InputFault.TheVariants as input
use Rattle.script_input.specs.declared.input.RunInput.{RunInput}
use Rattle.script_input.specs.Contents.{file_names, FilesEnd}
use Rattle.script_input.specs.Files.{FilesView, NothingRead}
use Rattle.script_input.specs.Input.{IsInputOf}
use Rattle.script_input.specs.Words.{AskedRun, Source, FromFile, FromLoad}
use Rattle.script_input.proofs.Contents.{none-done}
use Rattle.script_plan.specs.declared.decl.PortDecl.{PortDecl}
use Rattle.script_plan.specs.Plan.{Plan, IsPlan}
use Rattle.gateway.specs.Causes.{AllFound}
use Rattle.gateway.specs.Run.{AskFor, SaysPlan, PlanRead, HasInput}
use Rattle.gateway.specs.Stages.{DriversEnd, InputEnds, SourceEnds}
use Rattle.gateway.proofs.Asked.{same-source}
use Rattle.gateway.proofs.Loads.{sends-none, stops-nowhere, none-read, some-none}

-- the script is there
abbrev pub plan-read : (words : Result AskedRun ℕ) (asked : AskedRun) (before mid : FilesView) (plan : Plan) → words ≡ Ok asked → SaysPlan asked.source before mid plan → mid.told ≡ before.told → IsPlan plan
    → PlanRead words before mid plan
plan-read words asked before mid plan e read told is = record { asked = asked; named = e; read = read; told = told; is_plan = is }

-- no read failed for it
pub says-reads : (source : Source) (before mid : FilesView) (plan : Plan) → SaysPlan source before mid plan → mid.reads ≡ before.reads
says-reads (FromFile name) before mid plan says = says.read.reads
says-reads (FromLoad number) before mid plan says = ap (λ (v : FilesView). v.reads) says.0

-- the script of a load
load-says : (words : Result AskedRun ℕ) (before mid : FilesView) (plan : Plan) (number : ℕ) → PlanRead words before mid plan → AskFor words (FromLoad number) → SaysPlan (FromLoad number) before mid plan
load-says words before mid plan number r asks = subst (λ (s : Source). SaysPlan s before mid plan) (same-source words r.asked (FromLoad number) r.named asks) r.read

-- nothing is read for it
pub load-plan-quiet : (words : Result AskedRun ℕ) (before mid : FilesView) (plan : Plan) (number : ℕ) → PlanRead words before mid plan → AskFor words (FromLoad number) → NothingRead before mid
load-plan-quiet words before mid plan number r asks =
    let same = (load-says words before mid plan number r asks).0 in
    record { answered = ap (λ (v : FilesView). v.answered) same; reads = ap (λ (v : FilesView). v.reads) same }

-- nor behind it
quiet-behind : (words : Result AskedRun ℕ) (before mid after : FilesView) (plan : Plan) (number : ℕ) → PlanRead words before mid plan → AskFor words (FromLoad number) → NothingRead mid after
    → NothingRead before after
quiet-behind words before mid after plan number r asks quiet = subst (λ (v : FilesView). NothingRead v after) (load-says words before mid plan number r asks).0 quiet

pub load-quiet : (words : Result AskedRun ℕ) (before after : FilesView) (plan : Plan) (input : RunInput) (number : ℕ) → HasInput words before after plan input → AskFor words (FromLoad number)
    → NothingRead before after
load-quiet words before after plan input number h asks =
    quiet-behind words before h.loaded.mid after plan number h.loaded.script asks
    (none-read plan.steps h.loaded.mid after h.contents (sends-none number plan (load-says words before h.loaded.mid plan number h.loaded.script asks).1) h.loaded.files)

pub load-ends-quiet : (words : Result AskedRun ℕ) (before mid after : FilesView) (plan : Plan) (number : ℕ) (fault : InputFault) → PlanRead words before mid plan → AskFor words (FromLoad number)
    → FilesEnd plan.steps mid after fault → NothingRead before after
load-ends-quiet words before mid after plan number fault r asks ends = quiet-behind words before mid after plan number r asks (quiet fault ends)
  where
    none : file_names plan.steps ≡ []
    none = sends-none number plan (load-says words before mid plan number r asks).1

    quiet : (fault : InputFault) → FilesEnd plan.steps mid after fault → NothingRead mid after
    quiet (input.Script fault) ends = absurd ends
    quiet (input.ReadFault line) ends = absurd (stops-nowhere plan.steps line ends.name ends.contents mid after none ends.stops)
    quiet (input.Limit line) ends = absurd (stops-nowhere plan.steps line ends.name ends.contents mid after none ends.stops)
    quiet input.NoMemory ends = some-none plan.steps mid after none ends

-- there is no script of a load
pub load-source-quiet : (words : Result AskedRun ℕ) (asked : AskedRun) (before after : FilesView) (number : ℕ) (fault : InputFault) → words ≡ Ok asked → AskFor words (FromLoad number)
    → SourceEnds asked.source before after fault → NothingRead before after
load-source-quiet words asked before after number fault e asks ends =
    let same = (subst (λ (s : Source). SourceEnds s before after fault) (same-source words asked (FromLoad number) e asks) ends).0 in
    record { answered = ap (λ (v : FilesView). v.answered) same; reads = ap (λ (v : FilesView). v.reads) same }

-- all was read
pub all-read : (words : Result AskedRun ℕ) (before mid after : FilesView) (plan : Plan) (input : RunInput) (script : PlanRead words before mid plan)
    → IsInputOf mid after plan script.asked.schedulers script.asked.workers input → HasInput words before after plan input
all-read words before mid after plan input script is = record {
  contents = is.contents;
  loaded = record { mid = mid; script = script; files = is.read };
  run = is.run;
  names = is.names;
  writes = is.writes;
}

module _ {D : Type 0} (kind : D → Kind) (stage : D → Life) (faults : D → ℕ) where
  -- there is no script
  source-ends-of : (source : Source) (words : Result AskedRun ℕ) (hosts : List (Hosted D)) (before after : FilesView) (fault : InputFault) → AskFor words source
      → SourceEnds source before after fault → InputEnds kind stage faults words hosts before after (input_cause fault)
  source-ends-of (FromFile name) words hosts before after (input.Script fault) asks ends = record { name = name; named = asks; of_script = ends.0; read = ends.1 }
  source-ends-of (FromFile name) words hosts before after (input.ReadFault line) asks ends = inl (ends.0, record { name = name; named = asks; answered = ends.1; unread = ends.2 })
  source-ends-of (FromFile name) words hosts before after (input.Limit line) asks ends = inl (ends.0, record { name = name; named = asks; nothing = ends.1; over = ends.2 })
  source-ends-of (FromFile name) words hosts before after input.NoMemory asks ends = elim ends [ inl none ↦ none.reads | inr one ↦ one.1.reads ]
  source-ends-of (FromLoad number) words hosts before after fault asks ends =
      subst (λ (f : InputFault). InputEnds kind stage faults words hosts before after (input_cause f)) (sym ends.1) (ap (λ (v : FilesView). v.reads) ends.0)

  pub source-ends : (words : Result AskedRun ℕ) (hosts : List (Hosted D)) (asked : AskedRun) (before after : FilesView) (fault : InputFault) → words ≡ Ok asked
      → SourceEnds asked.source before after fault → InputEnds kind stage faults words hosts before after (input_cause fault)
  source-ends words hosts asked before after fault e ends = source-ends-of asked.source words hosts before after fault (record { asked = asked; named = e; source_is = refl }) ends

  -- no driver is left for a port
  pub drivers-end : (words : Result AskedRun ℕ) (hosts : List (Hosted D)) (before after : FilesView) (plan : Plan) (ports : List PortDecl) (cause : Cause) → PlanRead words before after plan
      → ports ≡ plan.ports → DriversEnd kind stage faults ports hosts cause → InputEnds kind stage faults words hosts before after cause
  drivers-end words hosts before after plan ports Done r e ends = absurd ends
  drivers-end words hosts before after plan ports (Usage at) r e ends = absurd ends
  drivers-end words hosts before after plan ports (Script fault) r e ends = absurd ends
  drivers-end words hosts before after plan ports (ReadFault line) r e ends = absurd ends
  drivers-end words hosts before after plan ports WriteFault r e ends = absurd ends
  drivers-end words hosts before after plan ports (NoDriver line handed) r e ends =
      (plan, record { mid = after; script = r; files = none-done plan.steps after }, subst (λ ports. LacksAt kind stage faults ports hosts line handed) e ends)
  drivers-end words hosts before after plan ports (StartRefused line refusal) r e ends = absurd ends
  drivers-end words hosts before after plan ports PollFault r e ends = absurd ends
  drivers-end words hosts before after plan ports NoMemory r e ends = says-reads r.asked.source before after plan r.read
  drivers-end words hosts before after plan ports (Illegal port row law) r e ends = absurd ends
  drivers-end words hosts before after plan ports (Limit line) r e ends = absurd ends
  drivers-end words hosts before after plan ports (JournalText at) r e ends = absurd ends

  -- the files weren't read
  files-end-of : (source : Source) (words : Result AskedRun ℕ) (hosts : List (Hosted D)) (before mid after : FilesView) (plan : Plan) (fault : InputFault) → PlanRead words before mid plan
      → AskFor words source → SaysPlan source before mid plan → FilesEnd plan.steps mid after fault → AllFound kind hosts plan.ports → InputEnds kind stage faults words hosts before after (input_cause fault)
  files-end-of source words hosts before mid after plan (input.Script fault) r asks says ends drivers = absurd ends
  files-end-of (FromFile name) words hosts before mid after plan (input.ReadFault line) r asks says ends drivers =
      inr (record { name = name; named = asks; plan = plan; mid = mid; script = r; drivers = drivers; file = ends })
  files-end-of (FromFile name) words hosts before mid after plan (input.Limit line) r asks says ends drivers =
      inr (record { name = name; named = asks; plan = plan; mid = mid; script = r; drivers = drivers; files = ends })
  files-end-of (FromLoad number) words hosts before mid after plan (input.ReadFault line) r asks says ends drivers =
      absurd (stops-nowhere plan.steps line ends.name ends.contents mid after (sends-none number plan says.1) ends.stops)
  files-end-of (FromLoad number) words hosts before mid after plan (input.Limit line) r asks says ends drivers =
      absurd (stops-nowhere plan.steps line ends.name ends.contents mid after (sends-none number plan says.1) ends.stops)
  files-end-of source words hosts before mid after plan input.NoMemory r asks says ends drivers = ends.read.reads ∙ says-reads source before mid plan says

  pub files-end : (words : Result AskedRun ℕ) (hosts : List (Hosted D)) (before mid after : FilesView) (plan : Plan) (fault : InputFault) → PlanRead words before mid plan
      → FilesEnd plan.steps mid after fault → AllFound kind hosts plan.ports → InputEnds kind stage faults words hosts before after (input_cause fault)
  files-end words hosts before mid after plan fault r ends drivers =
      files-end-of r.asked.source words hosts before mid after plan fault r (record { asked = r.asked; named = r.named; source_is = refl }) r.read ends drivers

-- what holds of a fault holds of the answer that tells it
pub err-so : {A E : Type 0} (r : Result A E) (e : E) (P : E → Type 0) → IsErrAnd r (λ f. f ≡ e) → P e → IfErr r P
err-so (Ok x) e P told h = absurd told
err-so (Err f) e P told h = rw told h
