-- What of a run is the same for every schedule, by the laws of the crates below.
use Rattle.std.proofs.Common.{ℕ, List, Option, Result, subst}
use Rattle.driver_model.specs.Calls.{Kind, Own}
use Rattle.driver_model.specs.Programs.{ToldProgram}
use Rattle.driver_hosts.specs.declared.hosted.Hosted.{Hosted}
use Rattle.run_laws.specs.Law.{SummaryIsOfNumber}
use Rattle.run_laws.specs.run_output.Reported.{report_of}
use Rattle.run_laws.specs.Echoed.{AllIsEchoed, CommandsAreEchoed, NoneIsRefused}
use Rattle.run_laws.specs.Saved.{OutputIsSavedIn}
use Rattle.run_laws.specs.run_output.script_run.declared.running.ScriptRan.{ScriptRan}
use Rattle.run_laws.specs.run_output.script_run.Ran.{HasRun}
use Rattle.port_driver.specs.declared.life.Life.{Life}
use Rattle.script_input.specs.declared.input.RunInput.{RunInput}
use Rattle.script_input.specs.Files.{FilesView}
use Rattle.script_input.specs.Input.{IsRunOf}
use Rattle.script_input.specs.Names.{AreNamesOf}
use Rattle.script_input.specs.run_opening.declared.run_script.RunScript.{RunScript}
use Rattle.script_input.specs.run_opening.Script.{IsRunnable}
use Rattle.script_input.specs.Words.{AskedRun, Source, FromFile, FromLoad}
use Rattle.script_plan.specs.Plan.{Plan}
use Rattle.gateway.specs.Fixed.{AnswersAreFixed, IsSummaryOf}
use Rattle.gateway.specs.Run.{HasInput, SaysPlan}

module _ {D : Type 0} (kind : D → Kind) (stage : D → Life) (faults : D → ℕ) (own : D → Own) (program : D → Option ToldProgram) where
  -- the laws of a run whose answers are fixed
  pub record FixedLaws : Type 0 where
    pub echoed : CommandsAreEchoed kind stage faults own program
    pub all : AllIsEchoed kind stage faults own program
    pub none_refused : NoneIsRefused kind stage faults own program
    pub saved : OutputIsSavedIn kind stage faults own program
    pub summed : SummaryIsOfNumber kind stage faults own program

  pub answers-fixed : FixedLaws → (script : RunScript) (old new : List (Hosted D)) (before : List ℕ) (after : Option (List ℕ)) (left : ScriptRan)
      → HasRun kind stage faults own program script old new before after left → IsRunnable script → AnswersAreFixed script left
  answers-fixed laws script old new before after left ran runnable = record {
    echoes = λ number decl below is. record {
      echoed = λ p port l. laws.echoed script old new before after left ran number decl p port l below is;
      all = λ p l. laws.all script old new before after left ran runnable number decl p l below is;
      none_refused = λ p l. laws.none_refused script old new before after left ran runnable number decl p l below is;
    };
    programs = λ number decl port l serves. laws.saved script old new before after left ran number decl port l serves;
  }

  -- the summary of the load that the words ask for
  summed-by : FixedLaws → (source : Source) (words-before mid : FilesView) (plan : Plan) (contents : List (List ℕ)) (schedulers workers : ℕ) (i : RunInput) (old new : List (Hosted D)) (before : List ℕ)
      (after : Option (List ℕ)) (left : ScriptRan) → SaysPlan source words-before mid plan → IsRunOf plan contents schedulers workers i.script → AreNamesOf plan i.names
      → HasRun kind stage faults own program i.script old new before after left → IsSummaryOf source (report_of i.names left)
  summed-by laws (FromFile name) words-before mid plan contents schedulers workers i old new before after left says run names ran = tt
  summed-by laws (FromLoad number) words-before mid plan contents schedulers workers i old new before after left says run names ran =
      laws.summed number i.script i.names left (record {
        contents = contents;
        schedulers = schedulers;
        workers = workers;
        run_of = subst (λ (p : Plan). IsRunOf p contents schedulers workers i.script) says.1 run;
        names_of = subst (λ (p : Plan). AreNamesOf p i.names) says.1 names;
        hosts = old;
        hosts_after = new;
        answered = before;
        answered_after = after;
        has_run = ran;
      })

  pub summed : FixedLaws → (words : Result AskedRun ℕ) (files read : FilesView) (plan : Plan) (i : RunInput) (h : HasInput words files read plan i) (old new : List (Hosted D)) (before : List ℕ)
      (after : Option (List ℕ)) (left : ScriptRan) → HasRun kind stage faults own program i.script old new before after left
      → IsSummaryOf h.loaded.script.asked.source (report_of i.names left)
  summed laws words files read plan i h old new before after left ran =
      summed-by laws h.loaded.script.asked.source files h.loaded.mid plan h.contents h.loaded.script.asked.schedulers h.loaded.script.asked.workers i old new before after left h.loaded.script.read
      h.run h.names ran
