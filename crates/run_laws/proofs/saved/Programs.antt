-- What the programs of ports took and gave in a run of a script.
use Rattle.std.proofs.Common.{◌≡◌, ◌∙◌, ℕ, List, length, take, Option, Some, None, refl, ap, subst}
use Rattle.std.specs.Prelude.{IfSome, slice_index_or}
use Rattle.driver_model.specs.port_config.declared.config.Config.{Config}
use Rattle.driver_model.specs.Calls.{Kind, Own, DriverCall, Running, Spawn}
use Rattle.driver_model.specs.Drivers.{holds}
use Rattle.driver_model.specs.Programs.{TellsOfProgram, ToldProgram, Tells}
use Rattle.driver_model.specs.Spawn.{program as kept}
use Rattle.port_driver.specs.declared.life.Life.{Life}
use Rattle.run_output.specs.script_run.Ran.{history_of, opening_of}
use Rattle.unframed_output.specs.Laws.{frames_asked}
use Rattle.unframed_output.proofs.Ended.{end-is-told}
use Rattle.unframed_output.proofs.Input.{input-is-taken}
use Rattle.unframed_output.proofs.Rows.{output-is-unframed}
use Rattle.unframed_output.proofs.Taken.{output-is-taken}
use Rattle.unframed_output.proofs.Whole.{input-is-whole}
use Rattle.run_laws.specs.Served.{ProgramsServedIn}
use Rattle.run_laws.proofs.saved.Runs.{config-served, named-spawn, of-program}

-- the driver of a program tells of it
record IsTold (config : Config) (calls : List DriverCall) (told : Option ToldProgram) : Type 0 where
  program : ToldProgram
  told_is : told ≡ Some program
  tells : Tells config calls program

is-told : (kind : Kind) (config : Config) (calls : List DriverCall) (own : Own) (told : Option ToldProgram) → kind ≡ Spawn → own ≡ (holds kind config calls).own → TellsOfProgram own told
    → IfSome told (Tells config calls) → IsTold config calls told
is-told kind config calls own None spawns keeps some tells =
    let none : TellsOfProgram (Running (kept config calls)) None = subst (λ o. TellsOfProgram o None) (keeps ∙ ap (λ k. (holds k config calls).own) spawns) some in
    absurd (cc)
is-told kind config calls own (Some program) spawns keeps some tells = record { program = program; told_is = refl; tells = tells }

module _ {D : Type 0} (kind : D → Kind) (stage : D → Life) (faults : D → ℕ) (own : D → Own) (program : D → Option ToldProgram) where
  pub programs-served-in : ProgramsServedIn kind stage faults own program
  programs-served-in script old new before after ran run number d p h opens =
      let processes = length script.process_steps.items in
      let decl = slice_index_or script.ports.items number d in
      let port = slice_index_or ran.ports.items number p in
      let mine = run.ports number d p h opens.below in
      let opening = opening_of number processes (kind mine.driver) decl port in
      let history = history_of port in
      let of = of-program number processes script.workers (kind mine.driver) decl port mine.holds opens.driver (config-served decl.config opens.config) in
      let taken = input-is-taken opening history of in
      let spawns = named-spawn (kind mine.driver) (mine.holds.named ∙ opens.driver) in
      let told = is-told (kind mine.driver) decl.config _ (own mine.driver) (program mine.driver) spawns mine.stands.keeps mine.told mine.stands.told in
      record {
        driver = mine.driver;
        back = mine.back;
        spawns = spawns;
        framed = record {
          program = told.program;
          told_is = told.told_is;
          took = taken.0;
          whole = input-is-whole opening history of mine.holds.finished;
          given = told.tells.given ∙ ap (λ n. take n (frames_asked opening history)) taken.1;
          gave = told.tells.taken ∙ output-is-taken opening history of;
          at_end = told.tells.at_end ∙ end-is-told opening history of;
          sent = output-is-unframed opening history of;
        };
      }
