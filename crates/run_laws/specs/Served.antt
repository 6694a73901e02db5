-- What the program of a port took, and what its port sent of what the program gave, in a run of a script.
use Rattle.std.specs.Prelude.{◌≡◌, ◌<◌, ◌≤◌, ℕ, List, length, take, false, true, Option, Some, codes, slice_index, slice_index_or}
use Rattle.driver_model.specs.Calls.{Kind, Own, Spawn}
use Rattle.driver_model.specs.Programs.{ToldProgram}
use Rattle.port_config.specs.Config.{is_config}
use Rattle.port_driver.specs.declared.life.Life.{Life}
use Rattle.port_history.specs.Opening.{Opening}
use Rattle.port_history.specs.State.{state}
use Rattle.port_model.specs.declared.row.Row.{Row}
use Rattle.run_output.specs.script_run.run_opening.driver_hosts.declared.hosted.Hosted.{Hosted}
use Rattle.run_output.specs.run_opening.declared.run_script.RunScript.{RunScript}
use Rattle.run_output.specs.script_run.declared.running.PortLeft.{PortLeft}
use Rattle.run_output.specs.script_run.declared.running.ScriptRan.{ScriptRan}
use Rattle.run_output.specs.script_run.Ran.{HasRun, history_of, opening_of}
use Rattle.script_plan.specs.declared.decl.PortDecl.{PortDecl}
use Rattle.unframed_output.specs.Laws.{AreMessages, frames_asked, is_killed}
use Rattle.unframed_output.specs.Output.{bytes_kept, bytes_taken, bytes_took, has_ended, has_fault, messages_sent}

-- the port of this number is opened for a program, with options in their ranges
pub record OpensProgram (script : RunScript) (number : ℕ) (decl : PortDecl) : Type 0 where
  pub below : number < length script.ports.items
  pub driver : decl.driver ≡ codes "spawn"
  pub config : is_config decl.config ≡ true

-- The program took no more bytes than the frames of the commands that its driver handled have, and as many where the port wasn't killed and no call of the program failed. It was given just so many bytes
-- from the front of these frames, in the order of the commands, and gave the bytes that the port took from it, and its end was fetched where the port was told of one. The data that the port sent are the
-- messages of these bytes, but for a chunk that failed it
pub record IsFramed (opening : Opening) (history : List Row) (told : Option ToldProgram) : Type 0 where
  pub program : ToldProgram
  pub told_is : told ≡ Some program
  pub took : bytes_took history ≤ length (frames_asked opening history)
  pub whole : is_killed (state opening history).reason ≡ false → has_fault history ≡ false → bytes_took history ≡ length (frames_asked opening history)
  pub given : program.given ≡ take (bytes_took history) (frames_asked opening history)
  pub gave : program.taken ≡ bytes_taken history
  pub at_end : program.at_end ≡ has_ended history
  pub sent : AreMessages opening.config.mode (bytes_kept opening.config.mode history) (has_ended history) (messages_sent history)

module _ {D : Type 0} where
  -- the driver that came back with this port is that of a program, and so it is with this program
  pub record ProgramServed (kind : D → Kind) (program : D → Option ToldProgram) (number processes : ℕ) (decl : PortDecl) (port : PortLeft) (host : Hosted D) : Type 0 where
    pub driver : D
    pub back : host ≡ record { port = Some number; driver = Some driver }
    pub spawns : kind driver ≡ Spawn
    pub framed : IsFramed (opening_of number processes (kind driver) decl port) (history_of port) (program driver)

  -- so it is with each port of a program, whose drivers came back at these places
  abbrev pub ProgramsServed : (D → Kind) → (D → Option ToldProgram) → RunScript → List ℕ → List (Hosted D) → ScriptRan → Type 0
  ProgramsServed kind program script places new ran = (number : ℕ) (d : PortDecl) (p : PortLeft) (h : Hosted D) → OpensProgram script number (slice_index_or script.ports.items number d)
      → ProgramServed kind program number (length script.process_steps.items) (slice_index_or script.ports.items number d) (slice_index_or ran.ports.items number p)
      (slice_index_or new (slice_index places number) h)

  -- so it is in every run
  abbrev pub ProgramsServedIn : (D → Kind) → (D → Life) → (D → ℕ) → (D → Own) → (D → Option ToldProgram) → Type 0
  ProgramsServedIn kind stage faults own program = (script : RunScript) (old new : List (Hosted D)) (before : List ℕ) (after : Option (List ℕ)) (ran : ScriptRan)
      → (run : HasRun kind stage faults own program script old new before after ran) → ProgramsServed kind program script run.places new ran
