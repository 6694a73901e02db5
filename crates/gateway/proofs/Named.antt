-- The script of a run with its names, as the laws of the crates below ask for it.
use Rattle.std.proofs.Common.{◌≡◌, ℕ, true, Result, subst, sym}
use Rattle.std.specs.Prelude.{All}
use Rattle.run_laws.specs.Journals.{IsNamedScript}
use Rattle.run_laws.specs.Ranges.{has_own_options}
use Rattle.script_input.specs.Files.{FilesView}
use Rattle.script_input.specs.Words.{AskedRun, Source, FromFile, FromLoad}
use Rattle.script_input.specs.declared.input.RunInput.{RunInput}
use Rattle.script_input.specs.run_opening.Script.{IsRunnable}
use Rattle.script_plan.specs.Plan.{Plan}
use Rattle.script_plan.specs.declared.decl.PortDecl.{PortDecl}
use Rattle.gateway.specs.Run.{HasInput, SaysPlan}
use Rattle.gateway.proofs.Options.{options-of-load, options-of-script}

-- each port of the script has the options of its driver alone
options-of : (source : Source) (before mid : FilesView) (plan : Plan) → SaysPlan source before mid plan → All (λ p. has_own_options p ≡ true) plan.ports
options-of (FromFile name) before mid plan says = options-of-script says.bytes plan says.says
options-of (FromLoad number) before mid plan says = subst (λ (p : Plan). All (λ (port : PortDecl). has_own_options port ≡ true) p.ports) (sym says.1) (options-of-load number)

-- the script that was read, with its names
pub named-script : (words : Result AskedRun ℕ) (files read : FilesView) (plan : Plan) (i : RunInput) → HasInput words files read plan i → IsRunnable i.script → IsNamedScript plan i.script i.names
named-script words files read plan i h runnable = record {
  contents = h.contents;
  schedulers = h.loaded.script.asked.schedulers;
  workers = h.loaded.script.asked.workers;
  run_of = h.run;
  names_of = h.names;
  runnable = runnable;
  options = options-of h.loaded.script.asked.source files h.loaded.mid plan h.loaded.script.read;
}
