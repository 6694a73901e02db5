-- What the owner of a port finds that sends each command back, whatever the schedule.
use Rattle.std.specs.Prelude.{◌≡◌, ℕ, ◌<◌, ◌==◌, ◌&&◌, List, [], ◌∷◌, Bool, true, false, Option, length, slice_index_or}
use Rattle.std.specs.List.{flat_map, list_any}
use Rattle.run_output.specs.script_run.run_opening.driver_model.Calls.{Kind, Own}
use Rattle.run_output.specs.script_run.run_opening.driver_model.Programs.{ToldProgram}
use Rattle.run_output.specs.script_run.run_opening.driver_hosts.declared.hosted.Hosted.{Hosted}
use Rattle.run_output.specs.script_run.run_opening.driver_hosts.port_driver.declared.life.Life.{Life}
use Rattle.echoed_history.specs.port_history.Counts.{late_commands, saved_of}
use Rattle.process_end.specs.process_receipts.Asks.{Asked}
use Rattle.process_end.specs.process_receipts.declared.receipt.Outcome.{Outcome}
use Rattle.process_end.specs.process_receipts.declared.receipt.Outcome.TheVariants.{Accepted, Suspended, TooLong, SentOut}
use Rattle.process_end.specs.process_receipts.declared.receipt.Receipt.{Receipt}
use Rattle.process_end.specs.process_receipts.Receipts.{accepted, is_put}
use Rattle.run_output.specs.script_run.run_opening.run_end.Shown.{Calls}
use Rattle.run_output.specs.script_run.run_opening.run_seats.declared.plans.ProcessSteps.{ProcessSteps}
use Rattle.run_output.specs.script_run.run_opening.declared.run_script.RunScript.{RunScript}
use Rattle.run_output.specs.script_run.run_opening.Script.{IsRunnable}
use Rattle.run_output.specs.script_run.run_opening.run_end.process_job.script_plan.declared.decl.PortDecl.{PortDecl}
use Rattle.run_output.specs.script_run.declared.running.PortLeft.{PortLeft}
use Rattle.run_output.specs.script_run.declared.running.ProcessLeft.{ProcessLeft}
use Rattle.run_output.specs.script_run.declared.running.ScriptRan.{ScriptRan}
use Rattle.run_output.specs.script_run.Ran.{HasRun, calls_of}
use Rattle.echoed_history.specs.Commands.{is_close, task_data}
use Rattle.run_laws.specs.Sending.{IsEchoPort, IsWithinLimits, all_sent_by}

-- the call put its signal, or was refused for its size or since its process had made as many calls as it may
abbrev pub is_taken : Outcome → Bool
is_taken Accepted = true
is_taken Suspended = true
is_taken TooLong = true
is_taken SentOut = true
is_taken outcome = false

-- the call closes this port
abbrev pub closes_port : ℕ → Asked → Bool
closes_port number ask = (ask.port == number) && is_close ask.signal

-- Each call for this port that was made before any that closes it has an outcome that passes the test; where none closes it, each call, that of the end too. Calls and receipts stand newest first
abbrev pub EachBeforeClose : ℕ → (Outcome → Bool) → List Asked → List Receipt → Type 0
EachBeforeClose number test [] receipts = Unit {0}
EachBeforeClose number test (ask ∷ asks) [] = Unit {0}
EachBeforeClose number test (ask ∷ asks) (receipt ∷ receipts) =
    (receipt.port ≡ number → list_any (closes_port number) (ask ∷ asks) ≡ false → test receipt.outcome ≡ true) × EachBeforeClose number test asks receipts

-- No call of the owner for the port was refused as closed, dropped or not supported before it closed the port. What is saved of the port for its owner is the data of its commands that were accepted or
-- suspended, in the order sent. No command came late
pub record IsEchoed (number : ℕ) (calls : Calls) (port : PortLeft) (left : ProcessLeft) : Type 0 where
  pub taken : EachBeforeClose number is_taken calls.asks calls.receipts
  pub saved : saved_of number left.mails.items ≡ flat_map task_data (accepted number calls.asks calls.receipts)
  pub none_late : late_commands port.journal.rows ≡ 0

-- the calls that a process made in a run
abbrev pub calls_in : RunScript → ScriptRan → ℕ → ProcessSteps → ProcessLeft → Calls
calls_in script ran process p left = calls_of (length script.ports.items) (slice_index_or script.process_steps.items process p) (slice_index_or ran.processes.items process left)

-- so it is with the port of this number and its owner in a run
abbrev pub EchoesTo : RunScript → ScriptRan → ℕ → ℕ → ProcessSteps → PortLeft → ProcessLeft → Type 0
EchoesTo script ran number owner p port left =
    IsEchoed number (calls_in script ran owner p left) (slice_index_or ran.ports.items number port) (slice_index_or ran.processes.items owner left)

-- none of the owner's calls for the port was refused before it closed the port
abbrev pub ArePut : ℕ → Calls → Type 0
ArePut number calls = EachBeforeClose number is_put calls.asks calls.receipts

-- then all is saved that its steps send: the data of its `command` steps and the contents of its `file` steps, in their order
abbrev pub EchoesAllTo : RunScript → ScriptRan → ℕ → ℕ → ProcessSteps → ProcessLeft → Type 0
EchoesAllTo script ran number owner p left = ArePut number (calls_in script ran owner p left)
    → saved_of number (slice_index_or ran.processes.items owner left).mails.items
    ≡ all_sent_by number (slice_index_or script.process_steps.items owner p).steps.items (slice_index_or script.process_steps.items owner p).files.items

-- and none is refused where its owner makes few calls, and short ones
abbrev pub RefusesNoneOf : RunScript → ScriptRan → ℕ → ℕ → ProcessSteps → ProcessLeft → Type 0
RefusesNoneOf script ran number owner p left = IsWithinLimits number (slice_index_or script.process_steps.items owner p) → ArePut number (calls_in script ran owner p left)

module _ {D : Type 0} (kind : D → Kind) (stage : D → Life) (faults : D → ℕ) (own : D → Own) (program : D → Option ToldProgram) where
  -- in each run of a script a port that sends each command back does so, in order
  abbrev pub CommandsAreEchoed : Type 0
  CommandsAreEchoed = (script : RunScript) (old new : List (Hosted D)) (before : List ℕ) (after : Option (List ℕ)) (ran : ScriptRan)
      → HasRun kind stage faults own program script old new before after ran
      → (number : ℕ) (decl : PortDecl) (p : ProcessSteps) (port : PortLeft) (left : ProcessLeft) → number < length script.ports.items
      → IsEchoPort number (slice_index_or script.ports.items number decl) script.process_steps.items
      → EchoesTo script ran number (slice_index_or script.ports.items number decl).owner p port left

  -- it sends all back that the owner's steps send, where each call was put
  abbrev pub AllIsEchoed : Type 0
  AllIsEchoed = (script : RunScript) (old new : List (Hosted D)) (before : List ℕ) (after : Option (List ℕ)) (ran : ScriptRan)
      → HasRun kind stage faults own program script old new before after ran → IsRunnable script
      → (number : ℕ) (decl : PortDecl) (p : ProcessSteps) (left : ProcessLeft) → number < length script.ports.items
      → IsEchoPort number (slice_index_or script.ports.items number decl) script.process_steps.items
      → EchoesAllTo script ran number (slice_index_or script.ports.items number decl).owner p left

  -- and each call is put, where the owner makes few and short ones
  abbrev pub NoneIsRefused : Type 0
  NoneIsRefused = (script : RunScript) (old new : List (Hosted D)) (before : List ℕ) (after : Option (List ℕ)) (ran : ScriptRan)
      → HasRun kind stage faults own program script old new before after ran → IsRunnable script
      → (number : ℕ) (decl : PortDecl) (p : ProcessSteps) (left : ProcessLeft) → number < length script.ports.items
      → IsEchoPort number (slice_index_or script.ports.items number decl) script.process_steps.items
      → RefusesNoneOf script ran number (slice_index_or script.ports.items number decl).owner p left
