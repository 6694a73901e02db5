-- A port that sends each command back, and to which its owner alone sends: commands without options, and behind them nothing but closes, until the processes end.
use Rattle.std.specs.Prelude.{◌≡◌, ℕ, ◌<◌, ◌≤◌, ◌==◌, List, [], ◌∷◌, ◌++◌, length, All, Bool, true, false, ◌||◌, Option, Some, None, if◌then◌else◌, slice_index_or, codes}
use Rattle.std.specs.List.{list_any, sum_by}
use Rattle.run_output.specs.script_run.run_opening.driver_model.Same.{same_bytes}
use Rattle.run_output.specs.script_run.run_opening.run_end.process_job.Asks.{calls_of, files_after, next_content}
use Rattle.run_output.specs.script_run.run_opening.run_seats.declared.plans.ProcessSteps.{ProcessSteps}
use Rattle.run_output.specs.script_run.run_opening.run_end.process_job.script_plan.declared.decl.PortDecl.{PortDecl}
use Rattle.run_output.specs.script_run.run_opening.run_end.process_job.script_plan.declared.step.Step.{Step}
use Rattle.run_output.specs.script_run.run_opening.run_end.process_job.script_plan.declared.step.Act.{Act}
use Rattle.run_output.specs.script_run.run_opening.run_end.process_job.script_plan.declared.step.Act.TheVariants.{Command, File, Send, Control, Call, Close, Connect, SendClose, SendConnect, Link, Unlink, Monitor, Demonitor, Exit}
use Rattle.run_output.specs.script_run.run_opening.run_end.process_job.script_plan.Monitors.{is_die}

-- the driver of this name sends the data of each command back
abbrev pub sends_back : List ℕ → Bool
sends_back driver = list_any (same_bytes driver) (codes "echo" ∷ codes "valve" ∷ codes "valve_soft" ∷ [])

-- the port to which an act sends: none where it waits, or ends its process
abbrev pub sends_to : Act → Option ℕ
sends_to (Command port bytes force nosuspend) = Some port
sends_to (File port size file force nosuspend) = Some port
sends_to (Send port bytes) = Some port
sends_to (Control port op bytes) = Some port
sends_to (Call port op bytes) = Some port
sends_to (Close port) = Some port
sends_to (Connect port to) = Some port
sends_to (SendClose port) = Some port
sends_to (SendConnect port to) = Some port
sends_to (Link port) = Some port
sends_to (Unlink port) = Some port
sends_to (Monitor port number) = Some port
sends_to (Demonitor port number) = Some port
sends_to (Exit port reason) = Some port
sends_to _ = None

-- the act sends commands without options
abbrev pub is_plain : Act → Bool
is_plain (Command port bytes false false) = true
is_plain (File port size file false false) = true
is_plain _ = false

-- the act closes its port
abbrev pub closes : Act → Bool
closes (Close port) = true
closes (SendClose port) = true
closes _ = false

-- each of these steps that sends to the port closes it
abbrev pub OnlyClose : ℕ → List Step → Type 0
OnlyClose number steps = All (λ s. sends_to s.act ≡ Some number → closes s.act ≡ true) steps

-- of these steps those that close the port stand behind all others that send to it
abbrev pub ClosesLast : ℕ → List Step → Type 0
ClosesLast number [] = Unit {0}
ClosesLast number (step ∷ steps) = (sends_to step.act ≡ Some number → closes step.act ≡ true → OnlyClose number steps) × ClosesLast number steps

-- The driver of the port sends each command back. Of all steps those that send to the port are its owner's: they send commands without options or close it, and those that close it stand last
pub record IsEchoPort (number : ℕ) (decl : PortDecl) (process_steps : List ProcessSteps) : Type 0 where
  pub driver : sends_back decl.driver ≡ true
  pub sent : (process : ℕ) (p : ProcessSteps) → process < length process_steps
      → All (λ s. sends_to s.act ≡ Some number → (process ≡ decl.owner) × ((is_plain s.act || closes s.act) ≡ true)) (slice_index_or process_steps process p).steps.items
  pub closes_last : (process : ℕ) (p : ProcessSteps) → process < length process_steps → ClosesLast number (slice_index_or process_steps process p).steps.items

-- the bytes that an act sends to a port in commands: those of a file are its content
abbrev pub sent_by : ℕ → Act → List ℕ → List ℕ
sent_by number (Command port bytes force nosuspend) content = if port == number then bytes else []
sent_by number (File port size file force nosuspend) content = if port == number then content else []
sent_by number _ content = []

-- the bytes that the steps send to a port, in their order, up to the one that ends the process. `files` has the contents of their files
abbrev pub all_sent_by : ℕ → List Step → List (List ℕ) → List ℕ
all_sent_by number [] files = []
all_sent_by number (step ∷ steps) files =
    if is_die step.act then [] else sent_by number step.act (next_content files) ++ all_sent_by number steps (files_after step.act files)

-- a command for the port has no more data than a port takes
abbrev pub IsShort : ℕ → Act → Type 0
IsShort number (Command port bytes force nosuspend) = port ≡ number → length bytes ≤ 262143
IsShort number _ = Unit {0}

-- the process makes no more calls than it may, for all ports together, and its commands for this port are short
pub record IsWithinLimits (number : ℕ) (own_steps : ProcessSteps) : Type 0 where
  pub few : sum_by length (calls_of own_steps.steps.items own_steps.files.items) ≤ 131072
  pub short : All (λ s. IsShort number s.act) own_steps.steps.items
