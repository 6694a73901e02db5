-- The calls that the steps of a process make name only processes that are there, and data as one segment or none.
use Rattle.std.proofs.Common.{ℕ, List, [], ◌∷◌, reverse}
use Rattle.std.specs.Prelude.{All}
use Rattle.std.specs.List.{AllByRecursion}
use Rattle.std.proofs.lemmas.List.Elements.{All-from_recursion, recursion_from_All}
use Rattle.port_model.specs.Tasks.{TaskView}
use Rattle.process_receipts.specs.Asks.{Asked}
use Rattle.process_receipts.specs.Receipts.{accepted}
use Rattle.process_receipts.specs.declared.how.How.{How}
use Rattle.process_receipts.specs.declared.how.How.TheVariants as how
use Rattle.process_receipts.specs.declared.receipt.Receipt.{Receipt}
use Rattle.process_end.specs.Commanded.{command_of}
use Rattle.run_output.specs.run_opening.run_end.process_job.Asks.{pieces, vector_of, command_ask, how_of, asks_of, made_asks}
use Rattle.script_plan.specs.Plan.{IsWithin}
use Rattle.script_plan.specs.declared.step.Step.{Step}
use Rattle.script_plan.specs.declared.step.Act.{Act}
use Rattle.script_plan.specs.declared.step.Act.TheVariants.{Command, File, Send, Control, Call, Close, Connect, SendClose, SendConnect, Link, Unlink, Monitor, Demonitor, Exit}
use Rattle.run_output.specs.run_opening.run_end.process_job.Jobs.{AreWithin}
use Rattle.run_laws.proofs.journals.Named.{IsOneSegment, SignalNames}
use Rattle.run_laws.proofs.Lists.{all-map}
use Rattle.run_laws.proofs.Made.{all-accepted, all-made}

-- a call whose signal names such
abbrev pub AskNames : ℕ → Asked → Type 0
AskNames processes ask = SignalNames processes ask.signal

segment : (bytes : List ℕ) → IsOneSegment (vector_of bytes)
segment [] = tt
segment (byte ∷ bytes) = tt

command-named : (processes : ℕ) (how : How) (bytes : List ℕ) → SignalNames processes (command_of how (vector_of bytes))
command-named processes how.Plain bytes = segment bytes
command-named processes how.Owner bytes = segment bytes
command-named processes how.NoSuspend bytes = segment bytes
command-named processes how.Force bytes = segment bytes
command-named processes how.ForceNoSuspend bytes = segment bytes

act-named : (processes ports line : ℕ) (act : Act) (content : List ℕ) → IsWithin processes ports act → AllByRecursion (AskNames processes) (asks_of line act content)
act-named processes ports line (Command port bytes force nosuspend) content within = (command-named processes (how_of force nosuspend) bytes, tt)
act-named processes ports line (File port size file force nosuspend) content within =
    all-map (AskNames processes) (command_ask line port (how_of force nosuspend)) (pieces size content) (λ bytes. command-named processes (how_of force nosuspend) bytes)
act-named processes ports line (Send port bytes) content within = (segment bytes, tt)
act-named processes ports line (Control port op bytes) content within = (tt, tt)
act-named processes ports line (Call port op bytes) content within = (tt, tt)
act-named processes ports line (Close port) content within = (tt, tt)
act-named processes ports line (Connect port to) content within = (within.1, tt)
act-named processes ports line (SendClose port) content within = (tt, tt)
act-named processes ports line (SendConnect port to) content within = (within.1, tt)
act-named processes ports line (Link port) content within = (tt, tt)
act-named processes ports line (Unlink port) content within = (tt, tt)
act-named processes ports line (Monitor port number) content within = (tt, tt)
act-named processes ports line (Demonitor port number) content within = (tt, tt)
act-named processes ports line (Exit port reason) content within = (tt, tt)
act-named processes ports line act content within = tt

-- a task whose signal names such
abbrev pub TaskNames : ℕ → TaskView → Type 0
TaskNames processes task = SignalNames processes task.signal

-- the tasks that a process put into the lane of the port of this number
pub accepted-named : (processes ports number : ℕ) (steps : List Step) (files : List (List ℕ)) (made receipts : List Receipt) → AreWithin processes ports steps
    → All (TaskNames processes) (accepted number (reverse (made_asks ports steps files made)) receipts)
accepted-named processes ports number steps files made receipts within =
    let IsHere : Step → Type 0 = λ s. IsWithin processes ports s.act in
    let asks = reverse (made_asks ports steps files made) in
    All-from_recursion (TaskNames processes) (accepted number asks receipts)
    (all-accepted (AskNames processes) (TaskNames processes) number (λ ask outcome named here. named) asks receipts
    (all-made (AskNames processes) IsHere (λ step content is. act-named processes ports step.line step.act content is) (λ reason port. tt) ports steps files made (recursion_from_All IsHere steps within)))
