-- Which calls the steps of a process make that hand no port to another process.
use Rattle.std.proofs.Common.{◌≡◌, ℕ, List, reverse, true, false, eqb, refl, sym, ◌∙◌}
use Rattle.std.specs.List.{AllByRecursion}
use Rattle.port_model.specs.Tasks.{TaskView}
use Rattle.process_receipts.specs.Asks.{Asked}
use Rattle.process_receipts.specs.Receipts.{accepted}
use Rattle.process_receipts.specs.declared.how.How.{How}
use Rattle.process_receipts.specs.declared.how.How.TheVariants as how
use Rattle.run_output.specs.run_opening.run_end.process_end.Commanded.{command_of}
use Rattle.process_receipts.specs.declared.receipt.Receipt.{Receipt}
use Rattle.run_output.specs.run_opening.run_end.process_job.Asks.{pieces, vector_of, command_ask, how_of, asks_of, made_asks}
use Rattle.script_plan.specs.declared.step.Step.{Step}
use Rattle.script_plan.specs.declared.step.Act.{Act}
use Rattle.script_plan.specs.declared.step.Act.TheVariants.{Command, File, Send, Control, Call, Close, Connect, SendClose, SendConnect, Link, Unlink, Monitor, Demonitor, Exit}
use Rattle.unframed_output.specs.Laws.{is_connect}
use Rattle.run_laws.specs.Saved.{connects}
use Rattle.run_laws.proofs.Lists.{all-map}
use Rattle.run_laws.proofs.Made.{all-accepted, all-made}

-- a call that hands this port to nobody
abbrev pub Keeps : ℕ → Asked → Type 0
Keeps port ask = eqb ask.port port ≡ true → is_connect ask.signal ≡ false

command-keeps : (how : How) (bytes : List ℕ) → is_connect (command_of how (vector_of bytes)) ≡ false
command-keeps how.Plain bytes = refl
command-keeps how.Owner bytes = refl
command-keeps how.NoSuspend bytes = refl
command-keeps how.Force bytes = refl
command-keeps how.ForceNoSuspend bytes = refl

act-keeps : (port line : ℕ) (act : Act) (content : List ℕ) → connects port act ≡ false → AllByRecursion (Keeps port) (asks_of line act content)
act-keeps port line (Command other bytes force nosuspend) content keeps = (λ here. command-keeps (how_of force nosuspend) bytes, tt)
act-keeps port line (File other size file force nosuspend) content keeps = all-map (Keeps port) (command_ask line other (how_of force nosuspend)) (pieces size content) (λ bytes here. command-keeps (how_of force nosuspend) bytes)
act-keeps port line (Send other bytes) content keeps = (λ here. refl, tt)
act-keeps port line (Control other op bytes) content keeps = (λ here. refl, tt)
act-keeps port line (Call other op bytes) content keeps = (λ here. refl, tt)
act-keeps port line (Close other) content keeps = (λ here. refl, tt)
act-keeps port line (Connect other to) content keeps = (λ here. let e : true ≡ false = sym here ∙ keeps in absurd (cc), tt)
act-keeps port line (SendClose other) content keeps = (λ here. refl, tt)
act-keeps port line (SendConnect other to) content keeps = (λ here. let e : true ≡ false = sym here ∙ keeps in absurd (cc), tt)
act-keeps port line (Link other) content keeps = (λ here. refl, tt)
act-keeps port line (Unlink other) content keeps = (λ here. refl, tt)
act-keeps port line (Monitor other number) content keeps = (λ here. refl, tt)
act-keeps port line (Demonitor other number) content keeps = (λ here. refl, tt)
act-keeps port line (Exit other reason) content keeps = (λ here. refl, tt)
act-keeps port line act content keeps = tt

-- all calls of a process
pub asks-keep : (port ports : ℕ) (steps : List Step) (files : List (List ℕ)) (receipts : List Receipt) → AllByRecursion (λ (s : Step). connects port s.act ≡ false) steps
    → AllByRecursion (Keeps port) (reverse (made_asks ports steps files receipts))
asks-keep port = all-made (Keeps port) (λ s. connects port s.act ≡ false) (λ step content keeps. act-keeps port step.line step.act content keeps) (λ reason other here. refl)

-- a task that hands a port to nobody
abbrev pub TaskKeeps : TaskView → Type 0
TaskKeeps task = is_connect task.signal ≡ false

-- and the tasks that were put into a port's lane
pub accepted-keep : (port : ℕ) (asks : List Asked) (receipts : List Receipt) → AllByRecursion (Keeps port) asks → AllByRecursion TaskKeeps (accepted port asks receipts)
accepted-keep port = all-accepted (Keeps port) TaskKeeps port (λ ask outcome keeps here. keeps here)
