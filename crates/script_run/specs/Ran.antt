-- What a run of a script promises of each port and each process, whatever the schedule.
use Rattle.std.specs.Prelude.{◌≡◌, ◌<◌, ℕ, Bool, List, [], ◌∷◌, length, map, reverse, All, Option, Some, None, slice_index, slice_index_or}
use Rattle.std.specs.List.Sorted.{IsStrictlyIncreasing}
use Rattle.driver_model.specs.Calls.{Kind, Own}
use Rattle.driver_model.specs.Drivers.{kind_name, refusal_of}
use Rattle.driver_model.specs.Programs.{TellsOfProgram, ToldProgram}
use Rattle.port_driver.specs.Faults.{failures_in, RisenBy}
use Rattle.port_driver.specs.declared.life.Life.{Life}
use Rattle.port_history.specs.Lawful.{Lawful, IsFinished}
use Rattle.port_history.specs.Mail.{mails}
use Rattle.port_history.specs.Opening.{Opening}
use Rattle.port_history.specs.State.{state}
use Rattle.port_model.specs.declared.row.Row.{Row}
use Rattle.port_model.specs.declared.row.Row.TheVariants.{Handled, Late}
use Rattle.port_model.specs.declared.signal.Sender.{Sender}
use Rattle.port_model.specs.declared.signal.Sender.TheVariants.{Process, Poller, Worker, Timer}
use Rattle.process_receipts.specs.Receipts.{accepted, AreReceipts}
use Rattle.seated_script.specs.run_opening.run_end.process_job.Asks.{made_asks}
use Rattle.seated_script.specs.run_opening.run_end.process_job.Mails.{Came, mail_from, own_mails, readable, AreReplied}
use Rattle.seated_script.specs.run_opening.run_end.process_job.Waits.{WaitsAreShown}
use Rattle.port_body.specs.recorded_port.Asks.{resumed_words}
use Rattle.port_body.specs.recorded_port.View.{stat_marks}
use Rattle.port_body.specs.Ends.{HaveRows, IsLeftByCalls}
use Rattle.port_body.specs.LanePort.{rows_from}
use Rattle.driver_hosts.specs.declared.hosted.Hosted.{Hosted}
use Rattle.driver_hosts.specs.Back.{HaveServed}
use Rattle.driver_hosts.specs.Finding.{Found}
use Rattle.seated_script.specs.run_opening.run_end.Merge.{IsFromPort}
use Rattle.seated_script.specs.run_opening.run_end.Shown.{Calls, QueueWordsHold, WordsHold}
use Rattle.seated_script.specs.run_opening.Opened.{limits_of, soft_at}
use Rattle.seated_script.specs.run_opening.run_seats.declared.plans.ProcessSteps.{ProcessSteps}
use Rattle.script_plan.specs.declared.decl.PortDecl.{PortDecl}
use Rattle.closed_lanes.specs.closed_ports.told_jobs.Told.{WorkersTell}
use Rattle.suspended_calls.specs.Numbers.{listed_numbers, resumed_numbers, suspended_numbers}
use Rattle.seated_script.specs.run_opening.declared.run_script.RunScript.{RunScript}
use Rattle.script_run.specs.declared.running.PortLeft.{PortLeft}
use Rattle.script_run.specs.declared.running.ProcessLeft.{ProcessLeft}
use Rattle.script_run.specs.declared.running.ScriptRan.{ScriptRan}
use Rattle.script_run.specs.Readiness.{ReadyRowsAreAnswered}

-- the rows of a port, newest first
abbrev pub history_of : PortLeft → List Row
history_of port = reverse port.journal.rows

-- how the port of this number was opened, of so many processes, with a driver of this kind
abbrev pub opening_of : ℕ → ℕ → Kind → PortDecl → PortLeft → Opening
opening_of number processes kind decl port = record {
  number = number;
  processes = processes;
  kind = kind;
  config = decl.config;
  owner = decl.owner;
  read = port.events.0;
  write = port.events.1;
}

-- the sender is one of so many processes or workers, or the poller
abbrev pub IsAmong : ℕ → ℕ → Sender → Type 0
IsAmong processes workers (Process process) = process < processes
IsAmong processes workers Poller = Unit {0}
IsAmong processes workers (Worker worker) = worker < workers
IsAmong processes workers Timer = ⊥

-- so is the sender of a row's task
abbrev pub IsFrom : ℕ → ℕ → Row → Type 0
IsFrom processes workers (Handled from seq task outside effects) = IsAmong processes workers from
IsFrom processes workers (Late from seq task) = IsAmong processes workers from
IsFrom processes workers row = Unit {0}

-- the calls that a process made by its steps, and their receipts, both newest first
abbrev pub calls_of : ℕ → ProcessSteps → ProcessLeft → Calls
calls_of ports own_steps left = record {
  asks = reverse (made_asks ports own_steps.steps.items own_steps.files.items left.receipts);
  receipts = reverse left.receipts;
}

-- the calls of each of these processes, in their order
abbrev pub all_calls : ℕ → List ProcessSteps → List ProcessLeft → List Calls
all_calls ports (own_steps ∷ process_steps) (left ∷ rest) = calls_of ports own_steps left ∷ all_calls ports process_steps rest
all_calls ports process_steps rest = []

-- The history of a port is one lawful and finished history of a driver of this kind, with the port's options and owner, which doesn't refuse to start; each task in it is of one of so many processes or
-- workers, or of the poller; the tasks of each worker tell the first of the driver's jobs that are its, in their order; and each task for which its sender was listed has a row in it
pub record PortHolds (number processes workers : ℕ) (kind : Kind) (decl : PortDecl) (port : PortLeft) : Type 0 where
  pub named : kind_name kind ≡ decl.driver
  pub config_is : port.config ≡ decl.config
  pub starts : refusal_of kind decl.config ≡ None
  pub lawful : Lawful (opening_of number processes kind decl port) (history_of port)
  pub finished : IsFinished (opening_of number processes kind decl port) (history_of port)
  pub senders : All (IsFrom processes workers) port.journal.rows
  pub worked : WorkersTell workers (opening_of number processes kind decl port) (history_of port)
  pub listed : HaveRows (state (opening_of number processes kind decl port) (history_of port))

-- Of a process and a port: the tasks of the process that have a row are those that its receipts show accepted, in the order sent, each once; the calls for which it was listed, and those
-- after which it was resumed, are those that suspended it, in the order in which it made them, each once; and the mail that came from the port is what the port's rows sent it, in their order, but for mail
-- that resumes, which is for nobody to read
pub record PairHolds (number process processes : ℕ) (kind : Kind) (decl : PortDecl) (port : PortLeft) (calls : Calls) (came : List Came) : Type 0 where
  pub tasks : rows_from (Process process) (history_of port) ≡ accepted number calls.asks calls.receipts
  pub listed : listed_numbers process (history_of port) ≡ suspended_numbers number calls.receipts
  pub resumed : resumed_numbers process (history_of port) ≡ suspended_numbers number calls.receipts
  pub rising : IsStrictlyIncreasing (listed_numbers process (history_of port))
  pub mail : mail_from (Some number) came ≡ readable (mails (opening_of number processes kind decl port) process (history_of port))

-- A process has one receipt for each of its calls. Its mail came from the ports, but for what it added itself, which is one `noproc` for each link and each monitor that a closed port refused; each
-- signal that is answered, and was put, has its answer in it; and it has the data for which each of its steps waited, or the port is closed by the receipts of the calls behind that step
pub record ProcessHolds (ports : ℕ) (soft : List Bool) (own_steps : ProcessSteps) (calls : Calls) (left : ProcessLeft) (came : List Came) : Type 0 where
  pub receipts : AreReceipts soft calls.asks calls.receipts
  pub mails_are : left.mails.items ≡ map (λ c. c.mail) came
  pub own : mail_from None came ≡ own_mails calls.asks calls.receipts
  pub among : All (λ c. IsFromPort ports c.from) came
  pub replied : AreReplied calls.asks calls.receipts left.mails.items
  pub waited : WaitsAreShown left.mails.items left.receipts own_steps.steps.items own_steps.files.items

-- the words that the receipts of all processes show of a port agree with the marks of its history, keep the bound of its message queue, and show it busy only with a cause; and so do the words with which
-- its rows resume senders, but for the marks
pub record PortWordsHold (number processes : ℕ) (kind : Kind) (decl : PortDecl) (port : PortLeft) (all : List Calls) : Type 0 where
  pub shown : All (WordsHold number (limits_of decl.config) (stat_marks (state (opening_of number processes kind decl port) (history_of port)).marks) all) all
  pub resumed : QueueWordsHold number (limits_of decl.config) all (resumed_words (history_of port))

module _ {D : Type 0} where
  -- The driver that came back at this place served the port of this number, stands as the calls of the port's history leave it, and tells of the program that it served, if it did; and what is said of each process and the port, and of its words, holds.
  -- `came` is the mail of each process, each with its source
  pub record PortServed (kind : D → Kind) (own : D → Own) (program : D → Option ToldProgram) (script : RunScript) (ran : ScriptRan) (came : ℕ → List Came) (number : ℕ) (decl : PortDecl) (port : PortLeft)
      (host : Hosted D) : Type 0 where
    pub driver : D
    pub back : host ≡ record { port = Some number; driver = Some driver }
    pub holds : PortHolds number (length script.process_steps.items) script.workers (kind driver) decl port
    pub stands : IsLeftByCalls (opening_of number (length script.process_steps.items) (kind driver) decl port) (history_of port) (own driver) (program driver)
    pub told : TellsOfProgram (own driver) (program driver)
    pub pairs : (s : ℕ) (p : ProcessSteps) (l : ProcessLeft) → s < length script.process_steps.items
        → PairHolds number s (length script.process_steps.items) (kind driver) decl port
        (calls_of (length script.ports.items) (slice_index_or script.process_steps.items s p) (slice_index_or ran.processes.items s l)) (came s)
    pub words : PortWordsHold number (length script.process_steps.items) (kind driver) decl port (all_calls (length script.ports.items) script.process_steps.items ran.processes.items)

  -- A driver that served this port counted each failure that the port's rows tell: its count of faults rose by as many from that with which it was handed in, or stands at its end
  pub record HasCounted (faults : D → ℕ) (port : PortLeft) (old new : Hosted D) : Type 0 where
    pub before : D
    pub after : D
    pub handed : old.driver ≡ Some before
    pub back : new.driver ≡ Some after
    pub failed : RisenBy (failures_in port.journal.rows) (faults before) (faults after)

  -- The run of a script was made, with the drivers that the search finds for its ports. They are back, each with its port and stopped, and the others are as they were handed in. No port was told of an event
  -- and a direction more often than the event was answered: `before` and `after` are all events that waits of the poll set had answered, as the call began and at its end
  pub record HasRun (kind : D → Kind) (stage : D → Life) (faults : D → ℕ) (own : D → Own) (program : D → Option ToldProgram) (script : RunScript) (old new : List (Hosted D)) (before : List ℕ)
      (after : Option (List ℕ)) (ran : ScriptRan) : Type 0 where
    pub places : List ℕ
    pub found : Found kind old script.ports.items places
    pub served : HaveServed kind stage faults places old new
    pub ports_many : length ran.ports.items ≡ length script.ports.items
    pub processes_many : length ran.processes.items ≡ length script.process_steps.items
    pub came : ℕ → List Came
    pub ports : (k : ℕ) (decl : PortDecl) (p : PortLeft) (h : Hosted D) → k < length script.ports.items
        → PortServed kind own program script ran came k (slice_index_or script.ports.items k decl) (slice_index_or ran.ports.items k p) (slice_index_or new (slice_index places k) h)
    pub counted : (k : ℕ) (p : PortLeft) (h : Hosted D) → k < length script.ports.items
        → HasCounted faults (slice_index_or ran.ports.items k p) (slice_index_or old (slice_index places k) h) (slice_index_or new (slice_index places k) h)
    pub processes : (s : ℕ) (p : ProcessSteps) (l : ProcessLeft) → s < length script.process_steps.items
        → ProcessHolds (length script.ports.items) (soft_at kind old places) (slice_index_or script.process_steps.items s p)
        (calls_of (length script.ports.items) (slice_index_or script.process_steps.items s p) (slice_index_or ran.processes.items s l))
        (slice_index_or ran.processes.items s l) (came s)
    pub ready : ReadyRowsAreAnswered before after ran
