-- The mail and the words of a run that nobody stopped, put together.
use Rattle.std.specs.Prelude.{◌≡◌, ◌++◌, ◌<◌, ℕ, List, length, map, All, slice_index_or}
use Rattle.run_end.specs.port_mail.Ends.{MailEnd}
use Rattle.port_model.specs.declared.mail.Mail.{Mail}
use Rattle.port_words.specs.busy.Known.{PortKnown}
use Rattle.port_words.specs.declared.busy.view.QueueLimits.{QueueLimits}
use Rattle.run_opening.specs.port_body.Body.{BodyName}
use Rattle.run_end.specs.Mailboxes.{IsMergeAt}
use Rattle.run_end.specs.Ran.{RanProcess, calls_made}
use Rattle.run_end.specs.Shown.{Calls, QueueWordsHold, WordsHold}
use Rattle.run_opening.specs.Opened.{limits_of}
use Rattle.script_plan.specs.declared.decl.PortDecl.{PortDecl}
use Rattle.served_port.specs.View.{end_names}
use Rattle.run_opening.specs.Setting.{Setting}
use Rattle.closed_lanes.specs.declared.joining.PortPeers.{PortPeers}
use Rattle.closed_lanes.specs.declared.joining.ProcessPeers.{ProcessPeers}

-- the ends of the mailboxes of each port, in the order of ports
abbrev pub rows_of : PortPeers → List (List MailEnd)
rows_of ports = map (λ r. r.items) ports.ends.items

-- The ends and the words of each port are those of its name, and nobody joined a seat of the words
pub record ArePortsNamed (s : Setting) (names : List BodyName) (ports : PortPeers) : Type 0 where
  pub ends_many : length ports.ends.items ≡ length s.ports
  pub seats_many : length ports.seats.items ≡ length s.ports
  pub ends_are : (port : ℕ) (n : BodyName) (row : List MailEnd) → port < length s.ports → end_names (slice_index_or (rows_of ports) port row) ≡ (slice_index_or names port n).mailboxes
  pub tables : (port : ℕ) (n : BodyName) (k : PortKnown) → port < length s.ports → (slice_index_or ports.seats.items port k).table ≡ (slice_index_or names port n).table
  pub setups : (port : ℕ) (n : BodyName) (k : PortKnown) → port < length s.ports → (slice_index_or ports.seats.items port k).known.setup ≡ (slice_index_or names port n).setup
  pub joined : (port : ℕ) (n : BodyName) (k : PortKnown) → port < length s.ports → (slice_index_or ports.seats.items port k).known.senders ≡ (slice_index_or names port n).joined

-- the mailboxes, the mail so far and the seats are those that the processes left, in their order
pub record AreOfProcesses (ran : List RanProcess) (processes : ProcessPeers) : Type 0 where
  pub mailboxes_are : processes.mailboxes.items ≡ map (λ (p : RanProcess). p.end.mailbox) ran
  pub mails_are : map (λ m. m.items) processes.mails.items ≡ map (λ (p : RanProcess). p.mails) ran
  pub seats_are : map (λ r. r.items) processes.seats.items ≡ map (λ (p : RanProcess). p.end.seats.items) ran

-- the words that the receipts of all processes show of a port hold, and so do those that the port found or left itself
pub record PortWordsHold (port : ℕ) (limits : QueueLimits) (seat : PortKnown) (all : List Calls) : Type 0 where
  pub shown : All (WordsHold port limits seat.known.marks all) all
  pub own : QueueWordsHold port limits all seat.known.words

-- there is more mail behind what was there
abbrev pub HasGrown : List Mail → List Mail → Type 0
HasGrown old new = (more : List Mail) × (new ≡ old ++ more)

-- the mail of each process is a merge of what the ports sent it and of its own, behind what it had taken, and the words of each port hold
pub record AreJoined (s : Setting) (ran : List RanProcess) (ports : PortPeers) (mails : List (List Mail)) : Type 0 where
  pub many : length mails ≡ length ran
  pub merges : (n : ℕ) (r : RanProcess) (m : List Mail) → n < length ran → IsMergeAt n (rows_of ports) (slice_index_or ran n r) (slice_index_or mails n m)
  pub grown : (n : ℕ) (r : RanProcess) (m : List Mail) → n < length ran → HasGrown (slice_index_or ran n r).mails (slice_index_or mails n m)
  pub words : (port : ℕ) (p : PortDecl) (k : PortKnown) → port < length s.ports
      → PortWordsHold port (limits_of (slice_index_or s.ports port p).config) (slice_index_or ports.seats.items port k) (map calls_made ran)
