-- What the ports and the processes of a run leave, apart.
use Rattle.std.specs.Prelude.{◌≡◌, ◌<◌, ℕ, List, [], ◌∷◌, length, map, slice_index_or}
use Rattle.std.specs.Global.{Vec}
use Rattle.port_model.specs.declared.mail.Mail.{Mail}
use Rattle.process_receipts.specs.declared.receipt.Receipt.{Receipt}
use Rattle.seated_script.specs.run_opening.run_end.process_job.declared.job.EndedProcess.{EndedProcess}
use Rattle.seated_script.specs.run_opening.run_end.Ran.{RanProcess}
use Rattle.seated_script.specs.run_opening.run_seats.declared.plans.ProcessPlan.{ProcessPlan}
use Rattle.closed_lanes.specs.declared.closing.ClosedPort.{ClosedPort}
use Rattle.ended_jobs.specs.Ended.{ran_of}
use Rattle.script_run.specs.declared.parting.PartedPorts.{PartedPorts}
use Rattle.script_run.specs.declared.parting.ProcessParts.{ProcessParts}
use Rattle.script_run.specs.declared.running.PortLeft.{PortLeft}
use Rattle.script_run.specs.declared.running.ProcessLeft.{ProcessLeft}

-- each process of a run, by what it was to do and what is left of it
abbrev pub ran_processes : List ProcessPlan → List EndedProcess → List RanProcess
ran_processes (plan ∷ plans) (end ∷ ends) = ran_of plan end ∷ ran_processes plans ends
ran_processes plans ends = []

-- the parts of each process stand in its place
pub record AreProcessParts (ends : List EndedProcess) (parts : ProcessParts) : Type 0 where
  pub lanes_are : map (λ l. l.items) parts.lanes.items ≡ map (λ (e : EndedProcess). e.proc.lanes.items) ends
  pub receipts_are : parts.receipts.items ≡ map (λ (e : EndedProcess). e.proc.receipts) ends
  pub mailboxes_are : parts.peers.mailboxes.items ≡ map (λ (e : EndedProcess). e.proc.mailbox) ends
  pub mails_are : map (λ m. m.items) parts.peers.mails.items ≡ map (λ (e : EndedProcess). e.mails.items) ends
  pub seats_are : map (λ r. r.items) parts.peers.seats.items ≡ map (λ (e : EndedProcess). e.proc.seats.items) ends

-- what is reported of a port
abbrev pub port_left : ClosedPort → PortLeft
port_left port = record { config = port.config; events = port.events; journal = port.journal }

-- so do those of each port
pub record ArePartedPorts (closed : List ClosedPort) (parts : PartedPorts) : Type 0 where
  pub left : parts.left.items ≡ map port_left closed
  pub ends_are : map (λ r. r.items) parts.peers.ends.items ≡ map (λ (c : ClosedPort). c.mailboxes) closed
  pub seats_are : parts.peers.seats.items ≡ map (λ (c : ClosedPort). c.seat) closed

-- what each process leaves are its receipts and its mail
pub record AreLeftOf (receipts : List (List Receipt)) (mails : List (Vec Mail)) (left : List ProcessLeft) : Type 0 where
  pub many : length left ≡ length receipts
  pub each : (n : ℕ) (l : ProcessLeft) (r : List Receipt) (m : Vec Mail) → n < length receipts → slice_index_or left n l ≡ record { receipts = slice_index_or receipts n r; mails = slice_index_or mails n m }
