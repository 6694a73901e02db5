-- What is known of a port whose rows are gone through.
use Rattle.std.specs.Prelude.{◌≡◌, ℕ, List, Option, Some, None, is_some, if◌then◌else◌}
use Rattle.std.specs.List.{concat}
use Rattle.port_signal.specs.Reasons.{told_reason}
use Rattle.port_model.specs.declared.signal.Sender.{Sender}
use Rattle.port_model.specs.declared.signal.Signal.{Signal}
use Rattle.port_model.specs.declared.signal.Signal.TheVariants.{Command, OwnerCommand}
use Rattle.port_model.specs.declared.row.Row.{Row}
use Rattle.port_history.specs.Opening.{Opening, is_process}
use Rattle.port_history.specs.Ties.{Ties, untied}
use Rattle.port_history.specs.State.{state}
use Rattle.port_history.specs.Counts.{handled_commands, handled_bytes, late_commands, end_reason}
use Rattle.run_report.specs.declared.walk.PortWalk.{PortWalk}

-- the data with which a handled signal calls `outputv`, if it does
abbrev pub data_given : Ties → Sender → Signal → Option (List ℕ)
data_given ties from (Command payload) = Some (concat payload)
data_given ties from (OwnerCommand payload) = if is_process ties.owner from then Some (concat payload) else None
data_given ties from signal = None

-- the ties after a port was closed for a reason, if it was
abbrev pub untied_for : Option (List ℕ) → Ties → Ties
untied_for reason ties = if is_some reason then untied ties else ties

-- the reason that is told after a row that closes the port for a reason, if it does
abbrev pub end_with : Option (List ℕ) → Option (List ℕ) → Option (List ℕ)
end_with None end = end
end_with (Some reason) end = Some (told_reason reason)

-- the table and the counts are those of the port after its rows, newest first
pub record IsWalked (port : Opening) (history : List Row) (walk : PortWalk) : Type 0 where
  pub processes : walk.links.processes ≡ port.processes
  pub ties : walk.links.ties ≡ (state port history).ties
  pub commands : walk.counts.commands ≡ handled_commands port history
  pub late : walk.counts.late ≡ late_commands history
  pub bytes : walk.counts.bytes ≡ handled_bytes port history
  pub end : walk.counts.end ≡ end_reason port history
