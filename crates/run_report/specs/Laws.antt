-- Laws of what a report counts.
use Rattle.std.specs.Prelude.{◌≡◌, List}
use Rattle.port_model.specs.declared.row.Row.{Row}
use Rattle.port_history.specs.Opening.{Opening}
use Rattle.port_history.specs.Counts.{handled_commands, handled_bytes, end_reason}

-- what is counted in the rows of a port is the same under both openings
pub record SameCounts (a b : Opening) (history : List Row) : Type 0 where
  pub commands : handled_commands a history ≡ handled_commands b history
  pub bytes : handled_bytes a history ≡ handled_bytes b history
  pub end : end_reason a history ≡ end_reason b history
