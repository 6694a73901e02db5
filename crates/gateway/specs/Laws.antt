-- What a finished history tells.
use Rattle.std.specs.Prelude.{List, IsSome}
use Rattle.port_model.specs.declared.row.Row.{Row}
use Rattle.port_history.specs.Counts.{end_reason}
use Rattle.port_history.specs.Lawful.{IsFinished}
use Rattle.port_history.specs.Opening.{Opening}

-- it tells why its port closed
abbrev pub FinishedHasEnd : Type 0
FinishedHasEnd = (port : Opening) (history : List Row) → IsFinished port history → IsSome (end_reason port history)
