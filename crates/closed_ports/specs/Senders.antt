-- Who the rows of a port are from.
use Rattle.std.specs.Prelude.{List, All}
use Rattle.task_queue.specs.Ends.{Taking}
use Rattle.port_lanes.specs.Keys.{Key}
use Rattle.port_lanes.specs.Parcels.{ParcelView}
use Rattle.port_model.specs.declared.row.Row.{Row}
use Rattle.port_model.specs.declared.row.Row.TheVariants.{Handled, Late}
use Rattle.port_body.specs.recorded_port.declared.parts.PortOutlets.{PortOutlets}
use Rattle.port_body.specs.Body.{BodyView}
use Rattle.port_body.specs.Ends.{IsWholeEnd}
use Rattle.port_body.specs.LanePort.{HasEnd}

-- the sender of a row's task has an end of the lane: it is one of the processes or workers, or the poller
abbrev pub IsOfAnEnd : Key → Row → Type 0
IsOfAnEnd key (Handled from seq task outside effects) = HasEnd key from
IsOfAnEnd key (Late from seq task) = HasEnd key from
IsOfAnEnd key row = Unit {0}

-- so it is with what an unbroken body leaves
abbrev pub EveryRowIsOfAnEnd : Type 0
EveryRowIsOfAnEnd = (v : BodyView) (rows : List Row) (outlets : PortOutlets) (lane : Taking ParcelView Key) → IsWholeEnd v rows outlets lane → All (IsOfAnEnd lane.key) rows
