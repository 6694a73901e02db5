use Rattle.std.proofs.Common.{take}
use Rattle.port_history.specs.Opening.{Opening}
use Rattle.port_history.specs.State.{state_at_start}
use Rattle.history_replay.specs.Walked.{StandsAt}
use Rattle.history_replay.proofs.Rows.{AllTaken}
use Rattle.history_replay.proofs.walk.Walk.take_all.Given as goal

abbrev pub invariant-loop-at : goal.invariant-loop-at
invariant-loop-at l = (port : Opening) → StandsAt l.fn.self port (state_at_start port) → AllTaken port (take l.at l.rows) l.self
