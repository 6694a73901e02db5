use Rattle.std.proofs.Common.{◌≡◌, ◌≤◌, Contains, ◌++◌, length, true}
use Rattle.recorded_port.specs.View.{IsSettled, state_of}
use Rattle.recorded_port.specs.Taking.{IsSameRecorded, UsesRoom}
use Rattle.recorded_port.specs.Resuming.{may_go, resumed_rows}
use Rattle.recorded_port.proofs.recorded_port.RecordedPort.resume_all.Given as goal

-- the rows so far, and those of the senders that still wait, are all that come
abbrev pub invariant-loop : goal.invariant-loop
invariant-loop g l =
    (goal.iterator-loop g).can_next l.iterator' × (goal.iterator-loop g).is_finite l.iterator'
    × IsSettled l.self × IsSameRecorded l.fn.self l.self × (may_go (state_of l.self) l.fn.word ≡ true)
    × (l.self.rows ++ resumed_rows l.fn.word (state_of l.self).listed ≡ l.fn.self.rows ++ resumed_rows l.fn.word (state_of l.fn.self).listed)
    × (l.self.seat ≡ l.fn.self.seat) × Contains l.self.seat.known.words l.fn.word × UsesRoom l.fn.self l.self × (length (state_of l.self).listed ≤ l.self.room)
