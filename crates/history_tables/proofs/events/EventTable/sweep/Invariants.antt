use Rattle.std.proofs.Common.{◌≡◌, ◌++◌, map, take, drop}
use Rattle.history_tables.specs.EventsKept.{swept_state}
use Rattle.history_tables.proofs.events.EventTable.sweep.Given as goal

-- those so far are swept
abbrev pub invariant-loop-i : goal.invariant-loop-i
invariant-loop-i l = l.self.used.items ≡ map (swept_state l.sweep) (take l.i l.initial.self.used.items) ++ drop l.i l.initial.self.used.items
