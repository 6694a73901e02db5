use Rattle.std.proofs.Common.{◌≡◌, map}
use Rattle.run_opening.specs.Opened.{room_of}
use Rattle.run_opening.proofs.rooms.rooms.Given as goal

-- the rooms of the ports so far
abbrev pub invariant-loop-port : goal.invariant-loop-port
invariant-loop-port l = l.rooms.items ≡ map (room_of l.size) l.yielded
