use Rattle.std.proofs.Common.{◌≡◌, ◌≤◌, length, take, drop}
use Rattle.port_signal.specs.Name.{fault_from, name_fault}
use Rattle.port_signal.proofs.name.Reason.of_bytes.Given as goal

-- the bytes so far stand in the name, and no fault was found among them
abbrev pub invariant-loop-at : goal.invariant-loop-at
invariant-loop-at l =
    (length l.name ≡ 16) × (l.at ≤ 16) × (fault_from l.at (drop l.at l.bytes) ≡ name_fault l.bytes) × (take l.at l.name ≡ take l.at l.bytes)
