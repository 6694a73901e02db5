use Rattle.std.proofs.Common.{◌≡◌, ◌≤◌}
use Rattle.served_port.proofs.served_port.ServedPort.stop_selects.Given as goal

-- only the driver's count of faults may have risen
abbrev pub invariant-loop-event : goal.invariant-loop-event
invariant-loop-event g l =
    (l.self-inside.state ≡ record l.initial.self-inside.state { service = record l.initial.self-inside.state.service { faults = l.self-inside.state.service.faults } })
    × (l.initial.self-inside.state.service.faults ≤ l.self-inside.state.service.faults)
    × (l.self-inside.events ≡ l.initial.self-inside.events) × (l.self-inside.jobs ≡ l.initial.self-inside.jobs)
