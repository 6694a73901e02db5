use Rattle.std.proofs.Common.{◌≡◌, ◌≤◌, length, vec_len, vec_capacity}
use Rattle.driver_hosts.specs.Opening.{AreOpened}
use Rattle.driver_hosts.proofs.opening.open_ports.Given as goal

-- the ports so far are open
abbrev pub invariant-loop-port : goal.invariant-loop-port
invariant-loop-port g l = record {
  count : length l.bodies.items ≡ length l.yielded;
  long : vec_len l.bodies ≡ length l.yielded;
  room : length l.fn.ports.items ≤ vec_capacity l.bodies;
  opened : AreOpened g.D.Driver.kind g.D.Driver.faults l.fn.ports.items l.fn.rooms.items l.places l.initial.hosts.items l.hosts.items l.bodies.items;
}
