use Rattle.std.proofs.Common.{◌≡◌, map}
use Rattle.script_run.specs.Parted.{port_left}
use Rattle.script_run.proofs.parting.part_ports.Given as goal

-- the ports so far were taken apart
abbrev pub invariant-loop-port : goal.invariant-loop-port
invariant-loop-port l = record {
  left : l.left.items ≡ map port_left l.yielded;
  ends : map (λ x. x.items) l.ends.items ≡ map (λ c. c.mailboxes) l.yielded;
  seats : l.seats.items ≡ map (λ c. c.seat) l.yielded;
}
