use Rattle.std.proofs.Common.{map, IfOk}
use Rattle.driver_hosts.specs.Returning.{AreReturned, LeaveAll}
use Rattle.driver_hosts.proofs.ending.take_back.Given as goal

-- the ports so far have ended
abbrev pub invariant-loop-place : goal.invariant-loop-place
invariant-loop-place g l = record {
  returned : AreReturned g.D.Driver.kind g.D.Driver.stage g.D.Driver.faults g.D.Driver.own g.D.Driver.program (map (λ p. p.1) l.yielded) l.places l.initial.hosts.items l.hosts.items;
  left : IfOk l.ports (λ ports. LeaveAll (map (λ p. p.1) l.yielded) ports.items);
}
