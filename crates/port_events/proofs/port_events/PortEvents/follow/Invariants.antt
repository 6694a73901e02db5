use Rattle.std.proofs.Common.{drop}
use Rattle.port_events.specs.Table.{KeepsEnd}
use Rattle.port_events.specs.Parts.{following}
use Rattle.port_events.proofs.Parts.{Midway}
use Rattle.port_events.proofs.port_events.PortEvents.follow.Given as goal

abbrev pub invariant-loop-effect : goal.invariant-loop-effect
invariant-loop-effect g l = record {
  midway : Midway (following l.fn.self.port l.effects) (following l.fn.self.port (drop l.effect-index l.effects)) l.fn.self l.self l.initial.given_back.items l.given_back.items;
  same : KeepsEnd l.fn.self l.self;
}
