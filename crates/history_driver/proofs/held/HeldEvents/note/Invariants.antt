use Rattle.std.proofs.Common.{◌≡◌, drop}
use Rattle.driver_model.specs.Drivers.{held_by}
use Rattle.history_driver.proofs.held.HeldEvents.note.Given as goal

-- the rest makes of the events what all effects make of those before
abbrev pub invariant-loop-effect : goal.invariant-loop-effect
invariant-loop-effect l = held_by (drop l.effect-index l.effects) l.self ≡ held_by l.effects l.initial.self
