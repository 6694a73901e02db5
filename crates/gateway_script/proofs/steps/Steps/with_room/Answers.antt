use Rattle.std.proofs.Common.{refl, arith}
use Rattle.gateway_script.proofs.Kept.{IsKept-none}
use Rattle.gateway_script.proofs.steps.Steps.with_room.Goals as goal

pub returns-clause-steps : goal.returns-clause-steps
returns-clause-steps c =
    let none = c.in_ok-with_capacity.ensures.items in
    let pairs = c.in_ok-no_pairs.ensures in
    record { kept = rw none (IsKept-none _ _ c.in_ok-no_pairs.field-0.items refl refl pairs.none refl refl pairs.len); few = rw none (omega arith) }
