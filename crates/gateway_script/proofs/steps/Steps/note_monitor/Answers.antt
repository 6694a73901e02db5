use Rattle.std.proofs.Common.{refl}
use Rattle.gateway_script.proofs.Kept.{IsKept-monitor}
use Rattle.gateway_script.proofs.steps.Steps.note_monitor.Goals as goal

pub returns-clause-kept : goal.returns-clause-kept
returns-clause-kept c = λ line.
    let old = c.args.self.now in
    let here = rw c.pair_place.ensures at c.index_mut-pair.ensures.value in
    rw c.pair_place.ensures
    (IsKept-monitor old.died old.monitors old.pairs.items old.list.items line c.args.process c.args.port c.args.number _ c.index_mut-pair.result.now
    c.requires.steps.kept c.requires.process c.requires.port here c.in_ok-push.ensures.items refl)
