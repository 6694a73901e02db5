use Rattle.std.proofs.Common.{refl}
use Rattle.gateway_script.proofs.Kept.{IsKept-demonitor}
use Rattle.gateway_script.proofs.steps.Steps.note_end.Goals as goal

pub returns-clause-kept : goal.returns-clause-kept
returns-clause-kept c = λ line number.
    let old = c.args.self.now in
    let here = rw c.pair_place.ensures at c.index_mut-pair.ensures.value in
    rw c.pair_place.ensures
    (IsKept-demonitor old.died old.monitors old.pairs.items old.list.items line c.args.process c.args.port number _ c.index_mut-pair.result.now
    c.requires.steps.kept c.requires.process c.requires.port here refl refl)
