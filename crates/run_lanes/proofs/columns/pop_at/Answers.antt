use Rattle.std.proofs.Common.{◌∙◌, ap, take, ◌-◌}
use Rattle.run_lanes.proofs.Rows.{set_row}
use Rattle.run_lanes.proofs.columns.pop_at.Goals as goal

pub returns-clause-rest : goal.returns-clause-rest
returns-clause-rest g c = set_row (λ r. r.items) c.args.rows.now.items c.args.at c.index_mut.result.now c.pop.new.self c.requires.row c.index_mut.ensures.value
    (c.pop.ensures.rest ∙ ap (λ n. take (n - 1) c.index_mut.result.now.items) c.index_mut.result.now.ok.0)
