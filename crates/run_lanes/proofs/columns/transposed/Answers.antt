use Rattle.std.proofs.Common.{◌+◌, map, sym, ap, ◌∙◌, subst, arith}
use Rattle.std.proofs.lemmas.List.{map_push}
use Rattle.run_lanes.proofs.Rows.{HasTaken, left_rows, map_reverse, taken_more, columns_of}
use Rattle.run_lanes.proofs.columns.transposed.Goals as goal

pub pop_column-requires : goal.pop_column-requires
pop_column-requires g c = left_rows c.args.width c.columns.done (map (λ r. r.items) c.args.rows.items) (map (λ r. r.items) c.columns.rows.items) (map (λ r. r.items) c.columns.columns.items)
    c.columns-test.true c.requires c.columns.invariant

pub columns-preserved : goal.columns-preserved
columns-preserved g c =
    let old = map (λ r. r.items) c.args.rows.items in
    let rows = map (λ r. r.items) c.columns.rows.items in
    let rows' = map (λ r. r.items) c.pop_column.new.rows.items in
    let columns = map (λ r. r.items) c.columns.columns.items in
    let column = c.in_ok-pop_column.field-0 in
    subst (HasTaken c.args.width (c.columns.done + 1) old rows') (sym (ap (map (λ r. r.items)) c.in_ok-push.ensures.items ∙ map_push (λ r. r.items) c.columns.columns.items column))
    (taken_more c.args.width c.columns.done old rows rows' columns column.items c.columns-test.true c.columns.invariant c.in_ok-pop_column.ensures)

pub returns : goal.returns
returns g c =
    let old = map (λ r. r.items) c.args.rows.items in
    let rows = map (λ r. r.items) c.columns.rows.items in
    let columns = map (λ r. r.items) c.columns.columns.items in
    let test = c.columns-test.false in
    let within = c.columns.auto.done-end in
    columns_of c.args.width c.columns.done old rows columns (map (λ r. r.items) c.reverse.new.self.items) (omega arith) c.columns.invariant
    (ap (map (λ r. r.items)) c.reverse.ensures.items ∙ map_reverse (λ r. r.items) c.columns.columns.items)
