use Rattle.std.proofs.Common.{◌<◌, [], get_or, length, map, sym, arith, subst}
use Rattle.std.specs.List.{All}
use Rattle.std.proofs.lemmas.List.{length-map}
use Rattle.run_lanes.proofs.Places.{rest_more, rest_row, rest_within}
use Rattle.run_end.specs.Words.{IsOfTable}
use Rattle.run_end.proofs.Rows.{joins_more}
use Rattle.run_end.proofs.words.join_columns.Goals as goal

pub join_at-requires-clause-tables : goal.join_at-requires-clause-tables
join_at-requires-clause-tables c = λ d.
    let inv = c.columns.invariant in
    let rest = c.columns.seats-iterator.rest in
    let steps = c.in-Some.ensures.steps in
    let all = c.args.columns.items in
    let within : c.columns.place < length all = rest_within c.columns.place all rest.items c.next.new.self.rest.items c.in-Some.seats rest.len inv.1 steps.0 in
    let is = rest_row (λ r. r.items) c.columns.place all rest.items c.next.new.self.rest.items c.in-Some.seats rest.len within inv.1 steps.0 in
    let many = c.requires.many in
    let wide = length-map all (λ r. r.items) in
    subst (λ p. All (IsOfTable p) c.in-Some.seats.items) (sym (inv.0.above c.columns.place d (omega arith)))
    (subst (All (IsOfTable (get_or c.args.ports.now.items c.columns.place d))) (sym (is [])) (c.requires.tables c.columns.place d [] (omega arith)))

pub columns-preserved : goal.columns-preserved
columns-preserved c =
    let inv = c.columns.invariant in
    let rest = c.columns.seats-iterator.rest in
    let after = c.next.new.self.rest in
    let steps = c.in-Some.ensures.steps in
    let all = c.args.columns.items in
    let within : c.columns.place < length all = rest_within c.columns.place all rest.items after.items c.in-Some.seats rest.len inv.1 steps.0 in
    let many = c.requires.many in
    let wide = length-map all (λ r. r.items) in (
      joins_more c.columns.place c.args.ports.now.items c.columns.ports.items c.join_at.new.ports.items (map (λ r. r.items) all) c.in-Some.seats.items (omega arith)
          (rest_row (λ r. r.items) c.columns.place all rest.items after.items c.in-Some.seats rest.len within inv.1 steps.0) inv.0 c.join_at.ensures,
      rest_more c.columns.place all rest.items after.items c.in-Some.seats rest.len after.len within inv.1 steps.0 steps.1,
      omega arith,
    )
