use Rattle.std.proofs.Common.{◌+◌, map, sym, subst, arith}
use Rattle.std.proofs.lemmas.List.{length-map}
use Rattle.run_lanes.proofs.Rows.{TakesBelow, takes_more, takes_all, has_last}
use Rattle.run_lanes.proofs.columns.pop_column.Goals as goal

pub pop_at-requires : goal.pop_at-requires
pop_at-requires g c =
    let old = map (λ r. r.items) c.args.rows.now.items in
    let new = map (λ r. r.items) c.rows.rows.items in
    let before = c.rows.invariant in
    let test = c.rows-test.true in
    let end = c.len-at-end.ensures in
    let size = c.args.rows.now.ok.0 in
    let old_many = length-map c.args.rows.now.items (λ r. r.items) in
    let new_many = length-map c.rows.rows.items (λ r. r.items) in
    let many = before.many in
    record {
      row = omega arith;
      some = has_last c.args.last c.rows.at old new c.rows.column.items (omega arith) c.requires before;
    }

pub rows-preserved : goal.rows-preserved
rows-preserved g c =
    let old = map (λ r. r.items) c.args.rows.now.items in
    let new = map (λ r. r.items) c.rows.rows.items in
    let test = c.rows-test.true in
    let end = c.len-at-end.ensures in
    let size = c.args.rows.now.ok.0 in
    let old_many = length-map c.args.rows.now.items (λ r. r.items) in
    subst (TakesBelow c.args.last (c.rows.at + 1) old (map (λ r. r.items) c.pop_at.new.rows.items)) (sym c.in_ok-push.ensures.items)
    (takes_more c.args.last c.rows.at old new (map (λ r. r.items) c.pop_at.new.rows.items) c.rows.column.items c.pop_at.result (omega arith) c.requires c.rows.invariant c.pop_at.ensures.rest c.pop_at.ensures.last)

pub returns : goal.returns
returns g c =
    let old = map (λ r. r.items) c.args.rows.now.items in
    let new = map (λ r. r.items) c.rows.rows.items in
    let test = c.rows-test.false in
    let within = c.rows.auto.at-end in
    let end = c.len-at-end.ensures in
    let size = c.args.rows.now.ok.0 in
    let old_many = length-map c.args.rows.now.items (λ r. r.items) in
    takes_all c.args.last c.rows.at old new c.rows.column.items (omega arith) c.rows.invariant
