use Rattle.std.proofs.Common.{◌≡◌, map, length, subst, arith}
use Rattle.run_lanes.specs.Rows.{AreRows, AreColumns}
use Rattle.run_end.proofs.Rows.{seat_rows, seat_columns, joined_rows}
use Rattle.run_end.proofs.words.join_all_seats.Goals as goal

pub transposed-requires : goal.transposed-requires
transposed-requires c =
    let rows = map (λ r. r.items) c.args.rows.items in
    let many : length c.args.ports.now.items ≡ c.len.result = omega (arith, c.len.ensures, c.args.ports.now.ok.0) in
    subst (λ n. AreRows n rows) many (seat_rows c.args.ports.now.items rows c.requires)

pub join_columns-requires : goal.join_columns-requires
join_columns-requires c =
    let rows = map (λ r. r.items) c.args.rows.items in
    let columns = map (λ r. r.items) c.in_ok-columns.columns.items in
    let many : c.len.result ≡ length c.args.ports.now.items = omega (arith, c.len.ensures, c.args.ports.now.ok.0) in
    seat_columns c.args.ports.now.items rows columns c.requires (subst (λ n. AreColumns n rows columns) many c.in_ok-columns.ensures)

pub returns-clause-joined : goal.returns-clause-joined
returns-clause-joined c =
    let rows = map (λ r. r.items) c.args.rows.items in
    let columns = map (λ r. r.items) c.in_ok-columns.columns.items in
    let many : c.len.result ≡ length c.args.ports.now.items = omega (arith, c.len.ensures, c.args.ports.now.ok.0) in
    joined_rows c.args.ports.now.items c.join_columns.new.ports.items rows columns (subst (λ n. AreColumns n rows columns) many c.in_ok-columns.ensures) c.join_columns.ensures
