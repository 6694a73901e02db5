use Rattle.std.proofs.Common.{◌≡◌, map, length, subst, arith}
use Rattle.run_lanes.specs.Rows.{AreRows, AreColumns}
use Rattle.run_end.proofs.TakingRests.{mail_rows, mail_columns, taken_rows}
use Rattle.run_end.proofs.mailboxes.take_all_rest.Goals as goal

pub transposed-requires : goal.transposed-requires
transposed-requires g c =
    let rows = map (λ r. r.items) c.args.rows.items in
    let many : length c.args.mailboxes.items ≡ c.len.result = omega (arith, c.len.ensures, c.args.mailboxes.ok.0) in
    subst (λ n. AreRows n rows) many (mail_rows c.args.mailboxes.items rows c.requires.rows)

pub take_each_rest-requires-clause-ends : goal.take_each_rest-requires-clause-ends
take_each_rest-requires-clause-ends g c =
    let rows = map (λ r. r.items) c.args.rows.items in
    let columns = map (λ r. r.items) c.in_ok-columns.columns.items in
    let many : c.len.result ≡ length c.args.mailboxes.items = omega (arith, c.len.ensures, c.args.mailboxes.ok.0) in
    mail_columns c.args.mailboxes.items rows columns c.requires.rows (subst (λ n. AreColumns n rows columns) many c.in_ok-columns.ensures)

pub returns : goal.returns
returns g c =
    let rows = map (λ r. r.items) c.args.rows.items in
    let columns = map (λ r. r.items) c.in_ok-columns.columns.items in
    let many : c.len.result ≡ length c.args.mailboxes.items = omega (arith, c.len.ensures, c.args.mailboxes.ok.0) in
    taken_rows c.args.mailboxes.items c.take_each_rest.new.mailboxes.items rows columns (map (λ m. m.items) c.args.mails.items) (map (λ m. m.items) c.take_each_rest.new.mails.items) c.requires.rows
    (subst (λ n. AreColumns n rows columns) many c.in_ok-columns.ensures) c.in_ok-take_each_rest.ensures
