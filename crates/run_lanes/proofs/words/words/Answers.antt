use Rattle.std.proofs.Common.{map, take, subst}
use Rattle.std.proofs.lemmas.List.{take_all}
use Rattle.run_lanes.specs.Words.{AreTables}
use Rattle.run_lanes.proofs.WordsDealt.{tables_rows, words_are}
use Rattle.run_lanes.proofs.words.words.Goals as goal

pub transposed-requires : goal.transposed-requires
transposed-requires c = tables_rows (take c.ports.limits-index c.args.ports.now) c.args.senders c.ports.seats.items (map (λ r. r.items) c.ports.rows.items) c.ports.invariant

pub returns : goal.returns
returns c =
    let rows = map (λ r. r.items) c.ports.rows.items in
    let are = subst (λ l. AreTables l c.args.senders c.ports.seats.items rows) (take_all c.ports.limits-index c.args.ports.now c.ports-test.false) c.ports.invariant in
    words_are c.args.ports.now c.args.senders c.ports.seats.items rows (map (λ r. r.items) c.in_ok-columns.columns.items) are c.in_ok-columns.ensures
