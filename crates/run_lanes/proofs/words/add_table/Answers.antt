use Rattle.std.proofs.Common.{◌++◌, ◌∷◌, [], map, sym, ap, ◌∙◌, subst}
use Rattle.std.proofs.lemmas.List.{map_push}
use Rattle.run_lanes.specs.Words.{AreTables}
use Rattle.run_lanes.proofs.WordsDealt.{tables_more}
use Rattle.run_lanes.proofs.words.add_table.Goals as goal

pub returns : goal.returns
returns c = λ before are.
    let rows = map (λ r. r.items) c.args.rows.now.items in
    let row = c.in_ok-seat.row in
    subst (λ s. AreTables (before ++ c.args.limits ∷ []) c.args.senders s (map (λ r. r.items) c.push-2.new.self.items)) (sym c.in_ok-push.ensures.items)
    (subst (AreTables (before ++ c.args.limits ∷ []) c.args.senders (c.args.seats.now.items ++ c.in_ok-seat.seat ∷ [])) (sym (ap (map (λ r. r.items)) c.in_ok-push-2.ensures.items ∙ map_push (λ r. r.items) c.args.rows.now.items row))
    (tables_more before c.args.limits c.args.senders c.args.seats.now.items c.in_ok-seat.seat rows row.items are c.in_ok-seat.ensures))
