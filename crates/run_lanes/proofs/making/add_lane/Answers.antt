use Rattle.std.proofs.Common.{map, sym, ap, ◌∙◌, subst}
use Rattle.std.proofs.lemmas.List.{map_push}
use Rattle.run_lanes.specs.Ends.{AreAllRows}
use Rattle.run_lanes.proofs.Ends.{rows_more}
use Rattle.run_lanes.proofs.making.add_lane.Goals as goal

pub returns-clause-rows : goal.returns-clause-rows
returns-clause-rows g c = λ before.
    let row = c.in_ok-taker.row in
    let rows = map (λ r. r.items) c.args.rows.now.items in
    subst (λ t. AreAllRows t c.args.ends (map (λ r. r.items) c.push-2.new.self.items)) (sym c.in_ok-push.ensures.items)
    (subst (AreAllRows _ c.args.ends) (sym (ap (map (λ r. r.items)) c.in_ok-push-2.ensures.items ∙ map_push (λ r. r.items) c.args.rows.now.items row))
    (rows_more c.args.takers.now.items c.in_ok-taker.taker c.args.ends rows row.items before c.in_ok-taker.ensures.ends))
