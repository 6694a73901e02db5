use Rattle.std.proofs.Common.{◌≡◌, [], ◌∷◌, ◌++◌, map, length, sym, ap, ◌∙◌, subst, arith}
use Rattle.std.proofs.lemmas.List.{map_push}
use Rattle.run_lanes.specs.Rows.{AreRows, AreColumns}
use Rattle.run_lanes.proofs.EmptiedLanes.{lane_rows, lane_rows_more, lane_columns, emptied_all}
use Rattle.run_lanes.proofs.emptying.empty_lanes.Goals as goal

pub transposed-requires : goal.transposed-requires
transposed-requires g c =
    let lanes = c.args.lanes.now.items in
    let rows = map (λ r. r.items) c.args.rows.items in
    let last = c.args.last.items in
    let all = map (λ r. r.items) c.push.new.self.items in
    let is : all ≡ rows ++ last ∷ [] = ap (map (λ r. r.items)) c.in_ok-push.ensures.items ∙ map_push (λ r. r.items) c.args.rows.items c.args.last in
    let many : length lanes ≡ c.len.result = omega (arith, c.len.ensures, c.args.lanes.now.ok.0) in
    subst (AreRows c.len.result) (sym is) (subst (λ n. AreRows n (rows ++ last ∷ [])) many (lane_rows lanes (rows ++ last ∷ []) (lane_rows_more lanes rows last c.requires.rows c.requires.last)))

pub empty_each-requires : goal.empty_each-requires
empty_each-requires g c =
    let lanes = c.args.lanes.now.items in
    let rows = map (λ r. r.items) c.args.rows.items in
    let last = c.args.last.items in
    let all = map (λ r. r.items) c.push.new.self.items in
    let columns = map (λ r. r.items) c.in_ok-columns.columns.items in
    let is : all ≡ rows ++ last ∷ [] = ap (map (λ r. r.items)) c.in_ok-push.ensures.items ∙ map_push (λ r. r.items) c.args.rows.items c.args.last in
    let many : c.len.result ≡ length lanes = omega (arith, c.len.ensures, c.args.lanes.now.ok.0) in
    lane_columns lanes (rows ++ last ∷ []) columns (lane_rows_more lanes rows last c.requires.rows c.requires.last)
    (subst (λ n. AreColumns n (rows ++ last ∷ []) columns) many (subst (λ l. AreColumns c.len.result l columns) is c.in_ok-columns.ensures))

pub returns-clause-emptied : goal.returns-clause-emptied
returns-clause-emptied g c =
    let lanes = c.args.lanes.now.items in
    let rows = map (λ r. r.items) c.args.rows.items in
    let last = c.args.last.items in
    let all = map (λ r. r.items) c.push.new.self.items in
    let columns = map (λ r. r.items) c.in_ok-columns.columns.items in
    let is : all ≡ rows ++ last ∷ [] = ap (map (λ r. r.items)) c.in_ok-push.ensures.items ∙ map_push (λ r. r.items) c.args.rows.items c.args.last in
    let many : c.len.result ≡ length lanes = omega (arith, c.len.ensures, c.args.lanes.now.ok.0) in
    emptied_all g.T.Fits.fits lanes c.empty_each.new.lanes.items rows columns last
    (subst (λ n. AreColumns n (rows ++ last ∷ []) columns) many (subst (λ l. AreColumns c.len.result l columns) is c.in_ok-columns.ensures)) c.empty_each.ensures
