use Rattle.std.proofs.Common.{◌≡◌, ◌<◌, [], get_or, length, map, sym, ap, arith, subst}
use Rattle.std.specs.List.{All}
use Rattle.std.proofs.lemmas.List.{length-drop, length-map}
use Rattle.run_lanes.specs.Ends.{taken_in, Emptied}
use Rattle.run_lanes.proofs.Changes.{changes_all, changes_more}
use Rattle.run_lanes.proofs.Places.{rest_more, rest_row, rest_within}
use Rattle.run_lanes.proofs.emptying.empty_each.Goals as goal

pub empty_lane_at-requires-clause-place : goal.empty_lane_at-requires-clause-place
empty_lane_at-requires-clause-place g c =
    let inv = c.columns.invariant in
    let rest = c.columns.ends-iterator.rest in
    let steps = c.in-Some.ensures.steps in
    let all = c.args.columns.items in
    let within : c.columns.place < length all = rest_within c.columns.place all rest.items c.next.new.self.rest.items c.in-Some.ends rest.len inv.1 steps.0 in
    let many = c.requires.many in
    let wide = length-map all (λ r. r.items) in
    let same = inv.0.many in
    omega arith

pub empty_lane_at-requires-clause-lane : goal.empty_lane_at-requires-clause-lane
empty_lane_at-requires-clause-lane g c = λ t.
    let inv = c.columns.invariant in
    let rest = c.columns.ends-iterator.rest in
    let steps = c.in-Some.ensures.steps in
    let all = c.args.columns.items in
    let within : c.columns.place < length all = rest_within c.columns.place all rest.items c.next.new.self.rest.items c.in-Some.ends rest.len inv.1 steps.0 in
    let is = rest_row (λ r. r.items) c.columns.place all rest.items c.next.new.self.rest.items c.in-Some.ends rest.len within inv.1 steps.0 in
    let many = c.requires.many in
    let wide = length-map all (λ r. r.items) in
    subst (λ u. All (λ e. e.lane ≡ u.lane) c.in-Some.ends.items) (sym (inv.0.above c.columns.place t (omega arith)))
    (subst (All (λ e. e.lane ≡ (get_or c.args.lanes.now.items c.columns.place t).lane)) (sym (is [])) (c.requires.lanes c.columns.place t [] (omega arith)))

pub columns-preserved : goal.columns-preserved
columns-preserved g c =
    let inv = c.columns.invariant in
    let rest = c.columns.ends-iterator.rest in
    let after = c.next.new.self.rest in
    let steps = c.in-Some.ensures.steps in
    let all = c.args.columns.items in
    let within : c.columns.place < length all = rest_within c.columns.place all rest.items after.items c.in-Some.ends rest.len inv.1 steps.0 in
    let is = rest_row (λ r. r.items) c.columns.place all rest.items after.items c.in-Some.ends rest.len within inv.1 steps.0 in (
      changes_more (λ lane old new. Emptied g.T.Fits.fits (taken_in old (get_or (map (λ r. r.items) all) lane [])) new) (λ old new. Emptied g.T.Fits.fits (taken_in old c.in-Some.ends.items) new)
          c.columns.place c.args.lanes.now.items c.columns.lanes.items c.empty_lane_at.new.lanes.items (λ x y t. subst (λ l. Emptied g.T.Fits.fits (taken_in x l) y) (is []) t) inv.0 c.empty_lane_at.ensures,
      rest_more c.columns.place all rest.items after.items c.in-Some.ends rest.len after.len within inv.1 steps.0 steps.1,
      omega arith,
    )

pub returns : goal.returns
returns g c =
    let inv = c.columns.invariant in
    let all = c.args.columns.items in
    let none = c.in-None.ensures.steps in
    let left = ap length inv.1.items in
    let dropped = length-drop c.columns.place all in
    let as_many = inv.1.many in
    let bound = inv.2 in
    let many = c.requires.many in
    let wide = length-map all (λ r. r.items) in
    changes_all (λ lane old new. Emptied g.T.Fits.fits (taken_in old (get_or (map (λ r. r.items) all) lane [])) new) c.columns.place c.args.lanes.now.items c.columns.lanes.items (omega arith) inv.0
