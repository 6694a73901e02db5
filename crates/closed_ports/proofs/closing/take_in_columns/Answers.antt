use Rattle.std.proofs.Common.{◌∙◌, [], length, map, ap, sym, subst, arith}
use Rattle.std.proofs.lemmas.List.{get_or-map, length-map, map_push}
use Rattle.std.proofs.lemmas.Iterator.Adapters.{YieldsList-from_vec}
use Rattle.std.proofs.lemmas.Iterator.Consumers.{YieldsList-turn}
use Rattle.closed_ports.specs.Ends.{AreOfBodies}
use Rattle.closed_ports.specs.Laws.{TakeColumnsIn}
use Rattle.closed_ports.proofs.Columns.{columns-stay-of-bodies, one-column-more}
use Rattle.closed_ports.proofs.closing.take_in_columns.Goals as goal

pub take_in_ends-requires : goal.take_in_ends-requires
take_in_ends-requires g c =
    let gives = c.into_iter-ends-iterator.ensures.into_iter_gives in
    let all = c.args.columns.items in
    let place = length c.loop-ends.yielded in
    let road = YieldsList-from_vec {s = c.into_iter-ends-iterator.result} all gives.0 (gives.1 ∙ c.args.columns.ok.0) in
    let turn = YieldsList-turn road c.loop-ends.yielded _ c.loop-ends.yielded_by _ c.next.new.self c.in-Some.ends c.in-Some.is c.next.ensures.steps in
    let many = length-map all (λ v. v.items) in
    let here = get_or-map (λ v. v.items) all place c.in-Some.ends [] turn.0 ∙ ap (λ v. v.items) (sym turn.1) in
    columns-stay-of-bodies c.args.bodies.now.items c.loop-ends.bodies.items (map (λ v. v.items) c.loop-ends.yielded) c.in-Some.ends.items c.loop-ends.invariant
    (subst (AreOfBodies c.args.bodies.now.items) here (c.requires.of_bodies place [] (omega (arith, many, turn.0))))

pub loop-ends-preserved : goal.loop-ends-preserved
loop-ends-preserved g c =
    subst (λ columns. TakeColumnsIn c.args.bodies.now.items columns c.take_in_ends.new.bodies.items) (sym (map_push (λ v. v.items) c.loop-ends.yielded c.in-Some.ends))
    (one-column-more c.args.bodies.now.items c.loop-ends.bodies.items c.take_in_ends.new.bodies.items (map (λ v. v.items) c.loop-ends.yielded) c.in-Some.ends.items c.loop-ends.invariant c.take_in_ends.ensures)
