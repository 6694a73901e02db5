use Rattle.std.proofs.Common.{◌≡◌, ◌++◌, ◌∷◌, [], ◌+◌, map, take, sym, ap, ◌∙◌, subst}
use Rattle.std.proofs.lemmas.List.{take_more}
use Rattle.run_lanes.specs.Ends.{IsUntaken}
use Rattle.run_lanes.specs.Keyed.{ends_in, key_of, ArePortLanes}
use Rattle.run_lanes.proofs.Ends.{rows_are, columns_are}
use Rattle.run_lanes.proofs.KeyedLanes.{keyed_more}
use Rattle.run_lanes.proofs.keyed.port_lanes.Goals as goal

pub ports-preserved : goal.ports-preserved
ports-preserved c =
    let size = c.args.size in
    let seat = c.seat-item.result in
    let before = take c.ports.seat-index c.args.seats.now in
    let added = c.in_ok-add_lane.ensures.takers in
    let taken : take (c.ports.seat-index + 1) c.args.seats.now ≡ before ++ seat ∷ [] =
    take_more c.args.seats.now c.ports.seat-index seat c.ports-test.true ∙ ap (λ s. before ++ s ∷ []) (sym c.seat-item.is) in
    let untaken : IsUntaken (key_of size seat) added.0 = subst (λ k. IsUntaken k added.0) (c.of.ensures ∙ c.new-key.ensures) added.2 in (
      subst (λ s. ArePortLanes size s c.add_lane.new.takers.items) (sym taken)
          (subst (ArePortLanes size (before ++ seat ∷ [])) (sym added.1) (keyed_more size before seat c.ports.takers.items added.0 c.ports.invariant.0 untaken)),
      c.in_ok-add_lane.ensures.rows c.ports.invariant.1,
    )

pub transposed-requires : goal.transposed-requires
transposed-requires c = rows_are c.ports.takers.items (ends_in c.args.size) (map (λ r. r.items) c.ports.rows.items) c.ports.invariant.1

pub returns-clause-ends : goal.returns-clause-ends
returns-clause-ends c = columns_are c.ports.takers.items (ends_in c.args.size) (map (λ r. r.items) c.ports.rows.items) (map (λ r. r.items) c.in_ok-columns.columns.items) c.ports.invariant.1 c.in_ok-columns.ensures
