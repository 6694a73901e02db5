use Rattle.std.proofs.Common.{arith, ◌+◌, ap, sym, ◌∙◌}
use Rattle.std.proofs.lemmas.List.{length_push}
use Rattle.driver_hosts.proofs.Ranks.{ranked-push, ranked-found, lacks, no-lack, passed-more, moves-next}
use Rattle.driver_hosts.proofs.finding.find_drivers.Goals as goal

pub returns-in_default-clause-lacking : goal.returns-in_default-clause-lacking
returns-in_default-clause-lacking g c =
    let name = c.index-ports-at.result.driver in
    let given = c.in_default.ensures.last ∙ (rw c.next_place-from.ensures (c.loop-at.invariant.passed.counted name)) in
    lacks _ _ _ _ _ c.wanting.result c.index-ports-at.result c.loop-at.invariant.ranked c.loop-at.invariant.count (omega arith) c.index-ports-at.is (c.wanting.ensures ∙ sym given) c.wanting.ensures

pub returns-in_default-clause-complete : goal.returns-in_default-clause-complete
returns-in_default-clause-complete g c has at handed e =
    let name = c.index-ports-at.result.driver in
    let given = c.in_default.ensures.last ∙ (rw c.next_place-from.ensures (c.loop-at.invariant.passed.counted name)) in
    no-lack _ _ _ _ _ c.index-ports-at.result has
    (lacks _ _ _ _ _ c.wanting.result c.index-ports-at.result c.loop-at.invariant.ranked c.loop-at.invariant.count (omega arith) c.index-ports-at.is (c.wanting.ensures ∙ sym given) c.wanting.ensures)

pub loop-at-preserved : goal.loop-at-preserved
loop-at-preserved g c =
    let port = c.index-ports-at.result in
    let items = c.in_ok-push.ensures.items in
    record {
      ranked = rw items (ranked-push _ _ _ _ c.loop-at.at _ port c.loop-at.invariant.ranked c.loop-at.invariant.count (omega arith) c.index-ports-at.is c.in-Some.ensures.within c.in-Some.ensures.named
          (c.in-Some.ensures.next ∙ (rw c.next_place-from.ensures (c.loop-at.invariant.passed.counted port.driver))));
      count = rw items (length_push _ _ ∙ ap (λ n. n + 1) c.loop-at.invariant.count);
      passed = passed-more _ _ _ c.loop-at.behind c.insert.new.self c.loop-at.at _ port c.loop-at.invariant.passed (omega arith) c.index-ports-at.is c.in-Some.ensures.within c.in-Some.ensures.named
          (rw (sym c.next_place-from.ensures) c.in-Some.ensures.next) (moves-next c.loop-at.behind c.insert.new.self c.as_str.result port.driver _ c.as_str.ensures.value c.in_ok-insert.ensures.updates);
    }

pub returns-clause-found : goal.returns-clause-found
returns-clause-found g c = ranked-found _ _ _ _ c.loop-at.invariant.ranked (c.loop-at.invariant.count ∙ omega arith)
