use Rattle.std.proofs.Common.{◌≡◌, [], drop, arith}
use Rattle.std.proofs.lemmas.List.{drop_all}
use Rattle.port_terms.proofs.measures.+depth.Goals as goal

pub items_depth-returns : goal.items_depth-returns
items_depth-returns t c =
    let e : drop c.loop-item.item-index c.deref-item-items.result.now ≡ [] = drop_all _ _ c.loop-item-test.false in
    let h = rw e at c.loop-item.invariant in
    omega (arith, h)
