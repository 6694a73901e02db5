use Rattle.std.proofs.Common.{◌≡◌, [], ◌+◌, All, arith, sym, subst, vec_len}
use Rattle.waiting_parcels.specs.Queues.{lists}
use Rattle.waiting_parcels.proofs.Places.{all-empty-push}
use Rattle.waiting_parcels.proofs.queues.empty_queues.Goals as goal

pub loop-preserved : goal.loop-preserved
loop-preserved c =
    let len : vec_len c.push.new.self ≡ c.loop.counter + 1 = grind (arith, c.in_ok-push.ensures.len, c.loop.invariant.0) in
    (len, subst (λ qs. All (λ q. q ≡ []) (lists qs)) (sym c.in_ok-push.ensures.items) (all-empty-push c.loop.queues.items _ c.loop.invariant.1 c.new.ensures.items))
