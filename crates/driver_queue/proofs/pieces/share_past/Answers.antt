use Rattle.std.proofs.Common.{◌≡◌, ◌+◌, ◌∷◌, drop, arith}
use Rattle.driver_queue.proofs.Steps.{drop_item, shared_whole, shared_cut, shared_none}
use Rattle.driver_queue.proofs.pieces.share_past.Goals.{then-left-eq0+in_ok-share+in_ok-push, else-left-eq0+then-left-len+in_ok-part+in_ok-push-2, else-left-eq0+else-left-len}
use Rattle.driver_queue.proofs.pieces.share_past.Goals as goal

pub loop-piece-preserved : goal.loop-piece-preserved
loop-piece-preserved c =
    let to_go : drop c.loop-piece.piece-index c.args.pieces.now
    ≡ c.piece-item.result ∷ drop (c.loop-piece.piece-index + 1) c.args.pieces.now =
    drop_item _ _ c.piece-item.result c.loop-piece-test.true c.piece-item.is in
    elim c.if-left-eq0.branch [
      | then-left-eq0+in_ok-share+in_ok-push w ↦
          rw (w.rest-is, w.left-is)
          (shared_whole _ _ c.piece-item.result _ _ _ _ c.loop-piece.left c.loop-piece.invariant to_go
          w.if-left-eq0.true w.in_ok-share.ensures w.in_ok-push.ensures.items)
      | else-left-eq0+then-left-len+in_ok-part+in_ok-push-2 w ↦
          rw (w.rest-is, w.left-is)
          (shared_cut _ _ c.piece-item.result _ _ _ _ c.loop-piece.left c.len-len.result c.loop-piece.invariant to_go
          (omega (arith, w.if-left-eq0.false)) w.if-left-len.true c.len-len.ensures.value w.in_ok-part.ensures
          w.in_ok-push-2.ensures.items)
      | else-left-eq0+else-left-len w ↦
          rw (w.rest-is, w.left-is, c.len-len.ensures.value)
          (shared_none _ c.piece-item.result _ _ _ c.loop-piece.left c.loop-piece.invariant to_go
          (omega (arith, w.if-left-eq0.false)) (omega (arith, w.if-left-len.false, c.len-len.ensures.value)))
    ]
