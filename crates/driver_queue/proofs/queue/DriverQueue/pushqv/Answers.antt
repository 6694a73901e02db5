use Rattle.std.proofs.Common.{◌≡◌, ◌-◌, ◌++◌, length, drop, ◌∙◌, ap, arith}
use Rattle.std.proofs.lemmas.List.Folds.{concat-append}
use Rattle.std.specs.List.{concat}
use Rattle.io_vector.specs.Segments.{segments_past}
use Rattle.io_vector.proofs.Segments.{concat-segments_past}
use Rattle.driver_queue.proofs.Sized.{length-past, sized-front}
use Rattle.driver_queue.proofs.queue.DriverQueue.pushqv.Goals as goal

pub invariant_of-self-2 : goal.invariant_of-self-2
invariant_of-self-2 c =
    let is : c.push_all_front.new.pieces.items ≡ segments_past c.args.skip c.args.vector.now ++ c.self.inside.pieces.items =
    c.push_all_front.ensures.items ∙ ap (λ ss. c.in_ok-more.more.items ++ ss) c.share_with_room.ensures.items
    ∙ ap (λ ss. ss ++ c.self.inside.pieces.items) c.in_ok-more.ensures.more in
    let count : c.size.result - c.args.skip ≡ length (concat (segments_past c.args.skip c.args.vector.now)) =
    omega (arith, c.size.ensures.value, length-past c.args.skip c.args.vector.now) in
    sized-front _ _ _ _ _ c.self.invariant is count (omega (arith, c.in_ok-more.ensures.small, c.size.ensures.value))

pub returns-clause-bytes : goal.returns-clause-bytes
returns-clause-bytes c =
    let is : c.push_all_front.new.pieces.items ≡ segments_past c.args.skip c.args.vector.now ++ c.self.inside.pieces.items =
    c.push_all_front.ensures.items ∙ ap (λ ss. c.in_ok-more.more.items ++ ss) c.share_with_room.ensures.items
    ∙ ap (λ ss. ss ++ c.self.inside.pieces.items) c.in_ok-more.ensures.more in
    ap concat is
    ∙ concat-append (segments_past c.args.skip c.args.vector.now) c.self.inside.pieces.items
    ∙ ap (λ t. t ++ concat c.self.inside.pieces.items) (concat-segments_past c.args.skip c.args.vector.now)
    ∙ ap (λ q. drop c.args.skip (concat c.args.vector.now) ++ concat q.segments) c.self.view_is
