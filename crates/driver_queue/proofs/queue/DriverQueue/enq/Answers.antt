use Rattle.std.proofs.Common.{◌≡◌, [], ◌∷◌, ◌++◌, ◌∙◌, ap}
use Rattle.driver_queue.proofs.Sized.{sized-push}
use Rattle.driver_queue.proofs.queue.DriverQueue.enq.Goals as goal

pub invariant_of-self-2 : goal.invariant_of-self-2
invariant_of-self-2 c =
    let is : c.push_back_reserved.new.self.items ≡ c.self.inside.pieces.items ++ c.args.piece ∷ [] =
    c.push_back_reserved.ensures.items ∙ ap (λ ss. ss ++ c.in_ok-piece.piece ∷ []) c.admit.ensures.items
    ∙ ap (λ s. c.self.inside.pieces.items ++ s ∷ []) c.in_ok-piece.ensures.piece in
    sized-push _ _ c.args.piece _ _ c.self.invariant is c.in_ok-piece.ensures.size c.in_ok-piece.ensures.small
