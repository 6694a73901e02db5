use Rattle.std.proofs.Common.{◌≡◌, ◌+◌, ◌^◌, ◌<◌, ◌≤◌, ℕ, List, [], ◌∷◌, ◌++◌, length, sym, ◌∙◌, ap, arith, append_assoc, length-append}
use Rattle.std.specs.List.{concat}
use Rattle.io_vector.proofs.Segments.{length-concat-push}
use Rattle.lane_tests.proofs.queues.enq_all.Goals as goal

-- one more segment has moved from those that wait to the queue
one_put : (old new rest left all : List (List ℕ)) (s : List ℕ) (room room' : ℕ) → rest ≡ s ∷ left → new ≡ old ++ s ∷ [] →
    room ≤ room' + 1 →
    ((old ++ rest ≡ all) × (length rest ≤ room) × (length (concat old) + length (concat rest) < 2 ^ 63)) →
    ((new ++ left ≡ all) × (length left ≤ room') × (length (concat new) + length (concat left) < 2 ^ 63))
one_put old new rest left all s room room' is put kept (order, enough, small) = (
  ap (λ ss. ss ++ left) put ∙ append_assoc old (s ∷ []) left ∙ ap (λ ss. old ++ ss) (sym is) ∙ order,
  omega (arith, ap length is),
  omega (arith, ap (λ ss. length (concat ss)) is, length-append s (concat left), ap (λ ss. length (concat ss)) put, length-concat-push old s),
)

pub loop-piece-preserved : goal.loop-piece-preserved
loop-piece-preserved c =
    one_put _ _ _ _ _ c.in-Some.piece c.loop-piece.queue.room c.enq.new.self.room c.in-Some.ensures.steps.0 c.in-Ok.ensures.ok
    c.enq.ensures.room c.loop-piece.invariant
