use Rattle.std.proofs.Common.{ap, ◌∙◌}
use Rattle.task_queue.proofs.Keeps.{splits}
use Rattle.task_queue.proofs.send_end.SendEnd.split.Goals as goal

pub another-pass-requires-clause-rule : goal.another-pass-requires-clause-rule
another-pass-requires-clause-rule g c =
    let hand = c.self.invariant.1 in
    splits g.T.Fits.fits _ _ (ap (λ h. h.sends) hand) (ap (λ h. h.number) hand ∙ ap (λ e. e.number) c.self.view_is ∙ c.requires)
