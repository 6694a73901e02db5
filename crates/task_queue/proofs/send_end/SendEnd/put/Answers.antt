use Rattle.std.proofs.Common.{ap, sym}
use Rattle.task_queue.proofs.Keeps.{puts}
use Rattle.task_queue.proofs.send_end.SendEnd.put.Goals as goal

pub push_as-requires-clause-rule : goal.push_as-requires-clause-rule
push_as-requires-clause-rule g c n =
    let hand = c.self.invariant.1 in
    puts g.T.Fits.fits n _ _ _ (ap (λ h. h.sends) hand)
    (c.self.inside.channel.value.key.value, ap (λ h. h.key) hand, rw (← c.self.view_is) at c.requires)
    (sym (ap (λ h. h.number) hand)) (sym c.self.invariant.2)
