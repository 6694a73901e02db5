use Rattle.std.proofs.Common.{◌++◌, subst}
use Rattle.run_queue.specs.Seats.{RunKnown, IsLeftOf}
use Rattle.run_queue.proofs.EndLemmas.{all_left}
use Rattle.run_queue.proofs.run_seat.RunSeat.close.Goals as goal

pub returns : goal.returns
returns g c =
    let left = c.close_each.ensures.0 in
    let more = c.close.ensures.0 in (
      left ++ more,
      subst (λ (s : RunKnown). IsLeftOf s (left ++ more)) c.self.view_is (all_left c.self.inside.deques.items c.self.inside.entry.hand left more c.close_each.ensures.1 c.close.ensures.1),
    )
