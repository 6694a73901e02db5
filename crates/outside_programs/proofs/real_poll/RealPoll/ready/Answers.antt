use Rattle.std.proofs.Common.{◌≡◌, ◌<◌, ◌++◌, ◌∷◌, [], get_or, length, arith}
use Rattle.std.proofs.lemmas.Grind.{common_steps}
use Rattle.outside_programs.proofs.Sublists.{IsSublist-taken, IsSublist-passed}
use Rattle.outside_programs.proofs.real_poll.RealPoll.ready.Goals as goal
use Rattle.outside_programs.proofs.real_poll.RealPoll.ready.Goals.{then-is_ready+in_ok-push, else-is_ready}

pub loop-event-preserved : goal.loop-event-preserved
loop-event-preserved g c =
    let below : c.loop-event.event-index < length c.args.armed.now = grind (arith, common_steps) in
    record {
      within = omega (arith, below);
      part = elim c.if-is_ready.branch [
        | then-is_ready+in_ok-push w ↦
            let items : c.if-is_ready.events.items ≡ c.loop-event.events.items ++ get_or c.args.armed.now c.loop-event.event-index 0 ∷ [] = grind (arith, common_steps) in
            rw items (IsSublist-taken c.loop-event.events.items c.args.armed.now c.loop-event.event-index 0 below c.loop-event.invariant.part)
        | else-is_ready w ↦
            rw w.events-is (IsSublist-passed c.loop-event.events.items c.args.armed.now c.loop-event.event-index 0 below c.loop-event.invariant.part)
      ];
    }
