-- What a poller that has run leaves, and the one who told of the end.
use Rattle.std.proofs.Common.{◌≡◌, ℕ, List, Some, [], option_map, refl, sym, ap, ◌∙◌, subst}
use Rattle.std.proofs.lemmas.Option.{same_Some}
use Rattle.port_sched.specs.declared.body.PortBody.{Ghosts}
use Rattle.ready_select.specs.declared.ask.PollAsk.TheVariants as ask
use Rattle.run_seats.specs.run_jobs.declared.finish.FinishEnd.TheVariants.{Told}
use Rattle.run_seats.specs.run_jobs.declared.finish.FinishJob.{FinishJob}
use Rattle.run_seats.specs.run_jobs.declared.poller.PollerEnd.{PollerEnd}
use Rattle.run_seats.specs.run_jobs.declared.poller.PollerEnd.TheVariants as poller
use Rattle.run_seats.specs.run_jobs.declared.poller.PollerJob.{PollerJob}
use Rattle.run_seats.specs.run_jobs.Finishing.{HasToldEnd, SendsOne, TellsBy, TellsWorkers}
use Rattle.run_seats.specs.run_jobs.Rounds.{HasPolled, PollsTo, poller_of}
use Rattle.run_seats.specs.run_lanes.declared.parts.FinishEnds.{FinishEnds}
use Rattle.run_seats.specs.run_lanes.declared.parts.PollerLanes.{PollerLanes}
use Rattle.run_seats.specs.Seated.{IsDealtFinish, IsDealtPoller}
use Rattle.run_seats.specs.threaded_jobs.declared.ended.Stop.{Stop}
use Rattle.run_seats.specs.threaded_jobs.declared.ended.Stop.TheVariants.{PollFault, NoMemory}
use Rattle.run_seats.specs.threaded_jobs.declared.parting.FinishLeft.{FinishLeft}
use Rattle.run_seats.specs.threaded_jobs.declared.parting.PollerLeft.{PollerLeft}
use Rattle.run_seats.specs.threaded_jobs.Ended.{IsStopBy}
use Rattle.run_seats.specs.threaded_jobs.Parts.{finish_left, poller_left}
use Rattle.ended_jobs.specs.Ended.{HasPolledLanes, HasToldAll, StopComes}
use Rattle.ended_jobs.proofs.Faults.{fault_raises, finish_keeps}

-- the one who told of the end told all
pub told_all : (ends : FinishEnds) (old new : FinishJob) (left : FinishLeft) → IsDealtFinish ends old → HasToldEnd old new → Some left ≡ finish_left new → left.end ≡ Told → HasToldAll ends left
told_all ends old new left dealt ran is told =
    let own : left ≡ record { poller = new.poller; workers = new.workers; end = ran.how } =
    same_Some left (record { poller = new.poller; workers = new.workers; end = ran.how }) (is ∙ ap (option_map (λ end. record { poller = new.poller; workers = new.workers; end = end })) ran.end_is) in
    let how : ran.how ≡ Told = sym (ap (λ l. l.end) own) ∙ told in
    let to_poller = subst (λ h. TellsBy h ask.Finish old.poller new.poller) how ran.poller in
    let to_workers = subst (λ h. TellsWorkers h old.workers.items new.workers.items) how ran.workers in
    record {
      poller = subst (λ l. SendsOne ask.Finish ends.poller l.poller) (sym own) (subst (λ p. SendsOne ask.Finish p new.poller) dealt.poller to_poller);
      workers = subst (λ l. TellsWorkers Told ends.workers.items l.workers.items) (sym own) (subst (λ w. TellsWorkers Told w new.workers.items) dealt.workers_are to_workers);
    }

-- only a fault of the poll set stops a run for one
is_fault : (end : PollerEnd) → IsStopBy end PollFault → end ≡ poller.PollFault
is_fault poller.PollFault why = refl
is_fault poller.Finished why = absurd cc
is_fault poller.Stopped why = absurd cc
is_fault poller.NoMemory why = absurd cc

module _ {B S : Type 0} {g : Ghosts B} (faults : S → ℕ) (answered : S → List ℕ) where
  -- it made its rounds with what it was dealt
  dealt_polls : (lanes : PollerLanes) (poll : S) (old new : PollerJob B S g) (left : PollerLeft S) → IsDealtPoller lanes poll old → HasPolled faults answered old new → Some left ≡ poller_left new
      → PollsTo left.end (poller_of faults answered (record { poll = poll; table = []; asks = lanes.asks })) (poller_of faults answered left.watch) lanes.lanes.items left.lanes.items
  dealt_polls lanes poll old new left dealt ran is =
      let own : left ≡ record { watch = new.watch; lanes = new.lanes; end = ran.how } =
      same_Some left (record { watch = new.watch; lanes = new.lanes; end = ran.how }) (is ∙ ap (option_map (λ end. record { watch = new.watch; lanes = new.lanes; end = end })) ran.end_is) in
      let watched = subst (λ w. PollsTo ran.how (poller_of faults answered w) (poller_of faults answered new.watch) old.lanes.items new.lanes.items) dealt.watch ran.polls in
      let begun = poller_of faults answered (record { poll = poll; table = []; asks = lanes.asks }) in
      let from = subst (λ l. PollsTo ran.how begun (poller_of faults answered new.watch) l new.lanes.items) dealt.lanes_are watched in
      subst (λ l. PollsTo l.end begun (poller_of faults answered l.watch) lanes.lanes.items l.lanes.items) (sym own) from

  -- the poller that took a `Finish` polled to the end, and no wait of it failed
  pub polled_lanes : (lanes : PollerLanes) (poll : S) (old new : PollerJob B S g) (left : PollerLeft S) → IsDealtPoller lanes poll old → HasPolled faults answered old new → Some left ≡ poller_left new
      → left.end ≡ poller.Finished → HasPolledLanes faults answered lanes poll left
  polled_lanes lanes poll old new left dealt ran is finished =
      let begun = poller_of faults answered (record { poll = poll; table = []; asks = lanes.asks }) in
      let so = subst (λ h. PollsTo h begun (poller_of faults answered left.watch) lanes.lanes.items left.lanes.items) finished (dealt_polls lanes poll old new left dealt ran is) in
      record { polls = so; unfailed = finish_keeps so.rounds begun (poller_of faults answered left.watch) so.ran so.ends.0 }

  -- where a fault of the poll set stopped the run, its count rose
  pub stop_comes : (lanes : PollerLanes) (poll : S) (old new : PollerJob B S g) (left : PollerLeft S) (stop : Stop) → IsDealtPoller lanes poll old → HasPolled faults answered old new → Some left ≡ poller_left new
      → IsStopBy left.end stop → StopComes faults poll stop left.watch.poll
  stop_comes lanes poll old new left NoMemory dealt ran is why = tt
  stop_comes lanes poll old new left PollFault dealt ran is why =
      let begun = poller_of faults answered (record { poll = poll; table = []; asks = lanes.asks }) in
      let so = subst (λ h. PollsTo h begun (poller_of faults answered left.watch) lanes.lanes.items left.lanes.items) (is_fault left.end why) (dealt_polls lanes poll old new left dealt ran is) in
      fault_raises so.rounds begun (poller_of faults answered left.watch) so.ran so.ends.0
