use Rattle.std.proofs.Common.{map, sym, subst}
use Rattle.port_sched.specs.Jobs.{WentEach}
use Rattle.ticket_account.specs.Run.{HasWoken}
use Rattle.sched_load.proofs.Puts.{went_seats}
use Rattle.sched_load.proofs.Sent.{load_crosses}
use Rattle.sched_load.proofs.running.run_load.Goals as goal

pub gather-requires : goal.gather-requires
gather-requires g c = record {
  before = c.in-Ok.opened.schedulers.items;
  before_jobs = c.in-Ok.opened.jobs.items;
  opened = c.in-Ok.ensures.opened.0;
  ran = c.run_owned-schedulers.ensures.schedulers;
  woke = subst (λ l. WentEach HasWoken l c.in_ok-jobs-2.jobs.items) c.in_ok-jobs.ensures.seats
      (subst (λ l. WentEach HasWoken (map (λ p. p.seats) c.in_ok-jobs.jobs.items) l) (sym c.in_ok-jobs-2.ensures)
      (went_seats c.in_ok-jobs.jobs.items c.run_owned-schedulers.result.1.items c.run_owned-schedulers.ensures.jobs));
}

pub run_owned-schedulers-requires-send-B : goal.run_owned-schedulers-requires-send-B
run_owned-schedulers-requires-send-B g c κs within = search load_crosses depth 20

pub run_owned-schedulers-requires-send-K : goal.run_owned-schedulers-requires-send-K
run_owned-schedulers-requires-send-K g c κs within = search load_crosses depth 20
