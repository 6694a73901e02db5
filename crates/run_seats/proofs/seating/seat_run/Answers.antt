use Rattle.std.proofs.Common.{length, sym, ◌∙◌, subst}
use Rattle.ticket_account.specs.Run.{IsOpenedFor}
use Rattle.run_seats.specs.Seated.{IsEndRoom}
use Rattle.run_seats.proofs.seating.seat_run.Goals as goal

pub returns-clause-ok : goal.returns-clause-ok
returns-clause-ok g c =
    let opened = c.in_ok-schedulers in
    let dealt = c.deal_jobs-jobs.ensures in
    let room = c.in-Ok-end_room.room in
    let plans = c.args.plans in
    let workers = c.args.lanes.workers in
    record {
      opened = subst (IsOpenedFor c.args.bodies.items opened.field-0.schedulers.items) (sym dealt.seats) opened.ensures.opened;
      many = opened.ensures.schedulers.0;
      begin = opened.ensures.schedulers.1;
      can = dealt.can;
      dealt = dealt.dealt;
      room = subst (λ n. IsEndRoom n (length plans.items) (length workers.items) room) (c.len.ensures ∙ c.args.bodies.ok.0)
          (subst (λ n. IsEndRoom c.len.result n (length workers.items) room) (c.len-processes.ensures ∙ plans.ok.0)
          (subst (λ n. IsEndRoom c.len.result c.len-processes.result n room) (c.len-workers.ensures ∙ workers.ok.0) c.in-Ok-end_room.ensures));
    }
