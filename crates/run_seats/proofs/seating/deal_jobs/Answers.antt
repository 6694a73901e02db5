use Rattle.std.proofs.Common.{◌∷◌, map, sym, ap, ◌∙◌, subst, arith}
use Rattle.std.specs.List.{All}
use Rattle.ticket_account.specs.Opening.{IsOther, IsReadyJob}
use Rattle.run_seats.proofs.Given.{all_behind, all_next, whole_of}
use Rattle.run_seats.proofs.seating.deal_jobs.Goals as goal

pub worker_jobs-workers-requires-clause-ready : goal.worker_jobs-workers-requires-clause-ready
worker_jobs-workers-requires-clause-ready g c =
    let ready = c.requires.ready in
    let seats = c.process_jobs-processes.new.seats.rest.items in (
      ready.0,
      ready.2.workers,
      all_behind (IsReadyJob ready.0) (map (λ p. p.seats.ports) c.process_jobs-processes.result.items) seats c.into_iter-seats.result.rest.items c.process_jobs-processes.ensures.seats
          (subst (All (IsReadyJob ready.0)) (sym c.into_iter-seats.ensures.rest) ready.3),
    )

pub poller_job-poller-requires-clause-lanes : goal.poller_job-poller-requires-clause-lanes
poller_job-poller-requires-clause-lanes g c =
    let ready = c.requires.ready in
    let seats = c.process_jobs-processes.new.seats.rest.items in
    let left = c.worker_jobs-workers.new.seats.rest.items in
    let own = c.next_of-own in
    let first = all_behind (IsReadyJob ready.0) (map (λ p. p.seats.ports) c.process_jobs-processes.result.items) seats c.into_iter-seats.result.rest.items c.process_jobs-processes.ensures.seats
    (subst (All (IsReadyJob ready.0)) (sym c.into_iter-seats.ensures.rest) ready.3) in
    let second = all_behind (IsReadyJob ready.0) (map (λ w. w.seats) c.worker_jobs-workers.result.items) left seats c.worker_jobs-workers.ensures.seats first in
    (ready.0, ready.2.poller, (all_next (IsReadyJob ready.0) left own.new.items.rest.items own.result own.ensures.items second).0)

pub poller_job-poller-requires-clause-over : goal.poller_job-poller-requires-clause-over
poller_job-poller-requires-clause-over g c =
    let word = c.requires.over.word in
    let left = c.worker_jobs-workers.new.over.rest.items in
    let over = c.next_of-over in
    let first = all_behind (IsOther word) (map (λ w. w.over) c.worker_jobs-workers.result.items) left c.into_iter-others.result.rest.items c.worker_jobs-workers.ensures.over
    (subst (All (IsOther word)) (sym c.into_iter-others.ensures.rest) c.requires.over.rest_are) in
    (word, (all_next (IsOther word) left over.new.items.rest.items over.result over.ensures.items first).0)

pub finish_job-finish-requires : goal.finish_job-finish-requires
finish_job-finish-requires g c =
    let word = c.requires.over.word in
    let left = c.worker_jobs-workers.new.over.rest.items in
    let over = c.next_of-over in
    let last = c.next_of-last in
    let first = all_behind (IsOther word) (map (λ w. w.over) c.worker_jobs-workers.result.items) left c.into_iter-others.result.rest.items c.worker_jobs-workers.ensures.over
    (subst (All (IsOther word)) (sym c.into_iter-others.ensures.rest) c.requires.over.rest_are) in
    let second = (all_next (IsOther word) left over.new.items.rest.items over.result over.ensures.items first).1 in
    (word, (all_next (IsOther word) over.new.items.rest.items last.new.items.rest.items last.result last.ensures.items second).0)

pub returns-clause-seats : goal.returns-clause-seats
returns-clause-seats g c =
    let processes = c.process_jobs-processes in
    let workers = c.worker_jobs-workers in
    let own = c.next_of-own in
    let spare = c.next_of-spare in
    let poller = c.poller_job-poller in
    whole_of (λ p. p.seats.ports) (λ w. w.seats) processes.result.items workers.result.items c.into_iter-seats.result.rest.items processes.new.seats.rest.items workers.new.seats.rest.items own.new.items.rest.items
    spare.new.items.rest.items c.args.places.jobs.items poller.result.seats spare.result c.into_iter-seats.ensures.rest processes.ensures.seats workers.ensures.seats
    (own.ensures.items ∙ ap (λ x. x ∷ own.new.items.rest.items) (sym poller.ensures.seats)) spare.ensures.items
    (let many = c.requires.many in let p = processes.ensures.dealt.many in let w = workers.ensures.dealt.many in omega arith)
