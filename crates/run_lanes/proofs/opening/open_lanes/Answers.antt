use Rattle.std.proofs.Common.{◌<◌, ◌++◌, ◌∷◌, [], get_or, map, ap, ◌∙◌, subst, sym}
use Rattle.std.proofs.lemmas.List.{length-map, map-append, map_push}
use Rattle.run_lanes.specs.declared.parts.RunLanes.{RunLanes}
use Rattle.run_lanes.specs.Keyed.{ArePortLanes}
use Rattle.run_lanes.proofs.Openings.{IsMade, counts, port_of, process_of, worker_of, poller_of, finish_of, can_open, can_begin, some_workers}
use Rattle.run_lanes.proofs.opening.open_lanes.Goals as goal

pub deal_ports-requires-clause-workers : goal.deal_ports-requires-clause-workers
deal_ports-requires-clause-workers c = λ k d below.
    let some = some_workers (λ v. v.items) c.in_ok-jobs.jobs.items _ c.args.size.workers c.in_ok-jobs.job_ends.items c.split_last-pools.result.0.items c.split_last-pools.result.1 c.split_last-pools.ensures
    c.in_ok-jobs.ensures.ends c.in_ok-jobs.ensures.many c.requires.workers.0 k d below in
    subst (λ n. 0 < n) (sym (get_or c.split_last-pools.result.0.items k d).ok.0) some

pub returns : goal.returns
returns c =
    let run : RunLanes = record {
      ports = c.in_ok-ports.ports;
      processes = c.in_ok-processes.processes;
      workers = c.in_ok-workers.workers;
      poller = record { asks = c.in_ok-asks.asks; lanes = c.in_ok-process_ends.poller_ends };
      finish = record { poller = c.split_last-ask_ends.result.1; workers = c.split_last-pools.result.1 };
    } in
    let limits = c.args.ports.now in
    let made : IsMade c.args.size limits run = record {
      seats = c.in_ok-seats.seats.items;
      send_seats = map (λ v. v.items) c.in_ok-seats.send_seats.items;
      takers = c.in_ok-port_takers.port_takers.items;
      columns = map (λ v. v.items) c.in_ok-port_takers.port_ends.items;
      process_ends = map (λ v. v.items) c.in_ok-process_ends.process_ends.items;
      worker_ends = map (λ v. v.items) c.in_ok-process_ends.worker_ends.items;
      mailboxes = c.in_ok-mailboxes.mailboxes.items;
      mail = map (λ v. v.items) c.in_ok-mailboxes.mail.items;
      jobs = c.in_ok-jobs.jobs.items;
      job_ends = map (λ v. v.items) c.in_ok-jobs.job_ends.items;
      pools = map (λ v. v.items) c.split_last-pools.result.0.items;
      ask_ends = c.in_ok-asks.ask_ends.items;
      asks = c.split_last-ask_ends.result.0.items;
      words = c.in_ok-seats.ensures;
      lanes = subst (λ s. ArePortLanes c.args.size s c.in_ok-port_takers.port_takers.items) c.as_slice.ensures.value c.in_ok-port_takers.ensures.takers;
      ends = c.in_ok-port_takers.ensures.ends;
      parted = ap (map (λ v. v.items)) c.in_ok-process_ends.ensures.parts
          ∙ map-append (λ v. v.items) (c.in_ok-process_ends.process_ends.items ++ c.in_ok-process_ends.poller_ends ∷ []) c.in_ok-process_ends.worker_ends.items
          ∙ ap (λ l. l ++ map (λ v. v.items) c.in_ok-process_ends.worker_ends.items) (map_push (λ v. v.items) c.in_ok-process_ends.process_ends.items c.in_ok-process_ends.poller_ends);
      parted_at = length-map c.in_ok-process_ends.process_ends.items (λ v. v.items) ∙ c.in_ok-process_ends.ensures.first;
      mailboxes_many = c.in_ok-mailboxes.ensures.many;
      mailboxes_new = c.in_ok-mailboxes.ensures.takers;
      mail_ends = c.in_ok-mailboxes.ensures.ends;
      jobs_many = c.in_ok-jobs.ensures.many;
      jobs_new = c.in_ok-jobs.ensures.takers;
      job_columns = c.in_ok-jobs.ensures.ends;
      jobs_parted = ap (map (λ v. v.items)) c.split_last-pools.ensures ∙ map_push (λ v. v.items) c.split_last-pools.result.0.items c.split_last-pools.result.1;
      asks_new = c.in_ok-asks.ensures.taker;
      all_asks = c.in_ok-asks.ensures.ends;
      asks_parted = c.split_last-ask_ends.ensures;
      ports = c.in_ok-ports.ensures;
      processes = c.in_ok-processes.ensures;
      workers = c.in_ok-workers.ensures;
    } in
    record {
      counts = counts c.args.size limits run made;
      ports = port_of c.args.size limits run made;
      processes = process_of c.args.size limits run made;
      workers = worker_of c.args.size limits run made;
      poller = poller_of c.args.size limits run made;
      finish = finish_of c.args.size limits run made;
      can_open = can_open c.args.size limits run made;
      can_begin = can_begin c.args.size limits run made;
    }
