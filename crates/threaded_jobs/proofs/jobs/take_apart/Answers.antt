use Rattle.std.proofs.Common.{◌++◌, None, length, sym, ap, ◌∙◌, arith}
use Rattle.threaded_jobs.proofs.Apart.{processes_in, workers_in, last_poller, last_finish, counts_of, processes_end, workers_end, poller_end, finish_end, are_listed, have_run_in}
use Rattle.threaded_jobs.proofs.jobs.take_apart.Goals as goal

pub jobs-init : goal.jobs-init
jobs-init g c =
    let gives = c.into_iter-job-iterator.ensures.into_iter_gives in
    let rest = c.into_iter-job-iterator.result.rest.items in
    let empty = c.requires.empty in
    let went = c.requires.went in
    let counts = counts_of g.S.PollSet.faults g.S.PollSet.answered went.0 c.args.jobs.items went.1 in
    let processes = counts.processes in
    let workers = counts.workers in
    let same_processes = ap (λ l. length (processes_in l)) gives.0 in
    let same_workers = ap (λ l. length (workers_in l)) gives.0 in
    let no_processes = ap length empty.0 in
    let no_workers = ap length empty.1 in
    let process_len = c.args.room.processes.ok.0 in
    let worker_len = c.args.room.workers.ok.0 in
    let process_room = went.2 in
    let worker_room = went.3 in
    let many = ap length gives.0 in
    let len = gives.1 in
    let size = c.args.jobs.ok.0 in (
      ap (λ l. l ++ processes_in rest) empty.0 ∙ ap processes_in gives.0,
      ap (λ l. l ++ workers_in rest) empty.1 ∙ ap workers_in gives.0,
      ap (last_poller None) gives.0,
      ap (last_finish None) gives.0,
      omega arith,
      omega arith,
      omega arith,
    )

pub unreachable-requires : goal.unreachable-requires
unreachable-requires g c =
    let inv = c.jobs.invariant in
    let none = sym inv.6 ∙ c.in-None.ensures.steps.0 in
    let there = (counts_of g.S.PollSet.faults g.S.PollSet.answered c.requires.went.0 c.args.jobs.items c.requires.went.1).poller in
    c.in_default.not-Some there.0 (poller_end c.jobs.poller c.jobs.job-iterator.rest.items c.args.jobs.items none inv.2 ∙ there.1)

pub unreachable-requires-in_default-finish : goal.unreachable-requires-in_default-finish
unreachable-requires-in_default-finish g c =
    let inv = c.jobs.invariant in
    let none = sym inv.6 ∙ c.in-None.ensures.steps.0 in
    let there = (counts_of g.S.PollSet.faults g.S.PollSet.answered c.requires.went.0 c.args.jobs.items c.requires.went.1).finish in
    c.in_default-finish.not-Some there.0 (finish_end c.jobs.finish c.jobs.job-iterator.rest.items c.args.jobs.items none inv.3 ∙ there.1)

pub returns-clause-listed : goal.returns-clause-listed
returns-clause-listed g c =
    let inv = c.jobs.invariant in
    let rest = c.jobs.job-iterator.rest.items in
    let items = c.args.jobs.items in
    let none = sym inv.6 ∙ c.in-None.ensures.steps.0 in
    are_listed g.S.PollSet.faults g.S.PollSet.answered c.requires.went.0
    (record { processes = c.jobs.processes; workers = c.jobs.workers; poller = c.in-Some-poller.poller; finish = c.in-Some-finish.finish }) items c.requires.went.1
    (processes_end c.jobs.processes.items rest items none inv.0) (workers_end c.jobs.workers.items rest items none inv.1)
    (sym c.in-Some-poller.is ∙ poller_end c.jobs.poller rest items none inv.2) (sym c.in-Some-finish.is ∙ finish_end c.jobs.finish rest items none inv.3)

pub returns-clause-went : goal.returns-clause-went
returns-clause-went g c = λ old went.
    let inv = c.jobs.invariant in
    let rest = c.jobs.job-iterator.rest.items in
    let items = c.args.jobs.items in
    let none = sym inv.6 ∙ c.in-None.ensures.steps.0 in
    have_run_in g.S.PollSet.faults g.S.PollSet.answered old
    (record { processes = c.jobs.processes; workers = c.jobs.workers; poller = c.in-Some-poller.poller; finish = c.in-Some-finish.finish }) items went
    (are_listed g.S.PollSet.faults g.S.PollSet.answered old
    (record { processes = c.jobs.processes; workers = c.jobs.workers; poller = c.in-Some-poller.poller; finish = c.in-Some-finish.finish }) items went
    (processes_end c.jobs.processes.items rest items none inv.0) (workers_end c.jobs.workers.items rest items none inv.1)
    (sym c.in-Some-poller.is ∙ poller_end c.jobs.poller rest items none inv.2) (sym c.in-Some-finish.is ∙ finish_end c.jobs.finish rest items none inv.3))
