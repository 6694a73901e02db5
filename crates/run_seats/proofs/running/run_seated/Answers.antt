use Rattle.std.proofs.Common.{◌++◌, [], ◌∷◌, length, map, sym, ap, ◌∙◌, subst, arith}
use Rattle.std.proofs.lemmas.List.{length-map}
use Rattle.port_sched.specs.Jobs.{WentEach}
use Rattle.port_sched.specs.Schedulers.{Ended}
use Rattle.threaded_jobs.specs.Jobs.{listed}
use Rattle.threaded_jobs.specs.Kinds.{HasGone}
use Rattle.threaded_jobs.specs.Parts.{HasRoom}
use Rattle.run_seats.specs.Homing.{IsHomeRoom}
use Rattle.run_seats.specs.Seated.{HasRunFor}
use Rattle.run_seats.proofs.OneRun.{stay_of_one_run}
use Rattle.run_seats.proofs.Whole.{whole, have-ended, many-seats, names-in}
use Rattle.run_seats.proofs.running.run_seated.Goals as goal

pub take_apart-jobs-requires-clause-went : goal.take_apart-jobs-requires-clause-went
take_apart-jobs-requires-clause-went g c =
    let seated = c.requires.5 in
    let run = c.args.run in
    let all = c.as_mut_slice-2.ensures.value ∙ c.into_list-list.ensures.listed in
    let went = c.run_jobs_beside.ensures.jobs in
    let back = whole c.into_list-list.result.items c.run_jobs_beside.new.jobs c.into_list-list.result.len c.into_list-list.result.ok.0 (went.count ∙ ap length c.as_mut_slice-2.ensures.value) in
    let processes = seated.dealt.processes.many in
    let workers = seated.dealt.workers.many in
    let for_processes = seated.room.apart.for_processes in
    let for_workers = seated.room.apart.for_workers in (
      run.jobs,
      subst (λ l. WentEach (HasGone g.S.PollSet.faults g.S.PollSet.answered) (listed run.jobs) l) (sym back) (subst (λ l. WentEach (HasGone g.S.PollSet.faults g.S.PollSet.answered) l c.run_jobs_beside.new.jobs) all went),
      omega (arith, processes, for_processes),
      omega (arith, workers, for_workers),
    )

pub part_seats-seats-requires-clause-ended : goal.part_seats-seats-requires-clause-ended
part_seats-seats-requires-clause-ended g c =
    let seated = c.requires.5 in
    let run = c.args.run in
    let all = c.as_mut_slice-2.ensures.value ∙ c.into_list-list.ensures.listed in
    let went = c.run_jobs_beside.ensures.jobs in
    let back = whole c.into_list-list.result.items c.run_jobs_beside.new.jobs c.into_list-list.result.len c.into_list-list.result.ok.0 (went.count ∙ ap length c.as_mut_slice-2.ensures.value) in
    let gone = subst (λ l. WentEach (HasGone g.S.PollSet.faults g.S.PollSet.answered) (listed run.jobs) l) (sym back) (subst (λ l. WentEach (HasGone g.S.PollSet.faults g.S.PollSet.answered) l c.run_jobs_beside.new.jobs) all went) in
    have-ended g.S.PollSet.faults g.S.PollSet.answered run.jobs c.take_apart-jobs.result seated.can (c.take_apart-jobs.ensures.went run.jobs gone)

pub part_seats-seats-requires-clause-room : goal.part_seats-seats-requires-clause-room
part_seats-seats-requires-clause-room g c =
    let seated = c.requires.5 in
    let run = c.args.run in
    let all = c.as_mut_slice-2.ensures.value ∙ c.into_list-list.ensures.listed in
    let went = c.run_jobs_beside.ensures.jobs in
    let back = whole c.into_list-list.result.items c.run_jobs_beside.new.jobs c.into_list-list.result.len c.into_list-list.result.ok.0 (went.count ∙ ap length c.as_mut_slice-2.ensures.value) in
    let gone = subst (λ l. WentEach (HasGone g.S.PollSet.faults g.S.PollSet.answered) (listed run.jobs) l) (sym back) (subst (λ l. WentEach (HasGone g.S.PollSet.faults g.S.PollSet.answered) l c.run_jobs_beside.new.jobs) all went) in
    let ran = c.take_apart-jobs.ensures.went run.jobs gone in
    let processes = ran.processes.count ∙ seated.dealt.processes.many in
    let workers = ran.workers.count ∙ seated.dealt.workers.many in
    subst (λ n. HasRoom n (length c.take_apart-jobs.result.workers.items) run.room.seats) (sym processes) (subst (λ n. HasRoom (length c.requires.1) n run.room.seats) (sym workers) seated.room.seats.0)

pub add-requires : goal.add-requires
add-requires g c =
    let seated = c.requires.5 in
    let run = c.args.run in
    let all = c.as_mut_slice-2.ensures.value ∙ c.into_list-list.ensures.listed in
    let went = c.run_jobs_beside.ensures.jobs in
    let back = whole c.into_list-list.result.items c.run_jobs_beside.new.jobs c.into_list-list.result.len c.into_list-list.result.ok.0 (went.count ∙ ap length c.as_mut_slice-2.ensures.value) in
    let gone = subst (λ l. WentEach (HasGone g.S.PollSet.faults g.S.PollSet.answered) (listed run.jobs) l) (sym back) (subst (λ l. WentEach (HasGone g.S.PollSet.faults g.S.PollSet.answered) l c.run_jobs_beside.new.jobs) all went) in
    let ran = c.take_apart-jobs.ensures.went run.jobs gone in
    let processes = ran.processes.count ∙ seated.dealt.processes.many in
    let workers = ran.workers.count ∙ seated.dealt.workers.many in
    let many = many-seats c.take_apart-jobs.result in
    let seats = ap length c.part_seats-seats.ensures.seats in
    let len = c.part_seats-seats.result.0.ok.0 in
    let keeps = c.part_seats-seats.ensures.capacity in
    let most = seated.room.seats.1 in
    omega (arith, processes, workers, many, seats, len, keeps, most)

pub bring_home-requires : goal.bring_home-requires
bring_home-requires g c =
    let seated = c.requires.5 in
    let run = c.args.run in
    let all = c.as_mut_slice-2.ensures.value ∙ c.into_list-list.ensures.listed in
    let went = c.run_jobs_beside.ensures.jobs in
    let back = whole c.into_list-list.result.items c.run_jobs_beside.new.jobs c.into_list-list.result.len c.into_list-list.result.ok.0 (went.count ∙ ap length c.as_mut_slice-2.ensures.value) in
    let gone = subst (λ l. WentEach (HasGone g.S.PollSet.faults g.S.PollSet.answered) (listed run.jobs) l) (sym back) (subst (λ l. WentEach (HasGone g.S.PollSet.faults g.S.PollSet.answered) l c.run_jobs_beside.new.jobs) all went) in
    let ran = c.take_apart-jobs.ensures.went run.jobs gone in
    let ended = c.run_jobs_beside.ensures.schedulers in
    let there = whole run.schedulers.items c.run_jobs_beside.new.schedulers run.schedulers.len run.schedulers.ok.0 (ended.count ∙ ap length c.as_mut_slice.ensures.value) in
    let served = subst (λ l. WentEach Ended run.schedulers.items l) (sym there) (subst (λ l. WentEach Ended l c.run_jobs_beside.new.schedulers) c.as_mut_slice.ensures.value ended) in
    let seats = c.add.ensures.items ∙ ap (λ l. l ++ run.spare ∷ []) c.part_seats-seats.ensures.seats in
    let full = subst (HasRunFor c.requires.0 _) (sym seats) (stay_of_one_run g.S.PollSet.faults g.S.PollSet.answered run c.requires.0 _ c.take_apart-jobs.result seated.opened served ran) in
    (full.0, subst (λ n. IsHomeRoom n run.room.homes) (ap length (sym full.1) ∙ length-map full.0.opened.bodies (λ l. l.body)) seated.room.homes)

pub returns-clause-ran : goal.returns-clause-ran
returns-clause-ran g c =
    let seated = c.requires.5 in
    let run = c.args.run in
    let all = c.as_mut_slice-2.ensures.value ∙ c.into_list-list.ensures.listed in
    let went = c.run_jobs_beside.ensures.jobs in
    let back = whole c.into_list-list.result.items c.run_jobs_beside.new.jobs c.into_list-list.result.len c.into_list-list.result.ok.0 (went.count ∙ ap length c.as_mut_slice-2.ensures.value) in
    let gone = subst (λ l. WentEach (HasGone g.S.PollSet.faults g.S.PollSet.answered) (listed run.jobs) l) (sym back) (subst (λ l. WentEach (HasGone g.S.PollSet.faults g.S.PollSet.answered) l c.run_jobs_beside.new.jobs) all went) in
    let ran = c.take_apart-jobs.ensures.went run.jobs gone in
    record { jobs = c.take_apart-jobs.result; went = ran; ends = c.part_seats-seats.ensures.ends }

pub returns-clause-bodies : goal.returns-clause-bodies
returns-clause-bodies g c = λ bodies opened.
    let seated = c.requires.5 in
    let run = c.args.run in
    let all = c.as_mut_slice-2.ensures.value ∙ c.into_list-list.ensures.listed in
    let went = c.run_jobs_beside.ensures.jobs in
    let back = whole c.into_list-list.result.items c.run_jobs_beside.new.jobs c.into_list-list.result.len c.into_list-list.result.ok.0 (went.count ∙ ap length c.as_mut_slice-2.ensures.value) in
    let gone = subst (λ l. WentEach (HasGone g.S.PollSet.faults g.S.PollSet.answered) (listed run.jobs) l) (sym back) (subst (λ l. WentEach (HasGone g.S.PollSet.faults g.S.PollSet.answered) l c.run_jobs_beside.new.jobs) all went) in
    let ran = c.take_apart-jobs.ensures.went run.jobs gone in
    let ended = c.run_jobs_beside.ensures.schedulers in
    let there = whole run.schedulers.items c.run_jobs_beside.new.schedulers run.schedulers.len run.schedulers.ok.0 (ended.count ∙ ap length c.as_mut_slice.ensures.value) in
    let served = subst (λ l. WentEach Ended run.schedulers.items l) (sym there) (subst (λ l. WentEach Ended l c.run_jobs_beside.new.schedulers) c.as_mut_slice.ensures.value ended) in
    let seats = c.add.ensures.items ∙ ap (λ l. l ++ run.spare ∷ []) c.part_seats-seats.ensures.seats in
    let full = subst (HasRunFor bodies _) (sym seats) (stay_of_one_run g.S.PollSet.faults g.S.PollSet.answered run bodies _ c.take_apart-jobs.result opened served ran) in
    c.bring_home.ensures full.0 ∙ names-in g.B.PortBody.name (λ l. l.body) full.0.opened.bodies ∙ ap (map g.B.PortBody.name) full.1
