use Rattle.std.proofs.Common.{arith}
use Rattle.std.proofs.lemmas.Result.{IfOk-weaker}
use Rattle.run_seats.specs.threaded_jobs.Ended.{HaveAllEnded}
use Rattle.ended_jobs.specs.Ended.{HaveEndedFor}
use Rattle.ended_jobs.proofs.Ends.{ended_for, many_ended, stopped_for}
use Rattle.ended_jobs.proofs.running.run_to_end.Goals as goal

pub run_seated-bodies-requires-after_bounds : goal.run_seated-bodies-requires-after_bounds
run_seated-bodies-requires-after_bounds g c lifetimes bounds = let s = c.requires.seated in (s.0, s.1, s.2, s.3, s.4, s.5)

pub all_ended-requires-clause-room : goal.all_ended-requires-clause-room
all_ended-requires-clause-room g c =
    let s = c.requires.seated in
    let ran = c.run_seated-bodies.ensures.ran in
    let many = many_ended g.S.PollSet.faults g.S.PollSet.answered s.1 s.2 s.3 c.args.run.jobs ran.jobs c.run_seated-bodies.result.jobs s.5.dealt ran.went ran.ends in
    let room = s.6 in
    omega (arith, many, room)

pub returns-clause-bodies : goal.returns-clause-bodies
returns-clause-bodies g c bodies plans lanes poll schedulers seated = c.run_seated-bodies.ensures.bodies bodies seated.opened

pub returns-clause-ended : goal.returns-clause-ended
returns-clause-ended g c bodies plans lanes poll schedulers seated =
    let ran = c.run_seated-bodies.ensures.ran in
    let ends = c.run_seated-bodies.result.jobs in
    IfOk-weaker c.all_ended.result (HaveAllEnded ends) (HaveEndedFor g.S.PollSet.faults g.S.PollSet.answered plans lanes poll)
    (λ jobs ended. ended_for g.S.PollSet.faults g.S.PollSet.answered plans lanes poll c.args.run.jobs ran.jobs ends jobs seated.dealt seated.can ran.went ran.ends ended) c.all_ended.ensures.ended

pub returns-clause-stopped : goal.returns-clause-stopped
returns-clause-stopped g c bodies plans lanes poll schedulers seated =
    let ran = c.run_seated-bodies.ensures.ran in
    stopped_for g.S.PollSet.faults g.S.PollSet.answered plans lanes poll c.args.run.jobs ran.jobs c.run_seated-bodies.result.jobs c.all_ended.result seated.dealt ran.went ran.ends c.all_ended.ensures.stopped c.all_ended.ensures.poll
