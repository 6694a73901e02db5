use Rattle.std.proofs.Common.{◌∙◌, length, map, ap, subst, sym, Some}
use Rattle.std.specs.Prelude.{IfOk, IfErr}
use Rattle.closed_lanes.specs.closed_ports.Closed.{HaveComeBack}
use Rattle.ended_jobs.specs.Ended.{HaveEndedFor, StopComes}
use Rattle.port_body.specs.Body.{name_of}
use Rattle.script_run.specs.Left.{IsLeft}
use Rattle.script_run.specs.Parted.{ran_processes}
use Rattle.script_run.specs.Ran.{HasRun}
use Rattle.script_run.specs.Readiness.{ReadyRowsAreAnswered}
use Rattle.script_run.proofs.Answered.{ready-rows}
use Rattle.script_run.proofs.Back.{back-at-once}
use Rattle.script_run.proofs.Run.{has-ended, not-run, places-many, poll-made, poll-stopped, told-made, weaker}
use Rattle.script_run.proofs.Whole.{all-served, has-run}
use Rattle.script_run.proofs.running.run_script.Goals as goal

pub take_back-requires-clause-len : goal.take_back-requires-clause-len
take_back-requires-clause-len g c =
    let is = c.in-Ok.ensures.seated in
    let same = c.run_ports-bodies.ensures.bodies is.bodies is.plans is.others c.args.poll c.args.script.schedulers is.run in
    ap length c.as_slice.ensures.value ∙ places-many g.D.Driver.kind g.D.Driver.stage g.D.Driver.faults g.D.Driver.own g.D.Driver.program c.args.script c.args.poll c.args.hosts.now.items c.seat_script.new.hosts.items c.in-Ok.seated
    c.run_ports-bodies.result.bodies.items is same

pub returns-in-Err-jobs-clause-back : goal.returns-in-Err-jobs-clause-back
returns-in-Err-jobs-clause-back g c =
    let is = c.in-Ok.ensures.seated in
    let same = c.run_ports-bodies.ensures.bodies is.bodies is.plans is.others c.args.poll c.args.script.schedulers is.run in
    let back = back-at-once g.D.Driver.kind g.D.Driver.stage g.D.Driver.faults g.D.Driver.own g.D.Driver.program c.run_ports-bodies.result.bodies.items c.as_slice.result.now c.seat_script.new.hosts.items c.take_back.new.hosts.items
    c.take_back.ensures.returned in
    (all-served g.D.Driver.kind g.D.Driver.stage g.D.Driver.faults g.D.Driver.own g.D.Driver.program c.args.script c.args.poll c.args.hosts.now.items c.seat_script.new.hosts.items c.take_back.new.hosts.items c.in-Ok.seated
    c.run_ports-bodies.result.bodies.items c.requires.unused is same
    (subst (λ places. HaveComeBack g.D.Driver.kind g.D.Driver.stage g.D.Driver.faults g.D.Driver.own g.D.Driver.program c.run_ports-bodies.result.bodies.items places c.seat_script.new.hosts.items c.take_back.new.hosts.items)
    c.as_slice.ensures.value back)).1

pub returns-in-Err-jobs-clause-fault : goal.returns-in-Err-jobs-clause-fault
returns-in-Err-jobs-clause-fault g c =
    let is = c.in-Ok.ensures.seated in
    let same = c.run_ports-bodies.ensures.bodies is.bodies is.plans is.others c.args.poll c.args.script.schedulers is.run in
    let back = back-at-once g.D.Driver.kind g.D.Driver.stage g.D.Driver.faults g.D.Driver.own g.D.Driver.program c.run_ports-bodies.result.bodies.items c.as_slice.result.now c.seat_script.new.hosts.items c.take_back.new.hosts.items
    c.take_back.ensures.returned in
    not-run g.D.Driver.kind g.D.Driver.stage g.D.Driver.faults c.args.script.ports.items c.args.hosts.now.items c.take_back.new.hosts.items c.in-Err-jobs.stop c.stopped.result c.stopped.ensures
    (record {
      places = c.in-Ok.seated.places.items;
      found = is.found;
      served = (all-served g.D.Driver.kind g.D.Driver.stage g.D.Driver.faults g.D.Driver.own g.D.Driver.program c.args.script c.args.poll c.args.hosts.now.items c.seat_script.new.hosts.items c.take_back.new.hosts.items c.in-Ok.seated
          c.run_ports-bodies.result.bodies.items c.requires.unused is same
          (subst (λ places. HaveComeBack g.D.Driver.kind g.D.Driver.stage g.D.Driver.faults g.D.Driver.own g.D.Driver.program c.run_ports-bodies.result.bodies.items places c.seat_script.new.hosts.items c.take_back.new.hosts.items)
          c.as_slice.ensures.value back)).0;
    })

pub returns-in-Err-jobs-clause-poll : goal.returns-in-Err-jobs-clause-poll
returns-in-Err-jobs-clause-poll g c =
    let is = c.in-Ok.ensures.seated in
    let comes = c.run_ports-bodies.ensures.stopped is.bodies is.plans is.others c.args.poll c.args.script.schedulers is.run in
    poll-stopped g.S.PollSet.faults c.args.poll c.in-Err-jobs.poll c.in-Err-jobs.stop c.stopped.result c.stopped.ensures
    (subst (λ r. IfErr r (λ s. StopComes g.S.PollSet.faults c.args.poll s.0 s.1)) c.in-Err-jobs.is comes)

pub close_run-ran-requires-clause-len : goal.close_run-ran-requires-clause-len
close_run-ran-requires-clause-len g c =
    let is = c.in-Ok.ensures.seated in
    let same = c.run_ports-bodies.ensures.bodies is.bodies is.plans is.others c.args.poll c.args.script.schedulers is.run in
    ap length c.as_slice-2.ensures.value ∙ places-many g.D.Driver.kind g.D.Driver.stage g.D.Driver.faults g.D.Driver.own g.D.Driver.program c.args.script c.args.poll c.args.hosts.now.items c.seat_script.new.hosts.items c.in-Ok.seated
    c.run_ports-bodies.result.bodies.items is same

pub close_run-ran-requires-clause-ended : goal.close_run-ran-requires-clause-ended
close_run-ran-requires-clause-ended g c =
    let is = c.in-Ok.ensures.seated in
    let same = c.run_ports-bodies.ensures.bodies is.bodies is.plans is.others c.args.poll c.args.script.schedulers is.run in
    let ended = subst (λ r. IfOk r (HaveEndedFor g.S.PollSet.faults g.S.PollSet.answered is.plans is.others c.args.poll)) c.in-Ok-jobs.is
    (c.run_ports-bodies.ensures.ended is.bodies is.plans is.others c.args.poll c.args.script.schedulers is.run) in (
      is.setting,
      is.plans,
      c.args.poll,
      has-ended g.D.Driver.kind g.D.Driver.stage g.D.Driver.faults g.D.Driver.own g.D.Driver.program g.S.PollSet.faults g.S.PollSet.answered c.args.script c.args.poll c.args.hosts.now.items
          c.seat_script.new.hosts.items c.in-Ok.seated c.run_ports-bodies.result.bodies.items c.in-Ok-jobs.jobs is same ended,
    )

pub returns-clause-ran : goal.returns-clause-ran
returns-clause-ran g c =
    let is = c.in-Ok.ensures.seated in
    let same = c.run_ports-bodies.ensures.bodies is.bodies is.plans is.others c.args.poll c.args.script.schedulers is.run in
    let ended = subst (λ r. IfOk r (HaveEndedFor g.S.PollSet.faults g.S.PollSet.answered is.plans is.others c.args.poll)) c.in-Ok-jobs.is
    (c.run_ports-bodies.ensures.ended is.bodies is.plans is.others c.args.poll c.args.script.schedulers is.run) in
    let has = has-ended g.D.Driver.kind g.D.Driver.stage g.D.Driver.faults g.D.Driver.own g.D.Driver.program g.S.PollSet.faults g.S.PollSet.answered c.args.script c.args.poll c.args.hosts.now.items
    c.seat_script.new.hosts.items c.in-Ok.seated c.run_ports-bodies.result.bodies.items c.in-Ok-jobs.jobs is same ended in
    let places = c.as_slice-2.ensures.value in
    let back = subst (λ p. HaveComeBack g.D.Driver.kind g.D.Driver.stage g.D.Driver.faults g.D.Driver.own g.D.Driver.program c.run_ports-bodies.result.bodies.items p c.seat_script.new.hosts.items c.close_run-ran.new.hosts.items) places
    c.close_run-ran.ensures.returned in
    let left = c.close_run-ran.ensures.left is.setting is.plans c.args.poll has in
    let jobs = c.in-Ok-jobs.jobs in
    let ended_names = map name_of c.run_ports-bodies.result.bodies.items in
    let new = c.close_run-ran.new.hosts.items in
    let before = g.S.PollSet.answered c.args.poll in
    told-made (HasRun g.D.Driver.kind g.D.Driver.stage g.D.Driver.faults g.D.Driver.own g.D.Driver.program c.args.script c.args.hosts.now.items new before (Some (g.S.PollSet.answered c.close_run-ran.result.1)))
    c.close_run-ran.result.0 c.made.result c.made.ensures
    (weaker _ _ c.close_run-ran.result.0 (λ ran whole. has-run g.D.Driver.kind g.D.Driver.stage g.D.Driver.faults g.D.Driver.own g.D.Driver.program (record { senders = c.each_sender_has_an_end.ensures.senders; tells = c.calls_tell.ensures; waited = c.waits_are_shown.ensures; in_order = c.listed_calls_are_in_order.ensures; listed = c.suspended_calls_are_listed.ensures }) c.args.script c.args.poll
    c.args.hosts.now.items c.seat_script.new.hosts.items new c.in-Ok.seated c.run_ports-bodies.result.bodies.items jobs.processes.items ran c.requires.unused is same back jobs.poller.lanes.items
    (subst (λ p. IsLeft g.D.Driver.kind g.D.Driver.faults g.D.Driver.own g.D.Driver.program is.setting (ran_processes is.plans jobs.processes.items) jobs.poller.lanes.items ended_names p new ran) places whole)
    before (Some (g.S.PollSet.answered c.close_run-ran.result.1))
    (subst (λ poll. ReadyRowsAreAnswered before (Some (g.S.PollSet.answered poll)) ran) (sym c.close_run-ran.ensures.poll)
    (ready-rows g.D.Driver.kind g.D.Driver.faults g.D.Driver.own g.D.Driver.program g.S.PollSet.faults g.S.PollSet.answered is.setting is.plans c.args.poll ended_names jobs (ran_processes is.plans jobs.processes.items) _ new ran has whole))) left)

pub returns-clause-back : goal.returns-clause-back
returns-clause-back g c =
    let is = c.in-Ok.ensures.seated in
    let same = c.run_ports-bodies.ensures.bodies is.bodies is.plans is.others c.args.poll c.args.script.schedulers is.run in
    let back = subst (λ p. HaveComeBack g.D.Driver.kind g.D.Driver.stage g.D.Driver.faults g.D.Driver.own g.D.Driver.program c.run_ports-bodies.result.bodies.items p c.seat_script.new.hosts.items c.close_run-ran.new.hosts.items)
    c.as_slice-2.ensures.value c.close_run-ran.ensures.returned in
    (all-served g.D.Driver.kind g.D.Driver.stage g.D.Driver.faults g.D.Driver.own g.D.Driver.program c.args.script c.args.poll c.args.hosts.now.items c.seat_script.new.hosts.items c.close_run-ran.new.hosts.items c.in-Ok.seated
    c.run_ports-bodies.result.bodies.items c.requires.unused is same back).1

pub returns-clause-poll : goal.returns-clause-poll
returns-clause-poll g c =
    let is = c.in-Ok.ensures.seated in
    let ended = subst (λ r. IfOk r (HaveEndedFor g.S.PollSet.faults g.S.PollSet.answered is.plans is.others c.args.poll)) c.in-Ok-jobs.is
    (c.run_ports-bodies.ensures.ended is.bodies is.plans is.others c.args.poll c.args.script.schedulers is.run) in
    poll-made g.S.PollSet.faults c.close_run-ran.result.0 c.made.result c.args.poll c.close_run-ran.result.1 c.made.ensures (ap g.S.PollSet.faults c.close_run-ran.ensures.poll ∙ ended.poller_told.unfailed)
