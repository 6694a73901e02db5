use Rattle.std.proofs.Common.{refl}
use Rattle.gateway.proofs.Ending.{ends_unread, ends_unmade, ends_made}
use Rattle.gateway.proofs.Fixed.{FixedLaws, answers-fixed, summed}
use Rattle.gateway.proofs.Named.{named-script}
use Rattle.gateway.proofs.Polls.{poll-rose, poll-kept}
use Rattle.gateway.proofs.Reported.{saves-within, all-ended}
use Rattle.gateway.proofs.top.run_hosted.Goals as goal

pub returns-in-Err-clause-run : goal.returns-in-Err-clause-run
returns-in-Err-clause-run g c =
    rw c.without_report.ensures
    (ends_unread g.D.Driver.kind g.D.Driver.stage g.D.Driver.faults g.D.Driver.own g.D.Driver.program _ c.in-Err.cause (rw c.as_slice.ensures.value at c.in-Err.ensures.cause) c.prepare.ensures.files
    c.prepare.ensures.load refl refl c.requires)

pub returns-in-Err-ran-clause-run : goal.returns-in-Err-ran-clause-run
returns-in-Err-ran-clause-run g c =
    let poll = rw c.in-Err-ran.is at c.run_script-ran.ensures.poll in
    rw c.without_report-in-Err-ran.ensures (rw c.run_cause.ensures
    (ends_unmade g.D.Driver.kind g.D.Driver.stage g.D.Driver.faults g.D.Driver.own g.D.Driver.program _ c.in-Ok.ensures.input.0 c.in-Ok.prepared.input c.in-Err-ran.fault c.in-Ok.ensures.input.1
    (rw c.in-Err-ran.is at c.run_script-ran.ensures.fault) (poll-rose g.P.PollSet.faults c.args.poll c.run_script-ran.result.poll c.in-Err-ran.fault poll) c.prepare.ensures.files c.prepare.ensures.load refl
    c.run_script-ran.ensures.back))

pub write_left-cause-requires-clause-saves : goal.write_left-cause-requires-clause-saves
write_left-cause-requires-clause-saves g c =
    saves-within g.D.Driver.kind g.D.Driver.stage g.D.Driver.faults g.D.Driver.own g.D.Driver.program _ _ _ c.in-Ok.ensures.input.0 c.in-Ok.prepared.input _ _ _ _ c.in-Ok-ran.left c.in-Ok.ensures.input.1
    (rw c.in-Ok-ran.is at c.run_script-ran.ensures.ran)

pub write_left-cause-requires-clause-ended : goal.write_left-cause-requires-clause-ended
write_left-cause-requires-clause-ended g c =
    all-ended g.D.Driver.kind g.D.Driver.stage g.D.Driver.faults g.D.Driver.own g.D.Driver.program _ _ _ c.in-Ok.ensures.input.0 c.in-Ok.prepared.input _ _ _ _ c.in-Ok-ran.left c.in-Ok.ensures.input.1
    (rw c.in-Ok-ran.is at c.run_script-ran.ensures.ran)

pub returns-clause-run : goal.returns-clause-run
returns-clause-run g c =
    let poll = rw c.in-Ok-ran.is at c.run_script-ran.ensures.poll in
    let ran = rw c.in-Ok-ran.is at c.run_script-ran.ensures.ran in
    let laws : FixedLaws g.D.Driver.kind g.D.Driver.stage g.D.Driver.faults g.D.Driver.own g.D.Driver.program = record {
      echoed = c.commands_are_echoed.ensures.echoed;
      all = c.commands_are_echoed.ensures.all;
      none_refused = c.commands_are_echoed.ensures.none_refused;
      saved = c.output_is_saved_in_every_run.ensures;
      summed = c.summary_is_of_number.ensures;
    } in
    let named = named-script _ _ _ c.in-Ok.ensures.input.0 c.in-Ok.prepared.input c.in-Ok.ensures.input.1 c.in-Ok.ensures.runnable in
    ends_made g.D.Driver.kind g.D.Driver.stage g.D.Driver.faults g.D.Driver.own g.D.Driver.program _ c.in-Ok.ensures.input.0 c.in-Ok.prepared.input _ _ c.in-Ok-ran.left _ _ c.prepare.ensures.files
    c.in-Ok.ensures.input.1 c.in-Ok.ensures.source c.prepare.ensures.load ran
    (answers-fixed g.D.Driver.kind g.D.Driver.stage g.D.Driver.faults g.D.Driver.own g.D.Driver.program laws _ _ _ _ _ _ ran c.in-Ok.ensures.runnable)
    (c.programs_are_served_in_every_run.ensures _ _ _ _ _ _ ran)
    (summed g.D.Driver.kind g.D.Driver.stage g.D.Driver.faults g.D.Driver.own g.D.Driver.program laws _ _ _ c.in-Ok.ensures.input.0 c.in-Ok.prepared.input c.in-Ok.ensures.input.1 _ _ _ _ c.in-Ok-ran.left ran)
    (c.commands_are_counted_in_every_run.ensures _ _ _ _ _ _ _ _ named ran) (c.journals_are_replayed_in_every_run.ensures _ _ _ _ _ _ _ _ named ran)
    (poll-kept g.P.PollSet.faults c.args.poll c.run_script-ran.result.poll c.in-Ok-ran.left poll)
    c.write_left-cause.ensures c.run_script-ran.ensures.back
