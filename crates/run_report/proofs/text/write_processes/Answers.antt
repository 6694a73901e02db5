use Rattle.std.proofs.Common.{append_assoc}
use Rattle.run_report.specs.Report.{process_line}
use Rattle.run_report.proofs.Lists.{flat_map-enumerate_more}
use Rattle.run_report.proofs.text.write_processes.Goals as goal

pub loop-place-preserved : goal.loop-place-preserved
loop-place-preserved c = λ reports many each.
    let place = c.loop-place.place in
    rw (
      flat_map-enumerate_more (λ p. process_line reports p.0 p.1) c.args.processes.now place c.index-processes-place.result
          c.loop-place-test.true c.index-processes-place.is,
      c.in_ok-write_process.ensures reports place many (each place c.loop-place-test.true),
      c.loop-place.invariant reports many each,
    ) (simp append_assoc)
