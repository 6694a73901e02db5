use Rattle.std.proofs.Common.{ap}
use Rattle.run_report.specs.Ports.{counts_of}
use Rattle.run_report.specs.Report.{port_line}
use Rattle.run_report.proofs.Counted.{counts-at}
use Rattle.run_report.proofs.Lists.{more-lines}
use Rattle.run_report.proofs.text.write_ports.Goals as goal

pub loop-place-preserved : goal.loop-place-preserved
loop-place-preserved c = λ processes same.
    let port = c.index-ports-place.result in
    more-lines (λ p. port_line p (counts_of processes p)) c.args.ports.now c.loop-place.place port _ _ _ _ c.loop-place-test.true c.index-ports-place.is
    (c.loop-place.invariant processes same) c.in_ok-write_port.ensures
    (ap (port_line port) (counts-at processes c.args.ports.now c.args.counts.now c.loop-place.place port c.index-counts-place.result same
    c.loop-place-test.true c.index-ports-place.is c.index-counts-place.is))
