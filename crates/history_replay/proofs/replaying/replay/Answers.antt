use Rattle.history_replay.proofs.Ports.{report-at}
use Rattle.history_replay.proofs.replaying.replay.Goals as goal

pub first_broken-requires : goal.first_broken-requires
first_broken-requires c =
    report-at c.args.book.now c.names.result.now c.ports-report-items.result.now c.loop-at.at c.report-item.result c.names.ensures.value c.ports-report-items.ensures.value
    c.names.ensures.book c.loop-at-test.true c.report-item.is
