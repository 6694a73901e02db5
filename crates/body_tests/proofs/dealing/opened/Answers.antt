use Rattle.body_tests.proofs.Dealt.{is_dealt}
use Rattle.body_tests.proofs.dealing.opened.Goals as goal

pub returns : goal.returns
returns c =
    let run = c.in_ok-run.ensures in
    is_dealt _ run.counts run.can_open run.can_begin run.processes run.workers run.poller
