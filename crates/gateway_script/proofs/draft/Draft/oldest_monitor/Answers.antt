use Rattle.std.proofs.Common.{sym}
use Rattle.gateway_script.proofs.Numbers.{oldest_below}
use Rattle.gateway_script.proofs.draft.Draft.oldest_monitor.Goals as goal

pub returns-in-Some-clause-below : goal.returns-in-Some-clause-below
returns-in-Some-clause-below c =
    oldest_below c.args.process c.args.port c.in-Some.number c.args.self.now.steps.list.items c.requires.draft.plan.numbered (sym c.in-Some.ensures)
