use Rattle.echoed_history.proofs.Closing.{commands-come-back}
use Rattle.echoed_history.proofs.Serving.{not-finished-before}
use Rattle.echoed_history.proofs.commands_come_back.Goals as goal

pub returns-clause-whole : goal.returns-clause-whole
returns-clause-whole c = commands-come-back

pub returns-clause-unfinished : goal.returns-clause-unfinished
returns-clause-unfinished c = not-finished-before
