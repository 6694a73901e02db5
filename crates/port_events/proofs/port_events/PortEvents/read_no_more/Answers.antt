use Rattle.port_history.specs.Events.{read_no_more}
use Rattle.port_events.specs.Parts.{one, none}
use Rattle.port_events.proofs.Single.{quiet, as-seen}
use Rattle.port_events.proofs.port_events.PortEvents.read_no_more.Goals as goal

pub returns-clause-done : goal.returns-clause-done
returns-clause-done c =
    as-seen (λ t. one read_no_more none none c.args.event) _ _ _ _ _ c.self.view_is (quiet read_no_more _ _ _ c.read_no_more.ensures)
