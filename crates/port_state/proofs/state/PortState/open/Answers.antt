use Rattle.std.proofs.Common.{refl}
use Rattle.port_state.proofs.Opened.{opened-state}
use Rattle.port_state.proofs.state.PortState.open.Goals as goal

pub returns-clause-opened : goal.returns-clause-opened
returns-clause-opened g c = λ port is.
    opened-state c.args.number _ _ c.args.owner c.args.processes _ _ c.in_ok-service.effects port c.in_ok-service.ensures.opened refl c.in-Ok.ensures refl refl refl refl refl refl is
