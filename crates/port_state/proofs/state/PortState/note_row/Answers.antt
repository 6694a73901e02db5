use Rattle.std.proofs.Common.{refl}
use Rattle.port_state.proofs.state.PortState.note_row.Goals as goal

pub returns-clause-state : goal.returns-clause-state
returns-clause-state g c = λ ties.
    rw (← c.self.view_is, c.first_reason-self-inside.ensures, c.take.ensures.value, c.closer_after-self-inside.ensures ties, c.closes_as_asked-asked.ensures, c.as_slice.ensures.items, c.is_some-closes.ensures) refl
