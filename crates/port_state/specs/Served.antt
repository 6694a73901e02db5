-- What handling a task left, as a history says it.
use Rattle.std.specs.Prelude.{◌≡◌, ℕ, List, true, Option, is_some, if◌then◌else◌}
use Rattle.port_model.specs.declared.signal.Signal.{Signal}
use Rattle.port_mail.specs.port_links.port_history.Opening.{Opening, Taken}
use Rattle.port_mail.specs.port_links.port_history.Ties.{Ties, untied}
use Rattle.port_mail.specs.port_links.port_history.Service.{effects_after}
use Rattle.port_mail.specs.port_links.port_history.State.{State, closing_reason, row_calls, after_handled}
use Rattle.port_mail.specs.port_links.port_history.Laws.{has_effects}
use Rattle.port_mail.specs.Rows.{IsRowOf}
use Rattle.port_state.specs.declared.served.Served.{Served}
use Rattle.port_state.specs.View.{StateView, IsStateOf}

-- the row of a handled task after a state: the port's state is that after it, the row keeps the law of effects, and what its mail is made of is
-- that of the row
pub record IsServed (port : Opening) (s : State) (t : Taken) (signal : Signal) (made : Served) (new : StateView) : Type 0 where
  pub state : IsStateOf new port (after_handled port s t)
  pub effects : has_effects port s t ≡ true
  pub effects_are : t.effects ≡ effects_after port s.calls (row_calls port s t)
  pub closes : made.closes ≡ is_some (closing_reason s t)
  pub mail : IsRowOf made.handling made.effects signal made.closing port s t

-- the ties after a port was closed for a reason, if it was
abbrev pub untied_for : Option (List ℕ) → Ties → Ties
untied_for reason ties = if is_some reason then untied ties else ties
