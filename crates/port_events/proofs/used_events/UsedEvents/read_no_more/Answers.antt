use Rattle.std.proofs.Common.{sym, subst, ◌∙◌, inl}
use Rattle.port_events.specs.Table.{Agrees, Changes}
use Rattle.port_history.specs.Events.{read_no_more}
use Rattle.port_events.proofs.Selected.{read-off, read-off-still, selected-free, selected-listed}
use Rattle.port_model.specs.declared.event.Dir.TheVariants.{Read}
use Rattle.port_events.proofs.used_events.UsedEvents.read_no_more.Goals as goal

pub select-requires-clause-waits : goal.select-requires-clause-waits
select-requires-clause-waits c = selected-free _ c.self.invariant _ Read (sym c.is_selected.ensures ∙ c.if-is_selected.true)

pub select-requires-clause-room : goal.select-requires-clause-room
select-requires-clause-room c = inl (selected-listed _ c.self.invariant _ Read (sym c.is_selected.ensures ∙ c.if-is_selected.true))

pub returns-then-is_selected : goal.returns-then-is_selected
returns-then-is_selected c = λ events a.
    read-off _ _ _ c.self.invariant (sym c.is_selected.ensures ∙ c.if-is_selected.true) c.select.ensures events (subst (λ s. Agrees s events) (sym c.self.view_is) a)

pub returns-else-is_selected : goal.returns-else-is_selected
returns-else-is_selected c =
    subst (λ s. Changes s s c.args.event read_no_more) c.self.view_is (read-off-still _ _ (sym c.is_selected.ensures ∙ c.if-is_selected.false))
