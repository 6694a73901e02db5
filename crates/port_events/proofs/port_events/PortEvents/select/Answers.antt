use Rattle.std.proofs.Common.{[], ◌∷◌, sym, ◌∙◌}
use Rattle.port_model.specs.declared.effect.Effect.TheVariants.{Select}
use Rattle.port_events.specs.Parts.{following}
use Rattle.port_events.proofs.Single.{selected-done, as-seen}
use Rattle.port_events.proofs.port_events.PortEvents.select.Goals as goal

pub returns-clause-ok : goal.returns-clause-ok
returns-clause-ok c =
    as-seen (λ t. following t.port (Select c.args.event c.args.dir c.args.on ∷ [])) _ _ _ _ _ c.self.view_is
    (selected-done c.select.result _ _ _ c.args.dir c.args.on (sym c.is_err.ensures.value ∙ c.if-is_err.false) c.select.ensures.selected c.select.ensures.room)
