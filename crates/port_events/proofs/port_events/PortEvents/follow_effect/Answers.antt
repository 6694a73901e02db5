use Rattle.std.proofs.Common.{[], ◌∷◌, refl, sym, subst}
use Rattle.port_model.specs.declared.effect.Effect.TheVariants.{Select}
use Rattle.port_events.specs.Parts.{Does, following}
use Rattle.port_events.proofs.Single.{with-before}
use Rattle.port_events.proofs.Handling.{unused-one}
use Rattle.port_events.proofs.port_events.PortEvents.follow_effect.Goals as goal

pub returns-in_ok-select-in-Select-clause-ok : goal.returns-in_ok-select-in-Select-clause-ok
returns-in_ok-select-in-Select-clause-ok g c =
    subst (λ x. Does (following c.args.self.now.port (x ∷ [])) c.args.self.now c.select.new.self c.args.given_back.now.items c.args.given_back.now.items) (sym c.in-Select.is)
    (with-before (following c.args.self.now.port (Select c.in-Select.event c.in-Select.dir c.in-Select.on ∷ [])) c.args.self.now c.select.new.self
    (λ events. refl) c.in_ok-select-in-Select.ensures.ok c.args.given_back.now.items)

pub returns-in_ok-give_up-in-Unuse-clause-ok : goal.returns-in_ok-give_up-in-Unuse-clause-ok
returns-in_ok-give_up-in-Unuse-clause-ok g c =
    subst (λ x. Does (following c.args.self.now.port (x ∷ [])) c.args.self.now c.give_up.new.self c.args.given_back.now.items c.give_up.new.given_back.items) (sym c.in-Unuse.is)
    (unused-one c.args.self.now.port c.in-Unuse.event c.args.self.now c.give_up.new.self _ _ c.in_ok-give_up-in-Unuse.ensures.ok)
