use Rattle.std.proofs.Common.{not, rules, ◌==◌, ap, ◌∙◌}
use Rattle.std.proofs.lemmas.Fn.{filter_same}
use Rattle.driver_model.specs.Drivers.{without_event}
use Rattle.history_driver.proofs.held.HeldEvents.give_up.Goals as goal

pub returns : goal.returns
returns c =
    filter_same _ (λ other. not (other == c.args.event)) _ (λ x b f' k. search rules) _ _ c.retain.ensures.filtered
    ∙ ap (λ held. without_event c.args.event held) c.self.view_is
