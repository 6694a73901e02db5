use Rattle.std.proofs.Common.{not, rules}
use Rattle.std.proofs.lemmas.Fn.{filter_same}
use Rattle.ready_select.specs.Sets.{has}
use Rattle.ready_select.proofs.rounds.hand_over.Goals as goal

pub returns-clause-left : goal.returns-clause-left
returns-clause-left c = filter_same _ (λ a. not (has a.event c.args.events.now)) _ (λ x b f' k. search rules) _ _ c.retain.ensures.filtered
