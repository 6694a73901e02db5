use Rattle.std.proofs.Common.{◌∙◌}
use Rattle.std.proofs.lemmas.Map.Keys.{sorted_from_strictly_increasing}
use Rattle.ready_select.proofs.Sets.{has-searched}
use Rattle.port_events.proofs.used_events.is_among.Goals as goal

pub returns : goal.returns
returns c = c.is_ok.ensures.value ∙ has-searched _ _ _ (sorted_from_strictly_increasing _ c.requires) c.binary_search.ensures.bound c.binary_search.ensures.position
