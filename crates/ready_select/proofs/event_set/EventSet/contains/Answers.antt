use Rattle.std.proofs.Common.{◌∙◌}
use Rattle.ready_select.proofs.Sets.{has-searched, search_moved, range_moved}
use Rattle.ready_select.proofs.event_set.EventSet.contains.Goals as goal

pub returns : goal.returns
returns c =
    let r = search_moved _ _ c.args.event _ c.as_slice.ensures.value c.binary_search.ensures.position in
    let w = range_moved _ _ c.binary_search.result c.as_slice.ensures.value c.binary_search.ensures.bound in
    c.is_ok.ensures.value ∙ rw (← c.self.view_is) (has-searched _ _ _ c.self.invariant.0 w r)
