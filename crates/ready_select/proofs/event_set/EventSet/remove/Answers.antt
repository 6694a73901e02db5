use Rattle.std.proofs.Common.{◌≡◌, sym, ◌∙◌, ap, subst, arith, length, is_ok}
use Rattle.std.specs.List.Sorted.{IsBinarySearchResult, IsSearchInRange}
use Rattle.std.specs.Ordering.{nat_cmp}
use Rattle.std.proofs.lemmas.Cmp.{nat_cmp_total}
use Rattle.ready_select.specs.Sets.{has}
use Rattle.ready_select.proofs.Sorted.{sorted-remove}
use Rattle.ready_select.proofs.Sets.{has-searched, has-removed, not_there, search_moved, range_moved}
use Rattle.ready_select.proofs.event_set.EventSet.remove.Goals as goal

pub invariant_of-self : goal.invariant_of-self
invariant_of-self c = (rw c.remove.ensures.items (sorted-remove nat_cmp nat_cmp_total c.self.inside.events.items c.in-Ok.place c.self.invariant.0), omega (arith, c.remove.ensures.len, c.self.invariant.1))

pub returns-in-Ok-clause-rising : goal.returns-in-Ok-clause-rising
returns-in-Ok-clause-rising c = (invariant_of-self c).0

pub returns-in-Ok-clause-left : goal.returns-in-Ok-clause-left
returns-in-Ok-clause-left c = λ other.
    let r = search_moved _ _ c.args.event _ c.as_slice.ensures.value c.binary_search.ensures.position in
    let w = range_moved _ _ c.binary_search.result c.as_slice.ensures.value c.binary_search.ensures.bound in
    rw (c.remove.ensures.items, ← c.self.view_is) (has-removed c.self.inside.events.items c.args.event c.in-Ok.place other c.self.invariant.0
    (subst (λ q. IsSearchInRange q (length c.self.inside.events.items)) c.in-Ok.is w)
    (subst (λ q. IsBinarySearchResult (λ y. nat_cmp y c.args.event) c.self.inside.events.items q) c.in-Ok.is r))

pub returns-in_default-clause-left : goal.returns-in_default-clause-left
returns-in_default-clause-left c = λ other.
    let r = search_moved _ _ c.args.event _ c.as_slice.ensures.value c.binary_search.ensures.position in
    let w = range_moved _ _ c.binary_search.result c.as_slice.ensures.value c.binary_search.ensures.bound in
    let there : is_ok c.binary_search.result ≡ has c.args.event c.self.inside.events.items = has-searched _ _ _ c.self.invariant.0 w r in
    rw (← c.self.view_is) (not_there _ _ other (sym there ∙ ap is_ok c.in_default.is))
