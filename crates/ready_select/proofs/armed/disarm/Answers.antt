use Rattle.std.proofs.Common.{sym, ◌∙◌, ap, subst, length, is_ok}
use Rattle.std.specs.List.Sorted.{IsBinarySearchResult, IsSearchInRange}
use Rattle.ready_select.specs.Order.{armed_cmp}
use Rattle.ready_select.specs.Polling.{same_armed}
use Rattle.ready_select.proofs.Entries.{armed_total, armed_ties}
use Rattle.ready_select.proofs.Sorted.{sorted-remove, any-searched, any-removed, any-left}
use Rattle.ready_select.proofs.armed.disarm.Goals as goal

pub returns-in-Ok-clause-left : goal.returns-in-Ok-clause-left
returns-in-Ok-clause-left c = λ a.
    let w = subst (λ zs. IsSearchInRange c.binary_search.result (length zs)) c.deref.ensures.value c.binary_search.ensures.bound in
    let p = subst (λ zs. IsBinarySearchResult (λ y. armed_cmp y c.args.armed) zs c.binary_search.result) c.deref.ensures.value c.binary_search.ensures.position in
    rw c.remove.ensures.items (any-removed armed_cmp armed_total same_armed armed_ties c.args.entries.now.items c.args.armed a c.in-Ok.place c.requires
    (subst (λ q. IsSearchInRange q (length c.args.entries.now.items)) c.in-Ok.is w)
    (subst (λ q. IsBinarySearchResult (λ y. armed_cmp y c.args.armed) c.args.entries.now.items q) c.in-Ok.is p))

pub returns-in-Ok-clause-rising : goal.returns-in-Ok-clause-rising
returns-in-Ok-clause-rising c = rw c.remove.ensures.items (sorted-remove armed_cmp armed_total c.args.entries.now.items c.in-Ok.place c.requires)

pub returns-in_default-clause-left : goal.returns-in_default-clause-left
returns-in_default-clause-left c = λ a.
    let w = subst (λ zs. IsSearchInRange c.binary_search.result (length zs)) c.deref.ensures.value c.binary_search.ensures.bound in
    let p = subst (λ zs. IsBinarySearchResult (λ y. armed_cmp y c.args.armed) zs c.binary_search.result) c.deref.ensures.value c.binary_search.ensures.position in
    any-left armed_cmp armed_total same_armed armed_ties _ c.args.armed a (sym (any-searched armed_cmp armed_total same_armed armed_ties _ c.args.armed _ c.requires w p) ∙ ap is_ok c.in_default.is)
