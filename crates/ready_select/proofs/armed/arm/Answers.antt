use Rattle.std.proofs.Common.{◌≡◌, ℕ, sym, ◌∙◌, ap, subst, length, List, Result, Err, is_ok}
use Rattle.std.specs.List.{insert}
use Rattle.std.specs.List.Sorted.{IsBinarySearchResult, IsSearchInRange, IsStrictlySortedBy}
use Rattle.ready_select.specs.declared.armed.Armed.{Armed}
use Rattle.ready_select.specs.Order.{armed_cmp}
use Rattle.ready_select.specs.Polling.{same_armed}
use Rattle.ready_select.proofs.Entries.{armed_total, armed_ties}
use Rattle.ready_select.proofs.Sorted.{sorted-insert, searched_place, any-insert, any-searched, any-again}
use Rattle.ready_select.proofs.armed.arm.Goals as goal

rising : (xs ys : List Armed) (x : Armed) (i : ℕ) (r : Result ℕ ℕ) → ys ≡ xs → r ≡ Err i → IsStrictlySortedBy armed_cmp xs → IsSearchInRange r (length ys) → IsBinarySearchResult (λ y. armed_cmp y x) ys r → IsStrictlySortedBy armed_cmp (insert xs i x)
rising xs ys x i r is err sorted bound place =
    let w : IsSearchInRange (Err i) (length xs) = subst (λ q. IsSearchInRange q (length xs)) err (subst (λ zs. IsSearchInRange r (length zs)) is bound) in
    let p : IsBinarySearchResult (λ y. armed_cmp y x) xs (Err i) = subst (λ q. IsBinarySearchResult (λ y. armed_cmp y x) xs q) err (subst (λ zs. IsBinarySearchResult (λ y. armed_cmp y x) zs r) is place) in
    sorted-insert armed_cmp armed_total xs i x sorted w (searched_place armed_cmp armed_total xs x i sorted p)

pub returns-in-Ok-clause-added : goal.returns-in-Ok-clause-added
returns-in-Ok-clause-added c = λ a. rw (c.insert.ensures.items, ap is_ok c.in-Ok.is) (any-insert (λ y. same_armed y a) c.args.entries.now.items c.in-Err.place c.args.armed)

pub returns-in-Ok-clause-rising : goal.returns-in-Ok-clause-rising
returns-in-Ok-clause-rising c = rw (c.insert.ensures.items, ap is_ok c.in-Ok.is) (rising _ _ c.args.armed c.in-Err.place _ c.deref.ensures.value c.in-Err.is c.requires.rising c.binary_search.ensures.bound c.binary_search.ensures.position)

pub returns-in_default-clause-added : goal.returns-in_default-clause-added
returns-in_default-clause-added c = λ a.
    let w = subst (λ zs. IsSearchInRange c.binary_search.result (length zs)) c.deref.ensures.value c.binary_search.ensures.bound in
    let p = subst (λ zs. IsBinarySearchResult (λ y. armed_cmp y c.args.armed) zs c.binary_search.result) c.deref.ensures.value c.binary_search.ensures.position in
    any-again armed_cmp armed_total same_armed armed_ties _ c.args.armed a (sym (any-searched armed_cmp armed_total same_armed armed_ties _ c.args.armed _ c.requires.rising w p) ∙ ap is_ok c.in_default.is)
