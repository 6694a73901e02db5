use Rattle.std.proofs.Common.{◌≡◌, ◌==◌, ℕ, ◌<◌, ◌≤◌, true, false, sym, ◌∙◌, ap, subst, arith, length, List, Result, Err, is_ok, ◌⊎◌, inl, inr}
use Rattle.std.specs.List.{insert}
use Rattle.std.specs.List.Sorted.{IsBinarySearchResult, IsSearchInRange, IsStrictlySortedBy}
use Rattle.std.specs.Ordering.{nat_cmp}
use Rattle.ready_select.specs.Sets.{has}
use Rattle.ready_select.proofs.Sorted.{any-insert}
use Rattle.ready_select.proofs.Sets.{has-searched, has-again, sorted-place, search_moved, range_moved}
use Rattle.ready_select.proofs.event_set.EventSet.insert.Goals as goal

-- an event that isn't there finds room
room : (xs : List ℕ) (e : ℕ) → has e xs ≡ false → (has e xs ≡ true) ⊎ (length xs < 64) → length xs < 64
room xs e out (inl there) = absurd (cc)
room xs e out (inr fits) = fits

-- what a search that found no event says
missing : (xs ys : List ℕ) (e i : ℕ) (r : Result ℕ ℕ) → xs ≡ ys → IsStrictlySortedBy nat_cmp ys → IsSearchInRange r (length xs) → IsBinarySearchResult (λ y. nat_cmp y e) xs r → r ≡ Err i
    → (has e ys ≡ true) ⊎ (length ys < 64) → (i ≤ length ys) × (length ys < 64) × IsStrictlySortedBy nat_cmp (insert ys i e)
missing xs ys e i r is sorted bound place err fits =
    let w : IsSearchInRange (Err i) (length ys) = subst (λ q. IsSearchInRange q (length ys)) err (range_moved xs ys r is bound) in
    let p : IsBinarySearchResult (λ y. nat_cmp y e) ys (Err i) = subst (λ q. IsBinarySearchResult (λ y. nat_cmp y e) ys q) err (search_moved xs ys e r is place) in
    (w, room ys e (sym (has-searched ys e (Err i) sorted w p)) fits, sorted-place ys e i sorted w p)

pub insert-requires : goal.insert-requires
insert-requires c =
    let m = missing _ _ _ _ _ c.as_slice.ensures.value c.self.invariant.0 c.binary_search.ensures.bound c.binary_search.ensures.position c.in-Err.is (rw (← c.self.view_is) at c.requires) in
    (omega arith, (m.0, m.1))

pub invariant_of-self : goal.invariant_of-self
invariant_of-self c =
    let m = missing _ _ _ _ _ c.as_slice.ensures.value c.self.invariant.0 c.binary_search.ensures.bound c.binary_search.ensures.position c.in-Err.is (rw (← c.self.view_is) at c.requires) in
    (rw c.insert.ensures.items m.2, omega (arith, c.insert.ensures.len, m.1))

pub returns-in-Err-clause-added : goal.returns-in-Err-clause-added
returns-in-Err-clause-added c = λ other. rw (c.insert.ensures.items, ← c.self.view_is) (any-insert (λ y. y == other) c.self.inside.events.items c.in-Err.place c.args.event)

pub returns-in-Err-clause-rising : goal.returns-in-Err-clause-rising
returns-in-Err-clause-rising c = (invariant_of-self c).0

pub returns-in-Err-clause-few : goal.returns-in-Err-clause-few
returns-in-Err-clause-few c = (invariant_of-self c).1

pub returns-in_default-clause-added : goal.returns-in_default-clause-added
returns-in_default-clause-added c = λ other.
    let r = search_moved _ _ c.args.event _ c.as_slice.ensures.value c.binary_search.ensures.position in
    let w = range_moved _ _ c.binary_search.result c.as_slice.ensures.value c.binary_search.ensures.bound in
    let there : is_ok c.binary_search.result ≡ has c.args.event c.self.inside.events.items = has-searched _ _ _ c.self.invariant.0 w r in
    rw (← c.self.view_is) (has-again _ _ other (sym there ∙ ap is_ok c.in_default.is))
