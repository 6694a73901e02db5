-- A process that is not listed has a place.
use Rattle.std.proofs.Common.{◌≡◌, ℕ, ◌<◌, Bool, true, false, eqb, List, [], ◌∷◌, ◌++◌, length, drop, sym, refl, ap, ◌∙◌, subst, arith, ⊎_elim, ◌||◌, inl, inr, ◌⊎◌, true≢false}
use Rattle.std.proofs.lemmas.List.{map-append, length-map, length_push}
use Rattle.std.proofs.lemmas.List.Folds.{list_any-append}
use Rattle.std.proofs.lemmas.Bool.{eqb-true}
use Rattle.std.proofs.lemmas.Cmp.{nat_eq_equiv}
use Rattle.std.proofs.lemmas.Map.Keys.{IsDistinct-push}
use Rattle.std.proofs.lemmas.Map.Steps.{length-le_from_distinct_below}
use Rattle.std.specs.List.{IsDistinct, list_any}
use Rattle.circular_buffer.specs.Buffer.{Buffer, buffer}
use Rattle.suspend_list.specs.declared.list.Entry.{Entry}
use Rattle.suspend_list.specs.Entries.{processes_of, is_listed, EachOnce, AllBelow}

or_either : (a b : Bool) → (a || b) ≡ true → (a ≡ true) ⊎ (b ≡ true)
or_either true b is = inl refl
or_either false b is = inr is

either_or : (a b : Bool) → b ≡ true → (a || b) ≡ true
either_or true b is = refl
either_or false b is = is

-- one more process
pub once_more : (es : List Entry) (e : Entry) → EachOnce es → is_listed e.process es ≡ false → EachOnce (es ++ e ∷ [])
once_more es e once new = subst (IsDistinct eqb) (sym (map-append (λ (x : Entry). x.process) es (e ∷ []))) (IsDistinct-push nat_eq_equiv (processes_of es) e.process once new)

pub below_more : (places : ℕ) (es : List Entry) (e : Entry) → AllBelow places es → e.process < places → AllBelow places (es ++ e ∷ [])
below_more places es e below its p listed =
    ⊎_elim
    (λ old. below p old)
    (λ new. ⊎_elim
    (λ same. let is = eqb-true p e.process same in omega arith)
    (λ none. absurd (true≢false (sym none)))
    (or_either (eqb p e.process) false new))
    (or_either (is_listed p es) (list_any (eqb p) (e.process ∷ [])) (sym (list_any-append (eqb p) (processes_of es) (e.process ∷ [])) ∙ ap (list_any (eqb p)) (sym (map-append (λ (x : Entry). x.process) es (e ∷ []))) ∙ listed))

-- and there is room for it
pub has_room : (places : ℕ) (es : List Entry) (e : Entry) → EachOnce es → AllBelow places es → is_listed e.process es ≡ false → e.process < places → length es < places
has_room places es e once below new its =
    let most = length-le_from_distinct_below (processes_of (es ++ e ∷ [])) places (once_more es e once new) (below_more places es e below its) in
    let count = length-map (es ++ e ∷ []) (λ (x : Entry). x.process) in
    let more = length_push es e in
    omega arith

-- the others, once the first one went
pub once_fewer : (es : List Entry) → EachOnce es → EachOnce (drop 1 es)
unfolding IsDistinct
once_fewer [] once = once
once_fewer (e ∷ es) once = once.1

pub below_fewer : (places : ℕ) (es : List Entry) → AllBelow places es → AllBelow places (drop 1 es)
below_fewer places [] below p listed = below p listed
below_fewer places (e ∷ es) below p listed = below p (either_or (eqb p e.process) (is_listed p es) listed)

once_none : EachOnce []
unfolding IsDistinct
once_none = tt

-- what is kept of the entries of a list with so many places
abbrev pub Kept : Buffer Entry → Type 0
Kept b = EachOnce b.items × AllBelow b.capacity b.items

pub kept_new : (b : Buffer Entry) (places : ℕ) → b ≡ buffer [] places → Kept b
kept_new b places is = subst Kept (sym is) (once_none, (λ p listed. absurd (true≢false (sym listed))))

pub kept_fewer : (b after : Buffer Entry) → after ≡ buffer (drop 1 b.items) b.capacity → Kept b → Kept after
kept_fewer b after is kept = subst Kept (sym is) (once_fewer b.items kept.0, below_fewer b.capacity b.items kept.1)

pub kept_more : (b after : Buffer Entry) (e : Entry) → after ≡ buffer (b.items ++ e ∷ []) b.capacity → Kept b → is_listed e.process b.items ≡ false → e.process < b.capacity → Kept after
kept_more b after e is kept new its = subst Kept (sym is) (once_more b.items e kept.0 new, below_more b.capacity b.items e kept.1 its)
