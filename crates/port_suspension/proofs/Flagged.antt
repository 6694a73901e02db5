-- How the flags change with the list.
use Rattle.std.proofs.Common.{◌≡◌, ◌≢◌, ℕ, ◌<◌, eqb, Bool, true, false, ◌||◌, List, [], ◌∷◌, ◌++◌, length, drop, get_or, set, refl, sym, ap, ◌∙◌, subst, arith, ⊎_elim}
use Rattle.std.specs.Prelude.{Some, slice_get}
use Rattle.std.specs.List.{AllByRecursion, IsDistinct, list_any}
use Rattle.std.proofs.lemmas.Bool.{cases_eq, or_cases, or_right, eq-eqb, ne_eqb, eqb-true}
use Rattle.std.proofs.lemmas.Cmp.{nat_eq_equiv}
use Rattle.std.proofs.lemmas.List.{map-append, get_or-set_same, get_or-set_other, length-set}
use Rattle.std.proofs.lemmas.List.Folds.{list_any-append}
use Rattle.std.proofs.lemmas.Map.Keys.{IsDistinct-push}
use Rattle.suspend_list.specs.declared.list.Entry.{Entry as ListEntry}
use Rattle.suspend_list.specs.Entries.{Suspended, suspended, processes_of, is_listed}
use Rattle.port_suspension.specs.Flags.{IsFlagged}
use Rattle.port_suspension.proofs.Listing.{same-entry, nothing}

or-false : (b : Bool) → (b || false) ≡ b
or-false true = refl
or-false false = refl

-- one more entry
listed-push : (process : ℕ) (entries : List ListEntry) (e : ListEntry) → is_listed process (entries ++ e ∷ []) ≡ (is_listed process entries || eqb process e.process)
listed-push process entries e =
    ap (list_any (eqb process)) (map-append (λ (x : ListEntry). x.process) entries (e ∷ []))
    ∙ (list_any-append (eqb process) (processes_of entries) (e.process ∷ []) ∙ ap (λ b. is_listed process entries || b) (or-false (eqb process e.process)))

not-listed : (process : ℕ) (entries : List ListEntry) → AllByRecursion (λ p. eqb process p ≡ false) (processes_of entries) → is_listed process entries ≡ false
not-listed process [] all = refl
not-listed process (e ∷ entries) all = ap (λ b. b || is_listed process entries) all.0 ∙ not-listed process entries all.1

pub flagged-more : (flags : List Bool) (list : Suspended) (e : ListEntry) → IsFlagged flags list → e.process < list.places → is_listed e.process list.entries ≡ false
    → IsFlagged (set flags e.process true) (suspended (list.entries ++ e ∷ []) list.places)
flagged-more flags list e is within new = record {
  places = length-set flags e.process true ∙ is.places;
  below = λ process listed. ⊎_elim (λ old. is.below process old) (λ same. subst (λ n. n < list.places) (sym (eqb-true process e.process same)) within)
      (or_cases (is_listed process list.entries) (eqb process e.process) (sym (listed-push process list.entries e) ∙ listed));
  once = subst (IsDistinct eqb) (sym (map-append (λ (x : ListEntry). x.process) list.entries (e ∷ []))) (IsDistinct-push nat_eq_equiv (processes_of list.entries) e.process is.once new);
  told = λ process low. ⊎_elim
      (λ (same : process ≡ e.process). ap (λ n. get_or (set flags e.process true) n false) same
      ∙ (get_or-set_same flags e.process true false (omega (arith, is.places, within))
      ∙ sym (listed-push process list.entries e ∙ or_right (is_listed process list.entries) (eqb process e.process) (eq-eqb process e.process same))))
      (λ (other : process ≢ e.process). get_or-set_other flags e.process process true false other
      ∙ (is.told process low
      ∙ sym (listed-push process list.entries e ∙ (ap (λ b. is_listed process list.entries || b) (ne_eqb process e.process other) ∙ or-false (is_listed process list.entries)))))
      (cases_eq process e.process);
}

fewer : (flags : List Bool) (places : ℕ) (e : ListEntry) (entries : List ListEntry) → IsFlagged flags (suspended (e ∷ entries) places) → IsFlagged (set flags e.process false) (suspended entries places)
unfolding IsDistinct
fewer flags places e entries is = record {
  places = length-set flags e.process false ∙ is.places;
  below = λ process listed. is.below process (or_right (eqb process e.process) (is_listed process entries) listed);
  once = is.once.1;
  told = λ process low. ⊎_elim
      (λ (same : process ≡ e.process). ap (λ n. get_or (set flags e.process false) n false) same
      ∙ (get_or-set_same flags e.process false false (omega (arith, is.places, low, same))
      ∙ sym (ap (λ n. is_listed n entries) same ∙ not-listed e.process entries is.once.0)))
      (λ (other : process ≢ e.process). get_or-set_other flags e.process process false false other
      ∙ (is.told process low ∙ ap (λ b. b || is_listed process entries) (ne_eqb process e.process other)))
      (cases_eq process e.process);
}

pub flagged-fewer : (flags : List Bool) (places : ℕ) (entries : List ListEntry) (e : ListEntry) → IsFlagged flags (suspended entries places) → slice_get entries 0 ≡ Some e
    → IsFlagged (set flags e.process false) (suspended (drop 1 entries) places)
flagged-fewer flags places [] e is first = absurd (nothing e first)
flagged-fewer flags places (x ∷ entries) e is first =
    subst (λ (y : ListEntry). IsFlagged (set flags y.process false) (suspended entries places)) (same-entry x e first) (fewer flags places x entries is)

-- the first entry is of a process that has a place
pub first-within : (flags : List Bool) (places : ℕ) (entries : List ListEntry) (e : ListEntry) → IsFlagged flags (suspended entries places) → slice_get entries 0 ≡ Some e → e.process < length flags
first-within flags places [] e is first = absurd (nothing e first)
first-within flags places (x ∷ entries) e is first =
    let same : x.process ≡ e.process = ap (λ (y : ListEntry). y.process) (same-entry x e first) in
    let within : x.process < places = is.below x.process (ap (λ b. b || is_listed x.process entries) (eq-eqb x.process x.process refl)) in
    omega (arith, same, within, is.places)
