-- What the list and a history say of the same entries.
use Rattle.std.proofs.Common.{◌≡◌, ℕ, eqb, cond, Bool, true, false, not, ◌||◌, ◌&&◌, List, [], ◌∷◌, map, drop, refl, sym, ap, ◌∙◌, subst}
use Rattle.std.specs.Prelude.{Option, Some, None, IfSome, IfNone, slice_get, is_some}
use Rattle.std.specs.List.{AllByRecursion, IsDistinct}
use Rattle.std.proofs.lemmas.Bool.{and_from, eq-eqb, not-false, true≢false}
use Rattle.suspend_list.specs.declared.list.Entry.{Entry as ListEntry}
use Rattle.suspend_list.specs.Entries.{Suspended, processes_of, is_listed, EachOnce}
use Rattle.port_history.specs.port_model.declared.signal.Sender.TheVariants.{Process}
use Rattle.port_history.specs.Suspension.{Entry, same_entry, has_sender, is_first, without_entry}
use Rattle.port_suspension.specs.Listed.{listed_as, AgreesListed}

pub has-listed : (process : ℕ) (entries : List ListEntry) → has_sender (Process process) (map listed_as entries) ≡ is_listed process entries
has-listed process [] = refl
has-listed process (e ∷ entries) = ap (λ b. eqb process e.process || b) (has-listed process entries)

same-itself : (e : ListEntry) → same_entry (listed_as e) (listed_as e) ≡ true
same-itself e = and_from (eqb e.process e.process) (eqb e.seq e.seq) (eq-eqb e.process e.process refl) (eq-eqb e.seq e.seq refl)

-- entries of other processes stay
kept : (first : ListEntry) (entries : List ListEntry) → AllByRecursion (λ p. eqb first.process p ≡ false) (processes_of entries) → without_entry (listed_as first) (map listed_as entries) ≡ map listed_as entries
kept first [] all = refl
kept first (e ∷ entries) all =
    let rest = without_entry (listed_as first) (map listed_as entries) in
    ap (λ b. cond (not (b && eqb first.seq e.seq)) (listed_as e ∷ rest) rest) all.0 ∙ ap (λ es. listed_as e ∷ es) (kept first entries all.1)

without-first : (e : ListEntry) (entries : List ListEntry) → EachOnce (e ∷ entries) → without_entry (listed_as e) (map listed_as (e ∷ entries)) ≡ map listed_as entries
unfolding IsDistinct
without-first e entries once =
    let rest = without_entry (listed_as e) (map listed_as entries) in
    ap (λ b. cond (not b) (listed_as e ∷ rest) rest) (same-itself e) ∙ kept e entries once.0

or_else : ListEntry → Option ListEntry → ListEntry
or_else d None = d
or_else d (Some e) = e

pub same-entry : (x e : ListEntry) → Some x ≡ Some e → x ≡ e
unfolding or_else
same-entry x e is = ap (or_else x) is

pub nothing : (e : ListEntry) → None ≡ Some e → ⊥
nothing e is = true≢false (sym (ap is_some is))

-- the first entry of the list is the first that is listed, and the others stay once it is resumed
pub first-listed : (entries : List ListEntry) (e : ListEntry) → slice_get entries 0 ≡ Some e → (listed : List Entry) → map listed_as entries ≡ listed → is_first (listed_as e) listed ≡ true
first-listed [] e is listed agrees = absurd (nothing e is)
first-listed (x ∷ entries) e is listed agrees = subst (λ (es : List Entry). is_first (listed_as e) es ≡ true) agrees (subst (λ (y : ListEntry). is_first (listed_as e) (listed_as y ∷ map listed_as entries) ≡ true) (sym (same-entry x e is)) (same-itself e))

pub resumed : (entries : List ListEntry) (e : ListEntry) → slice_get entries 0 ≡ Some e → EachOnce entries → (listed : List Entry) → map listed_as entries ≡ listed
    → map listed_as (drop 1 entries) ≡ without_entry (listed_as e) listed
resumed [] e is once listed agrees = absurd (nothing e is)
resumed (x ∷ entries) e is once listed agrees =
    sym (without-first x entries once) ∙ (ap (λ y. without_entry (listed_as y) (map listed_as (x ∷ entries))) (same-entry x e is) ∙ ap (without_entry (listed_as e)) agrees)

pub none-listed : (entries : List ListEntry) → slice_get entries 0 ≡ None → entries ≡ []
none-listed [] is = refl
none-listed (x ∷ entries) is = absurd (nothing x (sym is))

pub some-listed : (entries : List ListEntry) → map listed_as entries ≡ [] → slice_get entries 0 ≡ None
some-listed [] is = refl
some-listed (x ∷ entries) is = absurd (true≢false (sym (same-itself x) ∙ ap (is_first (listed_as x)) is))

none_from : {X : Type 0} (o : Option X) → is_some o ≡ false → o ≡ None
none_from None is = refl
none_from (Some x) is = absurd (true≢false is)

-- what the first entry of the list tells
pub first-some : (o : Option ListEntry) (v : Suspended) → o ≡ slice_get v.entries 0 → IfSome o (λ e. (listed : List Entry) → AgreesListed v listed → is_first (listed_as e) listed ≡ true)
first-some None v is = tt
first-some (Some e) v is = first-listed v.entries e (sym is)

pub first-none : (o : Option ListEntry) (v : Suspended) → o ≡ slice_get v.entries 0 → IfNone o (AgreesListed v [])
first-none None v is = ap (map listed_as) (none-listed v.entries (sym is))
first-none (Some e) v is = tt

pub empty-is : (o : Option ListEntry) (v : Suspended) (empty : Bool) → o ≡ slice_get v.entries 0 → is_some o ≡ not empty → (listed : List Entry) → AgreesListed v listed
    → (empty ≡ true → listed ≡ []) × (listed ≡ [] → empty ≡ true)
empty-is o v empty is some listed agrees = (
  λ none. sym agrees ∙ ap (map listed_as) (none-listed v.entries (sym is ∙ none_from o (some ∙ ap not none))),
  λ none. not-false empty (sym some ∙ ap is_some (is ∙ some-listed v.entries (agrees ∙ none))),
)
