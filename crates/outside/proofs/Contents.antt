-- What a list of files holds after one of them was written.
use Rattle.std.proofs.Common.{◌≡◌, ◌≢◌, ℕ, zero, suc, ◌+◌, ◌<◌, ◌≤◌, Bool, true, false, List, [], ◌∷◌, ◌++◌, length, get_or, set, None, Some, cond, not, find, refl, sym, ap, arith}
use Rattle.std.specs.List.{position, position_or_len}
use Rattle.std.specs.Option.{option_map}
use Rattle.std.specs.Str.{bytes_eq}
use Rattle.std.proofs.lemmas.List.Quantifiers.{position-Some}
use Rattle.std.proofs.lemmas.Slice.Eq.{bytes_eq-Decides}
use Rattle.std.proofs.lemmas.Bool.{false_from_ne_true}
use Rattle.outside.specs.Disk.{File, Rewrites}

-- a list whose first element to pass was replaced by one that passes
find-set_first : (p : File → Bool) (files : List File) (i : ℕ) (d file : File) → i < length files
    → ((k : ℕ) → k < i → p (get_or files k d) ≡ false) → p file ≡ true
    → find p (set files i file) ≡ Some file
find-set_first p [] i d file within before passes = absurd (omega arith)
find-set_first p (x ∷ xs) zero d file within before passes = rw passes refl
find-set_first p (x ∷ xs) (suc i) d file within before passes =
    rw (before 0 (omega arith)) (find-set_first p xs i d file (omega arith) (λ k below. before (suc k) (omega arith)) passes)

-- an element that fails was replaced by one that fails
find-set_failing : (p : File → Bool) (files : List File) (i : ℕ) (d file : File)
    → p (get_or files i d) ≡ false → p file ≡ false → find p (set files i file) ≡ find p files
find-set_failing p [] i d file fails fails' = refl
find-set_failing p (x ∷ xs) zero d file fails fails' = rw (fails, fails') refl
find-set_failing p (x ∷ xs) (suc i) d file fails fails' =
    ap (λ rest. cond (p x) (Some x) rest) (find-set_failing p xs i d file fails fails')

-- an element that passes came at the end, where none did
find-push_first : (p : File → Bool) (files : List File) (file : File)
    → find p files ≡ None → p file ≡ true → find p (files ++ file ∷ []) ≡ Some file
find-push_first p [] file none passes = rw passes refl
find-push_first p (x ∷ xs) file none passes =
    elim (p x) as (λ b. cond b (Some x) (find p xs) ≡ None → cond b (Some x) (find p (xs ++ file ∷ [])) ≡ Some file) [
      | true ↦ λ h. absurd (cc)
      | false ↦ λ h. find-push_first p xs file h passes
    ] none

-- an element that fails came at the end
find-push_failing : (p : File → Bool) (files : List File) (file : File)
    → p file ≡ false → find p (files ++ file ∷ []) ≡ find p files
find-push_failing p [] file fails = rw fails refl
find-push_failing p (x ∷ xs) file fails = ap (λ rest. cond (p x) (Some x) rest) (find-push_failing p xs file fails)

-- a list where no place passes
find-no_place : (p : File → Bool) (files : List File) → length files ≤ position_or_len p files → find p files ≡ None
find-no_place p [] none = refl
find-no_place p (x ∷ xs) none =
    elim (p x) as (λ b. length xs + 1 ≤ cond (not b) (1 + position_or_len p xs) 0 → cond b (Some x) (find p xs) ≡ None) [
      | true ↦ λ h. absurd (omega (arith, h))
      | false ↦ λ h. find-no_place p xs (omega (arith, h))
    ] (omega (arith, none))

position-None : (p : File → Bool) (files : List File) → position p files ≡ None → length files ≤ position_or_len p files
position-None p files none = grind (arith, none)

-- the test of one name fails at another
is_not_named : (name other : List ℕ) → other ≢ name → bytes_eq name other ≡ false
is_not_named name other differs = false_from_ne_true (bytes_eq name other) (λ same. differs (sym ((bytes_eq-Decides name other).0 same)))

-- the first file of a name was replaced by one of that name
pub Rewrites-set : (files : List File) (i : ℕ) (file : File) (name : List ℕ)
    → position (λ f. bytes_eq f.name name) files ≡ Some i → file.name ≡ name
    → Rewrites files (set files i file) name file.bytes
Rewrites-set files i file name at named =
    let found = position-Some (λ (f : File). bytes_eq f.name name) files i file at in
    let old_name = (bytes_eq-Decides (get_or files i file).name name).0 found.1 in
    record {
      named = ap (option_map (λ (f : File). f.bytes)) (find-set_first (λ f. bytes_eq f.name name) files i file file found.0 found.2 ((bytes_eq-Decides file.name name).1 named));
      others = λ other differs.
          ap (option_map (λ (f : File). f.bytes)) (find-set_failing (λ f. bytes_eq f.name other) files i file file
          (rw old_name (is_not_named name other differs)) (rw named (is_not_named name other differs)));
    }

-- no file had the name, and one of that name came at the end
pub Rewrites-push : (files : List File) (file : File) (name : List ℕ)
    → position (λ f. bytes_eq f.name name) files ≡ None → file.name ≡ name
    → Rewrites files (files ++ file ∷ []) name file.bytes
Rewrites-push files file name none named =
    let absent = find-no_place (λ (f : File). bytes_eq f.name name) files (position-None _ files none) in
    record {
      named = ap (option_map (λ (f : File). f.bytes)) (find-push_first (λ f. bytes_eq f.name name) files file absent ((bytes_eq-Decides file.name name).1 named));
      others = λ other differs. ap (option_map (λ (f : File). f.bytes)) (find-push_failing (λ f. bytes_eq f.name other) files file (rw named (is_not_named name other differs)));
    }
