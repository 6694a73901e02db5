-- A forest made from a list.
use Rattle.std.proofs.Common.{◌≡◌, ℕ, suc, ◌<◌, Bool, true, false, ◌&&◌, ◌^◌, List, [], ◌∷◌, length, map, pos, refl, sym, ap, ◌∙◌}
use Rattle.std.specs.List.{list_all}
use Rattle.std.proofs.lemmas.Bool.{ltb-true}
use Rattle.port_terms.specs.declared.values.Term.{Term}
use Rattle.port_terms.specs.Tree.{Tree, Forest, int, more, forest, count}
use Rattle.port_terms.specs.Spelling.{ints}
use Rattle.port_terms.specs.View.{tree, trees}
use Rattle.port_terms.specs.Written.{is_byte, are_bytes, is_string}

pub count_forest : (ts : List Tree) → count (forest ts) ≡ length ts
count_forest [] = refl
count_forest (t ∷ ts) = ap suc (count_forest ts)

pub count_trees : (ts : List Term) → count (forest (trees ts)) ≡ length ts
count_trees [] = refl
count_trees (t ∷ ts) = ap suc (count_trees ts)

pub count_is : (ts : List Term) (f : Forest) → forest (trees ts) ≡ f → count f ≡ length ts
count_is ts f e = ap count (sym e) ∙ count_trees ts

pub all_are_bytes : (ts : List Term) → list_all (λ t. is_byte (tree t)) ts ≡ are_bytes (forest (trees ts))
all_are_bytes [] = refl
all_are_bytes (t ∷ ts) = ap (λ (b : Bool). is_byte (tree t) && b) (all_are_bytes ts)

pub both : (a b : Bool) → (a && b) ≡ true → (a ≡ true) × (b ≡ true)
both true b e = (refl, e)
both false b e = absurd cc

pub string_is_short : (ts : Forest) → is_string ts ≡ true → count ts < 2 ^ 16
string_is_short ts e = ltb-true (count ts) (2 ^ 16) (both _ _ e).0

pub string_is_bytes : (ts : Forest) → is_string ts ≡ true → are_bytes ts ≡ true
string_is_bytes ts e = (both _ _ e).1

-- bytes, each as an integer
abbrev pub int_trees : List ℕ → List Tree
int_trees bytes = map (λ b. int (pos b)) bytes

pub ints_is : (bytes : List ℕ) → forest (int_trees bytes) ≡ ints bytes
ints_is [] = refl
ints_is (b ∷ bytes) = ap (more (int (pos b))) (ints_is bytes)
