-- A list whose elements go one after another behind another list.
use Rattle.std.proofs.Common.{◌≡◌, List, [], ◌∷◌, ◌++◌, Option, Some, map, length, sym, ap, ◌∙◌, append_assoc}
use Rattle.std.proofs.lemmas.List.{append-nil, map_push, nil_from_length}

module _ {A C : Type 0} (f : A → C) where
  pub moved : (all all' whole : List C) (rest rest' : List A) (x : A) (y : C) → all' ≡ all ++ y ∷ [] → y ≡ f x → rest ≡ x ∷ rest' → all ++ map f rest ≡ whole → all' ++ map f rest' ≡ whole
  moved all all' whole rest rest' x y put is next was =
      ap (λ l. l ++ map f rest') put ∙ append_assoc all (y ∷ []) (map f rest') ∙ ap (λ z. all ++ z ∷ map f rest') is ∙ ap (λ l. all ++ map f l) (sym next) ∙ was

  pub moved_all : (all whole : List C) (rest : List A) → length rest ≡ 0 → all ++ map f rest ≡ whole → all ≡ whole
  moved_all all whole rest none was = sym (append-nil all) ∙ ap (λ l. all ++ map f l) (sym (nil_from_length rest none)) ∙ was

module _ {A C : Type 0} (f : A → Option C) where
  pub moved_some : (all all' : List C) (whole : List (Option C)) (rest rest' : List A) (x : A) (y : C) → all' ≡ all ++ y ∷ [] → Some y ≡ f x → rest ≡ x ∷ rest' → map Some all ++ map f rest ≡ whole
      → map Some all' ++ map f rest' ≡ whole
  moved_some all all' whole rest rest' x y put is next was = moved f (map Some all) (map Some all') whole rest rest' x (Some y) (ap (map Some) put ∙ map_push Some all y) is next was
