-- The names of bodies as they stand at home, beside what else is in them.
use Rattle.std.proofs.Common.{◌≡◌, suc, List, [], ◌∷◌, length, map, refl, sym, ap, ◌∙◌}
use Rattle.port_words.specs.home.Seats.{HomeKnown}
use Rattle.port_sched.specs.Closing.{AreLastBodies}

map_after : {A C D : Type 0} (g : C → D) (f : A → C) (xs : List A) → map g (map f xs) ≡ map (λ x. g (f x)) xs
map_after g f [] = refl
map_after g f (x ∷ xs) = ap (λ l. g (f x) ∷ l) (map_after g f xs)

map_same : {A D : Type 0} (f g : A → D) → ((x : A) → f x ≡ g x) → (xs : List A) → map f xs ≡ map g xs
map_same f g is [] = refl
map_same f g is (x ∷ xs) = ap (λ z. z ∷ map f xs) (is x) ∙ ap (λ l. g x ∷ l) (map_same f g is xs)

-- where the whole names are the same, so are those of the bodies alone
pub body_names : {L B N W : Type 0} (body : L → B) (name : B → N) (whole : L → N × W) → ((l : L) → (whole l).0 ≡ name (body l)) → (last first : List L) → map whole last ≡ map whole first
    → map name (map body last) ≡ map (λ l. name (body l)) first
body_names {L} {B} {N} {W} body name whole is last first same =
    let front = λ (w : N × W). w.0 in
    map_after name body last ∙ sym (map_same (λ l. (whole l).0) (λ l. name (body l)) is last) ∙ sym (map_after front whole last) ∙ ap (map front) same ∙ map_after front whole first
    ∙ map_same (λ l. (whole l).0) (λ l. name (body l)) is first

-- one comes out of each home
pub last_many : {L N : Type 0} (name : L → N) (homes : List (HomeKnown L)) (last : List L) → AreLastBodies name homes last → length last ≡ length homes
last_many name [] [] are = refl
last_many name [] (x ∷ xs) are = absurd are
last_many name (h ∷ hs) [] are = absurd are
last_many name (h ∷ hs) (x ∷ xs) are = ap suc (last_many name hs xs are.1)
