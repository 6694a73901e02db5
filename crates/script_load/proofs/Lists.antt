-- The processes and the ports, one after the other.
use Rattle.std.proofs.Common.{◌≡◌, ℕ, zero, suc, ◌+◌, ◌<◌, List, [], ◌∷◌, ◌++◌, take, map, refl, sym, ap, ◌∙◌, arith}
use Rattle.std.specs.List.{flat_map}
use Rattle.std.proofs.lemmas.List.{map_push, flat_map_more}
use Rattle.script_plan.specs.declared.step.Step.{Step}
use Rattle.script_load.specs.Load.{processes, ports, steps_of}

pub next_process : (k : ℕ) → k < 8 → take (k + 1) processes ≡ take k processes ++ k ∷ []
next_process zero h = refl
next_process (suc zero) h = refl
next_process (suc (suc zero)) h = refl
next_process (suc (suc (suc zero))) h = refl
next_process (suc (suc (suc (suc zero)))) h = refl
next_process (suc (suc (suc (suc (suc zero))))) h = refl
next_process (suc (suc (suc (suc (suc (suc zero)))))) h = refl
next_process (suc (suc (suc (suc (suc (suc (suc zero))))))) h = refl
next_process (suc (suc (suc (suc (suc (suc (suc (suc k)))))))) h = absurd (omega arith)

pub next_port : (k : ℕ) → k < 4 → take (k + 1) ports ≡ take k ports ++ k ∷ []
next_port zero h = refl
next_port (suc zero) h = refl
next_port (suc (suc zero)) h = refl
next_port (suc (suc (suc zero))) h = refl
next_port (suc (suc (suc (suc k)))) h = absurd (omega arith)

pub pushed : {A : Type 0} (f : ℕ → A) (items : List A) (n : ℕ) (x : A) (ns more : List ℕ) → items ≡ map f ns → x ≡ f n → more ≡ ns ++ n ∷ [] → items ++ x ∷ [] ≡ map f more
pushed {A} f items n x ns more e g h =
    ap (λ (xs : List A). xs ++ x ∷ []) e ∙ ap (λ (y : A). map f ns ++ y ∷ []) g ∙ sym (map_push f ns n) ∙ ap (λ (ms : List ℕ). map f ms) (sym h)

pub more_steps : (new old : List Step) (xs ys : List ℕ) (p : ℕ) → p < 8 → new ≡ old ++ steps_of ys p → ys ≡ xs → old ≡ flat_map (steps_of xs) (take p processes) → new ≡ flat_map (steps_of xs) (take (p + 1) processes)
more_steps new old xs ys p h e same inv =
    e ∙ ap (λ (zs : List ℕ). old ++ steps_of zs p) same ∙ ap (λ (ss : List Step). ss ++ steps_of xs p) inv
    ∙ flat_map_more (steps_of xs) [] (take p processes) p ∙ ap (λ (ps : List ℕ). flat_map (steps_of xs) ps) (sym (next_process p h))
