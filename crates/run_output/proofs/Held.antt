-- What files hold after writes.
use Rattle.std.proofs.Common.{◌≡◌, ℕ, ◌⊎◌, inl, inr, List, [], ◌∷◌, ◌++◌, Option, refl, sym, ap, ◌∙◌, true≢false}
use Rattle.std.specs.Prelude.{Some, None, IfSome, true, false, if◌then◌else◌}
use Rattle.std.specs.Str.{bytes_eq}
use Rattle.std.proofs.lemmas.Bool.{cases_Bool}
use Rattle.std.proofs.lemmas.Slice.Eq.{bytes_eq-Decides}
use Rattle.outside.specs.Causes.{Told}
use Rattle.outside.specs.Causes.{OthersStay as OthersStayBut}
use Rattle.outside.specs.Log.{NamedBytes}
use Rattle.run_output.specs.Ends.{OthersStay, HoldWritten, held_after}

held-same : (all : List NamedBytes) (f g : List ℕ → Option (List ℕ)) → ((name : List ℕ) → f name ≡ g name) → (name : List ℕ) → held_after all f name ≡ held_after all g name
held-same [] f g same name = same name
held-same (write ∷ all) f g same name =
    held-same all (λ other. if bytes_eq write.name other then Some write.bytes else f other) (λ other. if bytes_eq write.name other then Some write.bytes else g other)
    (λ other. ap (λ (held : Option (List ℕ)). if bytes_eq write.name other then Some write.bytes else held) (same other)) name

held-append : (all more : List NamedBytes) (f : List ℕ → Option (List ℕ)) (name : List ℕ) → held_after (all ++ more) f name ≡ held_after more (held_after all f) name
held-append [] more f name = refl
held-append (write ∷ all) more f name = held-append all more (λ other. if bytes_eq write.name other then Some write.bytes else f other) name

-- without a write all stays
pub hold-none : (told : Told) → HoldWritten told told []
hold-none None = tt
hold-none (Some files) = λ name. refl

-- further writes behind the first ones
pub hold-then : (old mid new : Told) (all more : List NamedBytes) → OthersStay old mid all → HoldWritten old mid all → HoldWritten mid new more → HoldWritten old new (all ++ more)
hold-then None mid new all more others h k = tt
hold-then (Some f) None new all more others h k = absurd others
hold-then (Some f) (Some m) None all more others h k = tt
hold-then (Some f) (Some m) (Some n) all more others h k = λ name. k name ∙ held-same more m (held_after all f) h name ∙ sym (held-append all more f name)

-- one write
pub hold-one : (old new : Told) (write : NamedBytes) → OthersStayBut old new write.name → IfSome new (λ files. files write.name ≡ Some write.bytes) → HoldWritten old new (write ∷ [])
hold-one None new write others holds = tt
hold-one (Some f) None write others holds = tt
hold-one (Some f) (Some n) write others holds = λ name. at name (cases_Bool (bytes_eq write.name name))
  where
    at : (name : List ℕ) → (bytes_eq write.name name ≡ true) ⊎ (bytes_eq write.name name ≡ false) → n name ≡ held_after (write ∷ []) f name
    at name (inl e) = rw e (ap n (sym ((bytes_eq-Decides write.name name).0 e)) ∙ holds)
    at name (inr e) = rw e (others name (λ same. true≢false (sym ((bytes_eq-Decides write.name name).1 (sym same)) ∙ e)))
