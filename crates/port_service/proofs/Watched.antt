-- What flags tell of the processes that are watched.
use Rattle.std.proofs.Common.{◌≡◌, ◌==◌, ◌||◌, ℕ, List, [], ◌∷◌, Bool, true, false, refl, ap, ◌∙◌, arith}
use Rattle.std.specs.Prelude.{nat_lt, if◌then◌else◌}
use Rattle.std.proofs.lemmas.Bool.Decides.{nat_tests}
use Rattle.port_model.specs.port_signal.Links.{has, with_process}
use Rattle.port_model.specs.declared.effect.Effect.{Effect}
use Rattle.port_model.specs.declared.effect.Effect.TheVariants as effect
use Rattle.port_history.specs.Ties.{watched_by}

or-left : (a b c : Bool) → (a || (b || c)) ≡ (b || (a || c))
or-left true true c = refl
or-left true false c = refl
or-left false b c = refl

or-twice : (a c : Bool) → (a || c) ≡ (a || (a || c))
or-twice true c = refl
or-twice false c = refl

at-place : (before same : Bool) (process other first : ℕ) (rest : List ℕ) → (same ≡ true → first ≡ other) → has process (with_process other rest) ≡ ((other == process) || has process rest)
    → has process (if before then other ∷ first ∷ rest else (if same then first ∷ rest else first ∷ with_process other rest)) ≡ ((other == process) || has process (first ∷ rest))
at-place true same process other first rest is more = refl
at-place false true process other first rest is more = rw (is refl) (or-twice (other == process) (has process rest))
at-place false false process other first rest is more = ap (λ b. (first == process) || b) more ∙ or-left (first == process) (other == process) (has process rest)

-- which processes are among these with one more
pub has-with : (process other : ℕ) (others : List ℕ) → has process (with_process other others) ≡ ((other == process) || has process others)
has-with process other [] = refl
has-with process other (first ∷ rest) =
    at-place (nat_lt other first) (first == other) process other first rest (λ e. grind (arith, nat_tests)) (has-with process other rest)

-- the effects watch one after another
pub watched-cons : (e : Effect) (effects : List Effect) (watched : List ℕ) → watched_by effects (watched_by (e ∷ []) watched) ≡ watched_by (e ∷ effects) watched
watched-cons (effect.Message flag bytes) effects watched = refl
watched-cons effect.Eof effects watched = refl
watched-cons (effect.Status status) effects watched = refl
watched-cons (effect.Busy busy) effects watched = refl
watched-cons (effect.Select event dir on) effects watched = refl
watched-cons (effect.Unuse event) effects watched = refl
watched-cons (effect.Async number key code input) effects watched = refl
watched-cons (effect.Watch process) effects watched = refl
watched-cons (effect.Reply bytes) effects watched = refl
watched-cons effect.ReplyBadarg effects watched = refl
watched-cons (effect.Fail reason) effects watched = refl
