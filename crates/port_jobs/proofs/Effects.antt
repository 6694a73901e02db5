-- What effects submit, taken apart.
use Rattle.std.proofs.Common.{◌≡◌, ℕ, ◌+◌, eqb, Bool, true, false, ◌&&◌, List, [], ◌∷◌, ◌++◌, length, refl, sym, ap, ◌∙◌, append_assoc, add-zero}
use Rattle.std.proofs.lemmas.Bool.{and_parts, eqb-true}
use Rattle.port_model.specs.declared.effect.Effect.{Effect}
use Rattle.port_model.specs.declared.effect.Effect.TheVariants as effect
use Rattle.port_history.specs.Jobs.{submitted_by}
use Rattle.port_jobs.specs.Jobs.{are_next, is_code}

pub submitted-cons : (e : Effect) (effects : List Effect) → submitted_by (e ∷ effects) ≡ submitted_by (e ∷ []) ++ submitted_by effects
submitted-cons (effect.Message flag bytes) effects = refl
submitted-cons effect.Eof effects = refl
submitted-cons (effect.Status status) effects = refl
submitted-cons (effect.Busy busy) effects = refl
submitted-cons (effect.Select event dir on) effects = refl
submitted-cons (effect.Unuse event) effects = refl
submitted-cons (effect.Async number key code input) effects = refl
submitted-cons (effect.Watch process) effects = refl
submitted-cons (effect.Reply bytes) effects = refl
submitted-cons effect.ReplyBadarg effects = refl
submitted-cons (effect.Fail reason) effects = refl

pub submitted-append : (xs ys : List Effect) → submitted_by (xs ++ ys) ≡ submitted_by xs ++ submitted_by ys
submitted-append [] ys = refl
submitted-append (e ∷ xs) ys =
    submitted-cons e (xs ++ ys)
    ∙ (ap (λ jobs. submitted_by (e ∷ []) ++ jobs) (submitted-append xs ys)
    ∙ (sym (append_assoc (submitted_by (e ∷ [])) (submitted_by xs) (submitted_by ys)) ∙ ap (λ jobs. jobs ++ submitted_by ys) (sym (submitted-cons e xs))))

and-true : (a b : Bool) → (a && b) ≡ ((a && true) && b)
and-true true b = refl
and-true false b = refl

-- an effect that submits no job
none-next : (next : ℕ) (effects : List Effect) → are_next next effects ≡ are_next (next + 0) effects
none-next next effects = ap (λ n. are_next n effects) (sym (add-zero next))

-- the jobs of the first effect are the next ones, and those of the others go on behind them
pub next-cons : (next : ℕ) (e : Effect) (effects : List Effect) → are_next next (e ∷ effects) ≡ (are_next next (e ∷ []) && are_next (next + length (submitted_by (e ∷ []))) effects)
next-cons next (effect.Message flag bytes) effects = none-next next effects
next-cons next effect.Eof effects = none-next next effects
next-cons next (effect.Status status) effects = none-next next effects
next-cons next (effect.Busy busy) effects = none-next next effects
next-cons next (effect.Select event dir on) effects = none-next next effects
next-cons next (effect.Unuse event) effects = none-next next effects
next-cons next (effect.Async number key code input) effects = and-true ((eqb number next) && is_code code) (are_next (next + 1) effects)
next-cons next (effect.Watch process) effects = none-next next effects
next-cons next (effect.Reply bytes) effects = none-next next effects
next-cons next effect.ReplyBadarg effects = none-next next effects
next-cons next (effect.Fail reason) effects = none-next next effects

-- the number of a job that is the next one
pub next-number : (next number key code : ℕ) (input : List ℕ) → are_next next (effect.Async number key code input ∷ []) ≡ true → number ≡ next
next-number next number key code input is = eqb-true number next (and_parts (eqb number next) (is_code code) (and_parts ((eqb number next) && is_code code) true is).0).0
