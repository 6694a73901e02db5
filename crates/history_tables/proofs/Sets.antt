-- Sets of numbers, as lists of a history have them.
use Rattle.std.proofs.Common.{◌≡◌, ◌==◌, ℕ, Bool, true, false, ◌||◌, not, eqb, cond, List, [], ◌∷◌, refl, sym, ap, ◌∙◌, arith}
use Rattle.std.specs.Prelude.{nat_lt, if◌then◌else◌}
use Rattle.std.specs.Ordering.{nat_cmp}
use Rattle.std.specs.BTreeMap.{is_at}
use Rattle.std.specs.BTreeSet.{BTreeSet, contains}
use Rattle.std.proofs.lemmas.Bool.Decides.{nat_tests}
use Rattle.port_signal.specs.Links.{has, with_process, without_process}
use Rattle.port_model.specs.declared.effect.Effect.{Effect}
use Rattle.port_model.specs.declared.effect.Effect.TheVariants as effect
use Rattle.port_history.specs.Ties.{watched_by}
use Rattle.history_tables.proofs.Keys.{numbers}

or-left : (a b c : Bool) → (a || (b || c)) ≡ (b || (a || c))
or-left true true c = refl
or-left true false c = refl
or-left false b c = refl

or-twice : (a c : Bool) → (a || c) ≡ (a || (a || c))
or-twice true c = refl
or-twice false c = refl

at-place : (before same : Bool) (process other first : ℕ) (rest : List ℕ) → (same ≡ true → first ≡ other) → has process (with_process other rest) ≡ ((other == process) || has process rest)
    → has process (if before then other ∷ first ∷ rest else (if same then first ∷ rest else first ∷ with_process other rest)) ≡ ((other == process) || has process (first ∷ rest))
at-place true same process other first rest is more = refl
at-place false true process other first rest is more = rw (is refl) (or-twice (other == process) (has process rest))
at-place false false process other first rest is more = ap (λ b. (first == process) || b) more ∙ or-left (first == process) (other == process) (has process rest)

-- which numbers are among these with one more
pub has-with : (process other : ℕ) (others : List ℕ) → has process (with_process other others) ≡ ((other == process) || has process others)
has-with process other [] = refl
has-with process other (first ∷ rest) =
    at-place (nat_lt other first) (first == other) process other first rest (λ e. grind (arith, nat_tests)) (has-with process other rest)

-- and without one
pub has-without : (process other : ℕ) (others : List ℕ) → has process (without_process other others) ≡ cond (other == process) false (has process others)
has-without process other [] = none (other == process) where
  none : (b : Bool) → false ≡ cond b false false
  none true = refl
  none false = refl
has-without process other (first ∷ rest) = by-first (first == other) refl (has-without process other rest) where
  taken : (b : Bool) (x : Bool) → cond b false x ≡ cond b false (b || x)
  taken true x = refl
  taken false x = refl

  kept : (b c x : Bool) → (b ≡ true → c ≡ false) → (b || cond c false x) ≡ cond c false (b || x)
  kept true true x apart = absurd (let e = apart refl in cc)
  kept true false x apart = refl
  kept false c x apart = refl

  by-first : (b : Bool) → (first == other) ≡ b → has process (without_process other rest) ≡ cond (other == process) false (has process rest)
      → has process (cond (not b) (first ∷ without_process other rest) (without_process other rest)) ≡ cond (other == process) false ((first == process) || has process rest)
  by-first true same more =
      let e : first ≡ other = grind (arith, nat_tests) in
      more ∙ rw e (taken (other == process) (has process rest))
  by-first false apart more =
      ap (λ b. (first == process) || b) more ∙ kept (first == process) (other == process) (has process rest) (λ e. grind (arith, nat_tests))

or-cond : (b x : Bool) → cond b true x ≡ (b || x)
or-cond true x = refl
or-cond false x = refl

-- a number went into a set
pub inserted : (k : ℕ) (old new : BTreeSet ℕ) (xs : List ℕ) → ((q : ℕ) → contains nat_cmp new q ≡ cond (is_at (nat_cmp k) q) true (contains nat_cmp old q))
    → ((p : ℕ) → contains nat_cmp old p ≡ has p xs) → (p : ℕ) → contains nat_cmp new p ≡ has p (with_process k xs)
inserted k old new xs updates is p =
    updates p ∙ (ap (λ b. cond b true (contains nat_cmp old p)) (numbers k p) ∙ (ap (λ b. cond (eqb k p) true b) (is p)
    ∙ (or-cond (eqb k p) (has p xs) ∙ sym (has-with p k xs))))

-- a number was taken out of a set
pub removed : (k : ℕ) (old new : BTreeSet ℕ) (xs : List ℕ) → ((q : ℕ) → contains nat_cmp new q ≡ cond (is_at (nat_cmp k) q) false (contains nat_cmp old q))
    → ((p : ℕ) → contains nat_cmp old p ≡ has p xs) → (p : ℕ) → contains nat_cmp new p ≡ has p (without_process k xs)
removed k old new xs updates is p =
    updates p ∙ (ap (λ b. cond b false (contains nat_cmp old p)) (numbers k p) ∙ (ap (λ b. cond (eqb k p) false b) (is p) ∙ sym (has-without p k xs)))

-- the effects watch one after another
pub watched-cons : (e : Effect) (effects : List Effect) (watched : List ℕ) → watched_by effects (watched_by (e ∷ []) watched) ≡ watched_by (e ∷ effects) watched
watched-cons (effect.Message flag bytes) effects watched = refl
watched-cons effect.Eof effects watched = refl
watched-cons (effect.Status status) effects watched = refl
watched-cons (effect.Busy busy) effects watched = refl
watched-cons (effect.Select event dir on) effects watched = refl
watched-cons (effect.Unuse event) effects watched = refl
watched-cons (effect.Async number key code input) effects watched = refl
watched-cons (effect.Watch process) effects watched = refl
watched-cons (effect.Reply bytes) effects watched = refl
watched-cons effect.ReplyBadarg effects watched = refl
watched-cons (effect.Fail reason) effects watched = refl
